-- A number written as its digits is a word, and a number.
use Prim.Native.Nat.{ℕ}
use mathlib.Core.Path.{◌≡◌}
use mathlib.Core.Bool.{true}
use native.Mathlib.Omega.{arith}
use borrow.Author.Tests.{le-leb, eq-eqb, ne_eqb}
use lib.ListN.{length, get_or}
use Rattle.chart.proofs.PlaceLaws.{and_both}
use Rattle.text.specs.Texts.{digits_of}
use Rattle.text.proofs.Digits.{IsDigit, all_digits, digits_some}
use Rattle.parsing.specs.Words.{run, is_in_word}
use Rattle.parsing.specs.Numbers.{is_digit, is_number}
use Rattle.parsing.proofs.WordLaws.{IsWord, run_all}

digit_is : (b : ℕ) → IsDigit b → is_digit b ≡ true
digit_is b d = and_both (le-leb 48 b d.low) (le-leb b 57 d.high)

digit_in_word : (b : ℕ) → IsDigit b → is_in_word b ≡ true
digit_in_word b d =
    rw (
      ne_eqb b 32 (λ e. omega (arith, d.low)),
      ne_eqb b 9 (λ e. omega (arith, d.low)),
      ne_eqb b 13 (λ e. omega (arith, d.low)),
    )

pub digits_word : (n : ℕ) → IsWord (digits_of n)
digits_word n =
    record {
      some = digits_some n;
      whole = run_all is_in_word (digits_of n) (λ i l. digit_in_word (get_or (digits_of n) i 0) (all_digits n i l));
    }

pub digits_number : (n : ℕ) → is_number (digits_of n) ≡ true
digits_number n =
    and_both (le-leb 1 (length (digits_of n)) (digits_some n))
    (eq-eqb (run is_digit (digits_of n)) (length (digits_of n))
    (run_all is_digit (digits_of n) (λ i l. digit_is (get_or (digits_of n) i 0) (all_digits n i l))))
