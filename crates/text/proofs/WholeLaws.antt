-- Numbers in decimal: the library writes the same text; and how long a whole number is.
use Prim.Native.Nat.{ℕ, suc, ◌+◌, ◌%◌, ◌^◌, ◌≤◌, ◌<◌}
use mathlib.Core.Path.{◌≡◌, sym, ap, ◌∙◌}
use mathlib.Core.List.{List, [], ◌∷◌, ◌++◌}
use native.Mathlib.Omega.{arith}
use lib.IntN.{ℤ, pos, negsuc, nat_abs}
use lib.ListN.{length}
use Rattle.text.specs.Texts.{digits_of, whole_text}
use Rattle.std.specs.Fmt.{decimal, signed_decimal}
use Rattle.std.proofs.lemmas.Fmt.{decimal_digit, decimal_step}
use Rattle.text.proofs.Digits.{digits_few, digits_more, digits_within, by_digits}

-- The library writes the same digits.
pub decimal_is : (n : ℕ) → n < 2 ^ 64 → decimal n ≡ digits_of n
decimal_is =
    by_digits (λ (n : ℕ). n < 2 ^ 64 → decimal n ≡ digits_of n)
    (λ n h small. decimal_digit n h ∙ sym (digits_few n h))
    (λ n h tenth small. decimal_step n h small ∙ ap (λ (l : List ℕ). l ++ ((48 + n % 10) ∷ [])) (tenth (omega arith)) ∙ sym (digits_more n h))

pub signed_is : (z : ℤ) → nat_abs z < 2 ^ 64 → signed_decimal z ≡ whole_text z
unfolding whole_text
signed_is (pos n) h = decimal_is n h
signed_is (negsuc n) h = ap (λ (l : List ℕ). 45 ∷ l) (decimal_is (suc n) h)

-- A whole number has at most one byte more than its size has digits: at most twenty in all for a number of 64 bits.
pub whole_within : (z : ℤ) → length (whole_text z) ≤ 1 + length (digits_of (nat_abs z))
unfolding whole_text
whole_within (pos n) = omega arith
whole_within (negsuc n) = omega arith

pub whole_64 : (z : ℤ) → nat_abs z ≤ 2 ^ 63 → length (whole_text z) ≤ 20
whole_64 z h = omega (arith, whole_within z, digits_within 18 (nat_abs z) (omega arith))
