-- A number written as its digits, and a whole number written with its sign, is a word that is read as the same number, and as
-- the same number of centimetres; so are the numbers of a line. Such a line is not passed over.
use Prim.Native.Nat.{ℕ, zero, suc, ◌^◌, ◌≤◌, ◌<◌}
use mathlib.Core.Path.{◌≡◌, refl, ap, ◌∙◌}
use mathlib.Core.Bool.{true, false, ◌||◌}
use mathlib.Core.List.{List, [], ◌∷◌, ◌++◌, map}
use native.Mathlib.Omega.{arith}
use native.Mathlib.Nat.{le_of_eq}
use borrow.Author.Tests.{ne_eqb, lt-ltb}
use lib.Dec.{eqb}
use lib.IntN.{ℤ, pos, negsuc, nat_abs}
use lib.ListN.{length, get_or, length-map}
use Rattle.metres.specs.Metres.{signed}
use Rattle.text.specs.Texts.{digits_of, spaced, figures_text, whole_text, numeral_from, numeral}
use Rattle.text.proofs.Digits.{all_digits, digits_some, reads_back}
use Rattle.parsing.specs.declared.Form.{Form}
use Rattle.parsing.specs.declared.Taken.TheVariants as taken
use Rattle.parsing.specs.Words.{run, word_at, no_word, is_passed}
use Rattle.parsing.specs.Numbers.{is_length, centimetres_in, is_below, size_in, is_reading, value_at, length_at}
use Rattle.parsing.specs.Forms.{words_of, taken_for, is_taken, is_form}
use Rattle.parsing.proofs.Lines.{size_plain}
use Rattle.parsing.proofs.WordLaws.{IsWord, EachIsWord, spaced_words, words_back}
use Rattle.parsing.proofs.NumberLaws.{digits_number}
pub use Rattle.parsing.proofs.NumberLaws.{digits_word}
use Rattle.parsing.proofs.Lengths.{number_says}
use Rattle.parsing.proofs.Forms.{form_of}

-- Digits are a length, in centimetres.
pub digits_length : (n : ℕ) → is_length (digits_of n) ≡ true
digits_length n = rw (digits_number n)

pub digits_centimetres : (n : ℕ) → centimetres_in (digits_of n) ≡ n
digits_centimetres n = number_says (digits_of n) (digits_number n) ∙ reads_back n

-- They are what any word may be taken for, within its bits.
pub digits_number_taken : (n : ℕ) → is_taken taken.Number (digits_of n) ≡ true
unfolding is_taken
digits_number_taken n = digits_number n

pub digits_line_taken : (n : ℕ) → n < 2 ^ 32 → is_taken taken.Line (digits_of n) ≡ true
unfolding is_taken
digits_line_taken n h = rw (digits_number n, reads_back n, lt-ltb n (2 ^ 32) h)

pub digits_allowance_taken : (n : ℕ) → n < 2 ^ 64 → is_taken taken.Allowance (digits_of n) ≡ true
unfolding is_taken
digits_allowance_taken n h =
    rw (ne_eqb (length (digits_of n)) 0 (λ e. omega (arith, e, digits_some n)), digits_number n, reads_back n, lt-ltb n (2 ^ 64) h)

pub digits_factor_taken : (n : ℕ) → is_taken taken.Factor (digits_of n) ≡ true
unfolding is_taken
digits_factor_taken n = rw (ne_eqb (length (digits_of n)) 0 (λ e. omega (arith, e, digits_some n)), digits_number n)

pub digits_length_taken : (n : ℕ) → is_taken taken.Length (digits_of n) ≡ true
unfolding is_taken
digits_length_taken n = digits_length n

-- With a minus sign if the number is below 0, and without one if not, they are a reading.
not_below : (n : ℕ) → is_below (digits_of n) ≡ false
not_below n = ne_eqb (get_or (digits_of n) 0 0) 45 (λ e. omega (arith, (all_digits n 0 (digits_some n)).low))

pub whole_word : (z : ℤ) → IsWord (whole_text z)
unfolding whole_text run
whole_word (pos n) = digits_word n
whole_word (negsuc n) = record { some = omega arith; whole = ap suc (digits_word (suc n)).whole }

whole_size : (z : ℤ) → size_in (whole_text z) ≡ digits_of (nat_abs z)
unfolding whole_text
whole_size (pos n) = size_plain (digits_of n) (not_below n)
whole_size (negsuc n) = refl

whole_sign : (z : ℤ) → signed (is_below (whole_text z)) (nat_abs z) ≡ z
unfolding whole_text
whole_sign (pos n) = rw (not_below n)
whole_sign (negsuc n) = refl

pub whole_reading : (z : ℤ) → is_reading (whole_text z) ≡ true
whole_reading z = ap is_length (whole_size z) ∙ digits_length (nat_abs z)

pub whole_back : (z : ℤ) → signed (is_below (whole_text z)) (centimetres_in (size_in (whole_text z))) ≡ z
whole_back z =
    ap (signed (is_below (whole_text z))) (ap centimetres_in (whole_size z) ∙ digits_centimetres (nat_abs z))
    ∙ whole_sign z

-- Numbers written as text are words.
pub digits_words : (ns : List ℕ) → EachIsWord (map digits_of ns)
digits_words [] = tt
digits_words (n ∷ ns) = (digits_word n, digits_words ns)

pub figures_spaced : (ns : List ℕ) → figures_text ns ≡ spaced_words (map digits_of ns)
unfolding figures_text spaced_words
figures_spaced [] = refl
figures_spaced (n ∷ ns) = ap (λ (rest : List ℕ). spaced n ++ rest) (figures_spaced ns)

word_there : (ns : List ℕ) (i : ℕ) → word_at i (figures_text ns) ≡ get_or (map digits_of ns) i []
word_there ns i = ap (word_at i) (figures_spaced ns) ∙ words_back (map digits_of ns) (digits_words ns) i

-- Each has its value.
value_there : (ns : List ℕ) (i : ℕ) → numeral (get_or (map digits_of ns) i []) ≡ get_or ns i 0
unfolding numeral numeral_from
value_there [] i = refl
value_there (n ∷ ns) zero = reads_back n
value_there (n ∷ ns) (suc i) = value_there ns i

length_there : (ns : List ℕ) (i : ℕ) → centimetres_in (get_or (map digits_of ns) i []) ≡ get_or ns i 0
unfolding centimetres_in numeral numeral_from run
length_there [] i = refl
length_there (n ∷ ns) zero = digits_centimetres n
length_there (n ∷ ns) (suc i) = length_there ns i

digits_there : (ns : List ℕ) (i : ℕ) → i < length ns → get_or (map digits_of ns) i [] ≡ digits_of (get_or ns i 0)
digits_there [] i h = absurd (omega (arith, h))
digits_there (n ∷ ns) zero h = refl
digits_there (n ∷ ns) (suc i) h = digits_there ns i (omega (arith, h))

-- Words are a line of a form, if there are no more than it has and each may stand at its place, also those that are missing; so is the
-- text of numbers.
none_after : (ws : List (List ℕ)) (n : ℕ) → length ws ≤ n → eqb (length (get_or ws n [])) 0 ≡ true
none_after [] n h = refl
none_after (w ∷ ws) zero h = absurd (omega (arith, h))
none_after (w ∷ ws) (suc n) h = none_after ws n (omega (arith, h))

pub words_form : (f : Form) (ws : List (List ℕ)) → EachIsWord ws → length ws ≤ words_of f →
    ((i : ℕ) → i < words_of f → is_taken (taken_for f i) (get_or ws i []) ≡ true) → is_form f (spaced_words ws) ≡ true
words_form f ws Each-word size each =
    form_of f (spaced_words ws) (λ i l. ap (is_taken (taken_for f i)) (words_back ws Each-word i) ∙ each i l)
    (ap (λ (w : List ℕ). eqb (length w) 0) (words_back ws Each-word (words_of f)) ∙ none_after ws (words_of f) size)

pub figures_form : (f : Form) (ns : List ℕ) → length ns ≡ words_of f →
    ((i : ℕ) → i < words_of f → is_taken (taken_for f i) (digits_of (get_or ns i 0)) ≡ true) → is_form f (figures_text ns) ≡ true
figures_form f ns size each =
    ap (is_form f) (figures_spaced ns)
    ∙ words_form f (map digits_of ns) (digits_words ns) (le_of_eq (length-map ns digits_of ∙ size))
    (λ i l. ap (is_taken (taken_for f i)) (digits_there ns i (omega (arith, l, size))) ∙ each i l)

pub figures_some : (ns : List ℕ) (i : ℕ) → i < length ns → no_word i (figures_text ns) ≡ false
figures_some ns i h =
    ne_eqb (length (word_at i (figures_text ns))) 0
    (λ e. omega (arith, e, ap length (word_there ns i ∙ digits_there ns i h), digits_some (get_or ns i 0)))

pub figures_back : (ns : List ℕ) (i : ℕ) → value_at (figures_text ns) i ≡ get_or ns i 0
figures_back ns i = ap numeral (word_there ns i) ∙ value_there ns i

pub lengths_back : (ns : List ℕ) (i : ℕ) → length_at (figures_text ns) i ≡ get_or ns i 0
lengths_back ns i = ap centimetres_in (word_there ns i) ∙ length_there ns i

-- A line whose first word is a number is not passed over.
pub not_passed : (s : List ℕ) (n : ℕ) → word_at 0 s ≡ digits_of n → is_passed s ≡ false
not_passed s n e =
    let some : eqb (length (digits_of n)) 0 ≡ false = ne_eqb (length (digits_of n)) 0 (λ z. omega (arith, z, digits_some n)) in
    let digit : eqb (get_or (digits_of n) 0 0) 35 ≡ false =
    ne_eqb (get_or (digits_of n) 0 0) 35 (λ z. omega (arith, z, (all_digits n 0 (digits_some n)).low)) in
    ap (λ (w : List ℕ). eqb (length w) 0 || eqb (get_or w 0 0) 35) e ∙ rw (some, digit)

pub figures_not_passed : (n : ℕ) (ns : List ℕ) → is_passed (figures_text (n ∷ ns)) ≡ false
figures_not_passed n ns = not_passed (figures_text (n ∷ ns)) n (word_there (n ∷ ns) 0)
