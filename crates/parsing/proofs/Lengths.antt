-- Lengths: digits alone are centimetres, and digits, a point and two digits are metres, each with the centimetres that it says.
use Prim.Native.Nat.{ℕ, zero, suc, ◌+◌, ◌-◌, ◌*◌, ◌≤◌, ◌<◌}
use mathlib.Core.Path.{◌≡◌, refl, sym, ap, ap₂, ◌∙◌}
use mathlib.Core.Bool.{Bool, true, false, cond, ◌&&◌, ◌||◌, and-false}
use mathlib.Core.List.{List, [], ◌∷◌, ◌++◌, append_assoc}
use native.Mathlib.Omega.{arith}
use borrow.Author.Tests.{leb-true, eqb-true, ne_eqb}
use lib.Dec.{leb, eqb}
use lib.ListN.{length, get_or, drop, length-append, length-drop}
use lib.Seq.{take_at, drop_at, get_or_at, length-take-le}
use Rattle.std.specs.Prelude.{Some, None}
use Rattle.chart.proofs.PlaceLaws.{both, and_both}
use Rattle.text.specs.Texts.{digits_of, numeral_from, numeral}
use Rattle.text.proofs.Digits.{reads_back}
use Rattle.parsing.specs.Words.{run, is_in_word}
use Rattle.parsing.specs.Numbers.{is_digit, is_number, before_point, after_point, is_metres, is_length, centimetres_in}
use Rattle.parsing.specs.Scanning.{sized_of}
use Rattle.parsing.proofs.Values.{sized_value, sized_over, sized_large}
use Rattle.parsing.proofs.WordLaws.{IsWord, word_joined}
use Rattle.parsing.proofs.NumberLaws.{digits_word, digits_number}

-- Each byte of a number is a digit.
number_digit : (w : List ℕ) (i : ℕ) → run is_digit w ≡ length w → i < length w → is_digit (get_or w i 0) ≡ true
unfolding run
number_digit [] i h l = absurd (omega (arith, l))
number_digit (b ∷ bs) i h l = go (is_digit b) refl (λ j. number_digit bs j) i l
  where
    go : (t : Bool) → is_digit b ≡ t → ((j : ℕ) → run is_digit bs ≡ length bs → j < length bs → is_digit (get_or bs j 0) ≡ true) →
        (i : ℕ) → i < suc (length bs) → is_digit (get_or (b ∷ bs) i 0) ≡ true
    go false e rest i l = absurd (omega (arith, rw e at h))
    go true e rest zero l = e
    go true e rest (suc i) l = rest i (omega (arith, rw e at h)) (omega (arith, l))

-- A point is no digit; so a number is not metres, and its centimetres are its value.
pub number_no_metres : (w : List ℕ) → is_number w ≡ true → is_metres w ≡ false
number_no_metres w h =
    let two = both (leb 1 (length w)) (eqb (run is_digit w) (length w)) h in
    let some = leb-true 1 (length w) two.0 in
    let digit = number_digit w (length w - 3) (eqb-true _ _ two.1) (omega (arith, some)) in
    let low = leb-true 48 (get_or w (length w - 3) 0) (both (leb 48 (get_or w (length w - 3) 0)) _ digit).0 in
    let none : eqb (get_or w (length w - 3) 0) 46 ≡ false = ne_eqb (get_or w (length w - 3) 0) 46 (λ e. omega (arith, e, low)) in
    ap (λ (t : Bool). is_number (before_point w) && (t && is_number (after_point w))) none ∙ and-false (is_number (before_point w))

pub plain_says : (w : List ℕ) → is_metres w ≡ false → centimetres_in w ≡ numeral w
unfolding centimetres_in
plain_says w h = rw h

pub number_says : (w : List ℕ) → is_number w ≡ true → centimetres_in w ≡ numeral w
number_says w h = plain_says w (number_no_metres w h)

-- Metres have at least four bytes, and two after the point.
pub metres_long : (w : List ℕ) → is_metres w ≡ true → 4 ≤ length w
metres_long w h =
    let front = (both (is_number (before_point w)) _ h).0 in
    let some = leb-true 1 (length (before_point w)) (both (leb 1 (length (before_point w))) _ front).0 in
    omega (arith, some, length-take-le (length w - 3) w (omega arith))

pub two_after : (w : List ℕ) → 2 ≤ length w → length (after_point w) ≡ 2
two_after w h = omega (arith, length-drop (length w - 2) w)

-- Two more digits make a hundred times the number, and their own.
pub two_more : (n : ℕ) (w : List ℕ) → length w ≡ 2 → numeral_from n w ≡ 100 * n + numeral w
unfolding numeral numeral_from
two_more n [] h = absurd (omega (arith, h))
two_more n (a ∷ []) h = absurd (omega (arith, h))
two_more n (a ∷ b ∷ []) h = omega arith
two_more n (a ∷ b ∷ x ∷ xs) h = absurd (omega (arith, h))

-- So the code's two steps give the centimetres: the number before the point, and with the digits after it.
pub metres_value : (w : List ℕ) (m : ℕ) → is_metres w ≡ true → sized_of (numeral (before_point w)) ≡ Some m →
    numeral_from m (after_point w) ≡ centimetres_in w
unfolding centimetres_in
metres_value w m h e =
    rw (h, sym (sized_value (numeral (before_point w)) m e))
    (two_more (numeral (before_point w)) (after_point w) (two_after w (omega (arith, metres_long w h))))

pub metres_large : (w : List ℕ) → is_metres w ≡ true → sized_of (numeral (before_point w)) ≡ None → sized_of (centimetres_in w) ≡ None
unfolding centimetres_in
metres_large w h e = rw h (sized_large (100 * numeral (before_point w) + numeral (after_point w)) (omega (arith, sized_over (numeral (before_point w)) e)))

-- A number of metres, a point and two digits, typed: this is a length, and it says a hundred times the metres and the digits' value.
abbrev pub metres_typed : ℕ → ℕ → ℕ → List ℕ
metres_typed m a b = digits_of m ++ (46 ∷ a ∷ b ∷ [])

digit_no_blank : (b : ℕ) → is_digit b ≡ true → is_in_word b ≡ true
digit_no_blank b h =
    let low = leb-true 48 b (both (leb 48 b) (leb b 57) h).0 in
    rw (ne_eqb b 32 (λ e. omega (arith, e, low)), ne_eqb b 9 (λ e. omega (arith, e, low)), ne_eqb b 13 (λ e. omega (arith, e, low)))

module _ (m a b : ℕ) (first : is_digit a ≡ true) (second : is_digit b ≡ true) where
  typed_length : length (metres_typed m a b) ≡ length (digits_of m) + 3
  typed_length = length-append (digits_of m) (46 ∷ a ∷ b ∷ [])

  before_typed : before_point (metres_typed m a b) ≡ digits_of m
  before_typed = take_at (digits_of m) (46 ∷ a ∷ b ∷ []) (length (metres_typed m a b) - 3) (omega (arith, typed_length))

  after_typed : after_point (metres_typed m a b) ≡ a ∷ b ∷ []
  after_typed =
      ap (λ (w : List ℕ). drop (length (metres_typed m a b) - 2) w) (sym (append_assoc (digits_of m) (46 ∷ []) (a ∷ b ∷ [])))
      ∙ drop_at (digits_of m ++ (46 ∷ [])) (a ∷ b ∷ []) (length (metres_typed m a b) - 2)
      (omega (
        arith,
        length-append (digits_of m) (46 ∷ []),
        typed_length,
      ))

  two_digits : is_number (a ∷ b ∷ []) ≡ true
  unfolding run
  two_digits = rw (first, second)

  pub is_metres_lem : is_metres (metres_typed m a b) ≡ true
  is_metres_lem =
      and_both (ap is_number before_typed ∙ digits_number m)
      (and_both
      (ap (λ (x : ℕ). eqb x 46) (get_or_at (digits_of m) 46 (a ∷ b ∷ []) 0 (length (metres_typed m a b) - 3) (omega (arith, typed_length))))
      (ap is_number after_typed ∙ two_digits))

  pub metres_length : is_length (metres_typed m a b) ≡ true
  metres_length = go (is_number (metres_typed m a b))
    where
      go : (t : Bool) → (t || is_metres (metres_typed m a b)) ≡ true
      go true = refl
      go false = is_metres_lem

  pub metres_word : IsWord (metres_typed m a b)
  unfolding run
  metres_word =
      word_joined (digits_of m) (46 ∷ a ∷ b ∷ []) (digits_word m) (rw (digit_no_blank a first, digit_no_blank b second))

  pub metres_say : centimetres_in (metres_typed m a b) ≡ 100 * m + (10 * (a - 48) + (b - 48))
  unfolding centimetres_in numeral numeral_from
  metres_say =
      ap (λ (t : Bool). cond t (100 * numeral (before_point (metres_typed m a b)) + numeral (after_point (metres_typed m a b))) (numeral (metres_typed m a b))) is_metres_lem
      ∙ ap₂ (λ (x y : ℕ). 100 * x + y) (ap numeral before_typed ∙ reads_back m) (ap numeral after_typed ∙ omega arith)
