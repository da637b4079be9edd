-- Exactly 100 times a number, from the fields of its pattern. With an exponent of 0 the number is `digits` units of 2 ^ -1074;
-- with an exponent of j + 1 it is (2 ^ 52 + digits) * 2 ^ j such units.
use Prim.Native.Nat.{ℕ, zero, suc, ◌+◌, ◌-◌, ◌*◌, ◌/◌, ◌%◌, ◌^◌, ◌≤◌, ◌<◌}
use mathlib.Core.Path.{◌≡◌, refl, sym, ap, ◌∙◌, subst, subst⁻¹}
use mathlib.Core.Bool.{Bool, true, false, cond, true≢false, false≢true}
use native.Mathlib.Nat.{le_trans, le_of_eq, lt_of_le_of_lt, lt_of_lt_of_le, lt_of_mul-lt-mul_right, lt_of_not-le, lt_irrefl, le_of_suc-le-suc, le-add_right, mul_comm, mul_assoc, mul_right_comm, mul-one, mul-le-mul_left, mul-le-mul_right, le_of_mul-le-mul_right, eq_of_mul-eq-mul_right, mod-lt}
use native.Mathlib.Omega.{arith}
use lib.Dec.{T, leb, ltb, eqb, lit<}
use lib.Pow.{pow-add, pow_pos, pow_mono}
use lib.IntN.{ℤ}
use lib.Ieee.{Float, nan, inf, fin, binary64, up, down, odd, fits, is_nan, of_fields, of_bits, to_bits, lt}
use lib.Ieee.Fits.{down_pos}
use lib.Ieee.Bits.{of_bits-to_bits}
use lib.Ieee.Exact.{HasValue, odd_sign}
use borrow.Author.Tests.{ltb-true, ltb-false}
use Rattle.std.specs.Prelude.{Some, None}
use Rattle.metres.specs.Metres.{most_metres, hundredfold}
use Rattle.metres.specs.Hundredfolds.{IsHundredfold}
use Rattle.metres.proofs.Exact.{hundredfold_value}

-- What is refused: NaN, and a number beyond a bound that is itself at least the limit in size.
pub refused_nan : (x : Float) → is_nan x ≡ true → IsHundredfold x None
unfolding is_nan
refused_nan nan h = tt
refused_nan (inf s) h = absurd (false≢true h)
refused_nan (fin s m e) h = absurd (false≢true h)

beyond : (a m : ℕ) (f e : ℤ) → most_metres * down f ≤ a * up f → ltb (a * up f * down e) (m * up e * down f) ≡ true → most_metres * down e < m * up e
beyond a m f e least h =
    lt_of_mul-lt-mul_right (down f)
    (lt_of_le_of_lt (le_of_eq (mul_right_comm most_metres (down e) (down f)))
    (lt_of_le_of_lt (mul-le-mul_right (down e) least) (ltb-true (a * up f * down e) (m * up e * down f) h)))

pub refused_above : (a : ℕ) (f : ℤ) (x : Float) → most_metres * down f ≤ a * up f → lt (fin false a f) x ≡ true → IsHundredfold x None
unfolding lt
refused_above a f nan least h = tt
refused_above a f (inf s) least h = tt
refused_above a f (fin false m e) least h = beyond a m f e least h
refused_above a f (fin true m e) least h = absurd (false≢true h)

pub refused_below : (a : ℕ) (f : ℤ) (x : Float) → most_metres * down f ≤ a * up f → lt x (fin true a f) ≡ true → IsHundredfold x None
unfolding lt
refused_below a f nan least h = tt
refused_below a f (inf s) least h = tt
refused_below a f (fin false m e) least h = absurd (false≢true h)
refused_below a f (fin true m e) least h = beyond a m f e least h

-- What is left is a finite number within the limit, if the bounds that it was compared with are at most the limit in size.
abbrev pub Readable : Float → Type 0
Readable nan = ⊥
Readable (inf s) = ⊥
Readable (fin s m e) = m * up e ≤ most_metres * down e

within_most : (a m : ℕ) (f e : ℤ) → a * up f ≤ most_metres * down f → ltb (a * up f * down e) (m * up e * down f) ≡ false → m * up e ≤ most_metres * down e
within_most a m f e most h =
    le_of_mul-le-mul_right
    (le_trans (ltb-false (a * up f * down e) (m * up e * down f) h)
    (le_trans (mul-le-mul_right (down e) most) (le_of_eq (mul_right_comm most_metres (down f) (down e)))))
    (down_pos f)

pub readable : (a b : ℕ) (f g : ℤ) (x : Float) → a * up f ≤ most_metres * down f → b * up g ≤ most_metres * down g → is_nan x ≡ false → lt (fin false a f) x ≡ false → lt x (fin true b g) ≡ false → Readable x
unfolding lt is_nan
readable a b f g nan high low same above below = true≢false same
readable a b f g (inf true) high low same above below = true≢false below
readable a b f g (inf false) high low same above below = true≢false above
readable a b f g (fin false m e) high low same above below = within_most a m f e high above
readable a b f g (fin true m e) high low same above below = within_most b m g e low below

-- The size of a number in units of 2 ^ -1074, from its exponent and its digits.
abbrev units : ℕ → ℕ → ℕ
units zero digits = digits * 2 ^ 0
units (suc j) digits = (2 ^ 52 + digits) * 2 ^ j

finite : (top none s : Bool) (x : Float) → Readable (cond top (cond none (inf s) nan) x) → x ≡ cond top (cond none (inf s) nan) x
finite true true s x h = absurd h
finite true false s x h = absurd h
finite false none s x h = refl

fields_value : (s : Bool) (exponent digits : ℕ) → Readable (of_fields binary64 s exponent digits) → HasValue (of_fields binary64 s exponent digits) s (units exponent digits) (2 ^ 1074)
unfolding of_fields
fields_value s zero digits h = odd_sign 53 s digits 0 1074
fields_value s (suc j) digits h =
    subst (λ (y : Float). HasValue y s ((2 ^ 52 + digits) * 2 ^ j) (2 ^ 1074))
    (finite (eqb (suc j) 2047) (eqb digits 0) s (odd 53 s (2 ^ 52 + digits) j 1074) h)
    (odd_sign 53 s (2 ^ 52 + digits) j 1074)

-- Within the limit, which is below 2 ^ 24, the exponent is at most 1046.
units_limit : (x : Float) (s : Bool) (n : ℕ) → Readable x → HasValue x s n (2 ^ 1074) → n ≤ most_metres * 2 ^ 1074
units_limit nan s n h v = absurd h
units_limit (inf t) s n h v = absurd h
units_limit (fin t m e) s n h v =
    le_of_mul-le-mul_right
    (le_trans (le_of_eq (sym v.1)) (le_trans (mul-le-mul_right (2 ^ 1074) h) (le_of_eq (mul_right_comm most_metres (down e) (2 ^ 1074)))))
    (down_pos e)

exponent_limit : (j digits : ℕ) → (2 ^ 52 + digits) * 2 ^ j ≤ most_metres * 2 ^ 1074 → j ≤ 1045
exponent_limit j digits h = le_of_suc-le-suc (lt_of_not-le (λ (many : 1046 ≤ j). lt_irrefl (2 ^ 52 * 2 ^ j) (go many)))
  where
    go : 1046 ≤ j → 2 ^ 52 * 2 ^ j < 2 ^ 52 * 2 ^ j
    go many =
        let low : 2 ^ 52 * 2 ^ j ≤ (2 ^ 52 + digits) * 2 ^ j = mul-le-mul_right (2 ^ j) (le-add_right (2 ^ 52) digits) in
        let high : most_metres * 2 ^ 1074 < 2 ^ 52 * 2 ^ 1046 = lit< tt in
        let more : 2 ^ 52 * 2 ^ 1046 ≤ 2 ^ 52 * 2 ^ j = mul-le-mul_left (2 ^ 52) (pow_mono many) in
        lt_of_le_of_lt low (lt_of_le_of_lt h (lt_of_lt_of_le high more))

-- From a number of n units to its exact hundredfold.
exact_of : (x : Float) (s : Bool) (n parts halvings : ℕ) (few : parts < 2 ^ 60) → HasValue x s n (2 ^ 1074) → Readable x → 100 * n * 2 ^ halvings ≡ parts * 2 ^ 1074 → IsHundredfold x (Some (record { minus = s; parts = parts; halvings = halvings; few = few }))
exact_of nan s n parts halvings few v h same = absurd h
exact_of (inf t) s n parts halvings few v h same = absurd h
exact_of (fin t m e) s n parts halvings few v h same = record {
  readable = h;
  sign = sym v.0;
  exact = eq_of_mul-eq-mul_right (2 ^ 1074) (pow_pos 1074) (hundredfold m e * 2 ^ halvings) (parts * down e)
      (mul_right_comm (hundredfold m e) (2 ^ halvings) (2 ^ 1074)
      ∙ ap (λ (y : ℕ). y * 2 ^ halvings) (hundredfold_value t s m n (2 ^ 1074) e v)
      ∙ mul_right_comm (100 * n) (down e) (2 ^ halvings)
      ∙ ap (λ (y : ℕ). y * down e) same
      ∙ mul_right_comm parts (2 ^ 1074) (down e));
}

rejoin : (j : ℕ) → j ≤ 1074 → 2 ^ j * 2 ^ (1074 - j) ≡ 2 ^ 1074
rejoin j h =
    let whole : j + (1074 - j) ≡ 1074 = omega arith in
    sym (pow-add 2 j (1074 - j)) ∙ ap (λ (k : ℕ). 2 ^ k) whole

halved : (n j : ℕ) → j ≤ 1074 → 100 * (n * 2 ^ j) * 2 ^ (1074 - j) ≡ n * 100 * 2 ^ 1074
halved n j h =
    mul_assoc 100 (n * 2 ^ j) (2 ^ (1074 - j))
    ∙ ap (λ (y : ℕ). 100 * y) (mul_assoc n (2 ^ j) (2 ^ (1074 - j)) ∙ ap (λ (y : ℕ). n * y) (rejoin j h))
    ∙ sym (mul_assoc 100 n (2 ^ 1074))
    ∙ ap (λ (y : ℕ). y * 2 ^ 1074) (mul_comm 100 n)

-- What the code reads off the pattern of a number within the limit.
module _ (x : Float) (held : T (fits binary64 x)) (h : Readable x) where
  abbrev pattern : ℕ
  pattern = to_bits binary64 x

  abbrev is_minus : Bool
  is_minus = leb (2 ^ 63) pattern

  abbrev exponent : ℕ
  exponent = pattern % 2 ^ 63 / 2 ^ 52

  abbrev digits : ℕ
  digits = pattern % 2 ^ 52

  is : x ≡ of_fields binary64 is_minus exponent digits
  unfolding of_bits
  is = sym (of_bits-to_bits binary64 x held)

  value : (k : ℕ) → exponent ≡ k → HasValue x is_minus (units k digits) (2 ^ 1074)
  value k e =
      subst (λ (y : ℕ). HasValue x is_minus (units y digits) (2 ^ 1074)) e
      (subst⁻¹ (λ (y : Float). HasValue y is_minus (units exponent digits) (2 ^ 1074)) is (fields_value is_minus exponent digits (subst Readable is h)))

  pub digits_few : digits < 2 ^ 52
  digits_few = mod-lt pattern (pow_pos 52)

  -- With an exponent of 0, the digits alone are the number.
  pub without_lead : (few : digits * 100 < 2 ^ 60) → exponent ≡ 0 → IsHundredfold x (Some (record { minus = is_minus; parts = digits * 100; halvings = 1074; few = few }))
  without_lead few e =
      exact_of x is_minus (digits * 2 ^ 0) (digits * 100) 1074 few (value 0 e) h
      (ap (λ (y : ℕ). y * 2 ^ 1074) (ap (λ (y : ℕ). 100 * y) (mul-one digits) ∙ mul_comm 100 digits))

  past_zero : (exponent ≡ 0 → ⊥) → exponent ≡ suc (exponent - 1)
  past_zero e = omega (arith, e)

  low : (exponent ≡ 0 → ⊥) → exponent - 1 ≤ 1045
  low e = exponent_limit (exponent - 1) digits (units_limit x is_minus ((2 ^ 52 + digits) * 2 ^ (exponent - 1)) h (value (suc (exponent - 1)) (past_zero e)))

  -- Within the limit the exponent is at most 1046, so the number of halvings, 1075 - exponent, is not below 0.
  pub exponent_few : (exponent ≡ 0 → ⊥) → exponent ≤ 1046
  exponent_few e = omega (arith, low e)

  -- With any other exponent, the digits follow a leading 1.
  pub with_lead : (few : (2 ^ 52 + digits) * 100 < 2 ^ 60) → (exponent ≡ 0 → ⊥) → IsHundredfold x (Some (record { minus = is_minus; parts = (2 ^ 52 + digits) * 100; halvings = 1075 - exponent; few = few }))
  with_lead few e =
      let halvings : 1074 - (exponent - 1) ≡ 1075 - exponent = omega (arith, low e, e) in
      subst (λ (k : ℕ). IsHundredfold x (Some (record { minus = is_minus; parts = (2 ^ 52 + digits) * 100; halvings = k; few = few }))) halvings
      (exact_of x is_minus ((2 ^ 52 + digits) * 2 ^ (exponent - 1)) ((2 ^ 52 + digits) * 100) (1074 - (exponent - 1)) few (value (suc (exponent - 1)) (past_zero e)) h (halved (2 ^ 52 + digits) (exponent - 1) (omega (arith, low e))))
