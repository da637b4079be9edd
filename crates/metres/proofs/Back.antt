-- The way back: centimetres divided by 100 and rounded once give the same centimetres when they are read again.
-- The quotient is off by at most half a unit of its last place, and within the limit 100 such units are less than 1, so 100
-- times the quotient is less than a half off.
use Prim.Native.Nat.{ℕ, suc, ◌+◌, ◌-◌, ◌*◌, ◌/◌, ◌^◌, ◌≤◌, ◌<◌}
use mathlib.Core.Path.{◌≡◌, refl, sym, ap, ap₂, ◌∙◌, subst⁻¹}
use mathlib.Core.Bool.{Bool, true, false}
use native.Mathlib.Nat.{le_trans, le_of_eq, lt_of_le_of_lt, mul_comm, mul_assoc, mul_left_comm, mul_right_comm, mul-one, mul-pos, mul-le-mul_left, mul-le-mul_right, le_of_mul-le-mul_right, div-lt_iff_lt-mul}
use native.Mathlib.Omega.{arith}
use lib.Dec.{lit≤, lit<}
use lib.Pow.{pow-add, pow_pos, pow_mono}
use lib.IntN.{ℤ, pos, negsuc, nat_abs}
use lib.Ieee.{Float, nan, inf, fin, binary64, up, down, size, round, of_int, div}
use lib.Ieee.Back.{round_whole}
use lib.Ieee.Digits.{size-le}
use lib.Ieee.Exact.{HasValue, units_val}
use lib.Ieee.Fits.{round_is, down_pos}
use lib.Ieee.Nearest.{closest, closest_mono, closest_same}
use lib.Ieee.Scale.{round_same}
use borrow.Author.Tests.{le-leb, lt-leb}
use Rattle.std.specs.Prelude.{Option, Some, None}
use Rattle.metres.specs.Metres.{most_metres, most_centimetres, signed, hundredfold, centimetres_of, hundredth_of, metres_of, length_figures, ReadsBack}
use Rattle.metres.proofs.Rounding.{Near, less_than_half, closest_near, near_only}
use Rattle.metres.proofs.Answers.{given}
use Rattle.metres.proofs.Exact.{hundredfold_value}

-- In whole numbers: if q units are nearest to n / 100, and 100 units are less than 1, then n is nearest to 100 times the q
-- units. A unit is unit / fine.
comes_back : (n q unit fine : ℕ) → 100 * unit < fine → Near (n * fine) (100 * unit) q → Near (100 * (q * unit)) fine n
comes_back n q unit fine few near =
    let turned : q * (100 * unit) ≡ 100 * (q * unit) = mul_left_comm q 100 unit in
    let half = near.near in
    less_than_half (100 * (q * unit)) fine n (omega arith)

whole_closest : (c : ℕ) → closest c 1 ≡ c
whole_closest c = sym (near_only c 1 c (lit< tt) (less_than_half c 1 c (omega (arith, mul-one c))))

-- The q units are within the limit, if the limit is a whole number c of units.
no_more : (n unit fine c : ℕ) → 0 < unit → c * unit ≡ most_metres * fine → n ≤ most_centimetres → closest (n * fine) (100 * unit) * unit ≤ most_metres * fine
no_more n unit fine c some is h =
    let larger : n * fine * 1 ≤ c * (100 * unit) =
    omega (arith, mul-one (n * fine), mul-le-mul_right fine h, is, mul_left_comm c 100 unit) in
    let least : closest (n * fine) (100 * unit) ≤ closest c 1 = closest_mono (n * fine) (100 * unit) c 1 (mul-pos (lit< tt) some) (lit< tt) larger in
    le_trans (mul-le-mul_right unit (le_trans least (le_of_eq (whole_closest c)))) (le_of_eq is)

-- The unit that `round` picks for n / 100: 2 ^ k times the finest one, which is 2 ^ -1074.
module _ (n : ℕ) (h : n ≤ most_centimetres) where
  abbrev k : ℕ
  k = size (n * 2 ^ 1074 / 100) - 53

  k_few : k ≤ 1045
  k_few =
      let small : n * 2 ^ 1074 / 100 < 2 ^ 1098 = (div-lt_iff_lt-mul (lit< tt)).1 (lt_of_le_of_lt (mul-le-mul_right (2 ^ 1074) h) (lit< tt)) in
      omega (arith, size-le (n * 2 ^ 1074 / 100) 1098 small)

  fine : 100 * 2 ^ k < 2 ^ 1074
  fine = lt_of_le_of_lt (mul-le-mul_left 100 (pow_mono k_few)) (lit< tt)

  abbrev most : ℕ
  most = most_metres * 2 ^ (1074 - k)

  most_is : most * 2 ^ k ≡ most_metres * 2 ^ 1074
  most_is =
      let whole : 1074 - k + k ≡ 1074 = omega (arith, k_few) in
      mul_assoc most_metres (2 ^ (1074 - k)) (2 ^ k) ∙ ap (λ (y : ℕ). most_metres * y) (sym (pow-add 2 (1074 - k) k) ∙ ap (λ (j : ℕ). 2 ^ j) whole)

  abbrev q : ℕ
  q = closest (n * 2 ^ 1074) (100 * 2 ^ k)

  limited : q * 2 ^ k ≤ most_metres * 2 ^ 1074
  limited = no_more n (2 ^ k) (2 ^ 1074) most (pow_pos k) most_is h

  again : n ≡ closest (100 * (q * 2 ^ k)) (2 ^ 1074)
  again =
      near_only (100 * (q * 2 ^ k)) (2 ^ 1074) n (pow_pos 1074)
      (comes_back n q (2 ^ k) (2 ^ 1074) fine (closest_near (n * 2 ^ 1074) (100 * 2 ^ k) (mul-pos (lit< tt) (pow_pos k))))

  value : (s : Bool) → HasValue (round binary64 s n 100) s (q * 2 ^ k) (2 ^ 1074)
  value s =
      subst⁻¹ (λ (x : Float). HasValue x s (q * 2 ^ k) (2 ^ 1074)) (round_is binary64 s n 100)
      (units_val binary64 s q k (lt_of_le_of_lt limited (lit< tt)))

-- A number that is `units` times 2 ^ -1074 is read as its hundredfold, rounded.
of_value : (x : Float) (s : Bool) (units n : ℕ) → HasValue x s units (2 ^ 1074) → units ≤ most_metres * 2 ^ 1074 → n ≡ closest (100 * units) (2 ^ 1074) → centimetres_of x ≡ Some (signed s n)
of_value nan s units n v h is = absurd v
of_value (inf t) s units n v h is = absurd v
of_value (fin t m e) s units n v h is =
    let within : m * up e ≤ most_metres * down e =
    le_of_mul-le-mul_right (le_trans (le_of_eq v.1) (le_trans (mul-le-mul_right (down e) h) (le_of_eq (mul_right_comm most_metres (2 ^ 1074) (down e))))) (pow_pos 1074) in
    let same : closest (hundredfold m e) (down e) ≡ closest (100 * units) (2 ^ 1074) =
    closest_same (hundredfold m e) (down e) (100 * units) (2 ^ 1074) (down_pos e) (pow_pos 1074) (hundredfold_value t s m units (2 ^ 1074) e v) in
    given t m e within ∙ ap₂ (λ (u : Bool) (c : ℕ). Some (signed u c)) v.0 (same ∙ sym is)

-- A whole number n divided by 100 is `round` of the fraction n / 100.
hundred_is : of_int binary64 (pos 100) ≡ fin false 25 (pos 2)
unfolding of_int
hundred_is = refl

quotient : (t s : Bool) (m n : ℕ) (e : ℤ) → HasValue (fin t m e) s n 1 → round binary64 t (m * up e * 1) (100 * down e) ≡ round binary64 s n 100
quotient t s m n e v =
    ap (λ (u : Bool). round binary64 u (m * up e * 1) (100 * down e)) v.0
    ∙ round_same binary64 s (m * up e * 1) (100 * down e) n 100 (mul-pos (lit< tt) (down_pos e)) (lit< tt)
    (ap (λ (y : ℕ). y * 100) v.1 ∙ mul_assoc n (down e) 100 ∙ ap (λ (y : ℕ). n * y) (mul_comm (down e) 100))

divided : (x : Float) (s : Bool) (n : ℕ) → HasValue x s n 1 → div binary64 x (fin false 25 (pos 2)) ≡ round binary64 s n 100
unfolding div
divided nan s n v = absurd v
divided (inf t) s n v = absurd v
divided (fin true m e) s n v = quotient true s m n e v
divided (fin false m e) s n v = quotient false s m n e v

size_back : (s : Bool) (n : ℕ) → n ≤ most_centimetres → centimetres_of (div binary64 (round binary64 s n 1) (of_int binary64 (pos 100))) ≡ Some (signed s n)
size_back s n h =
    ap (λ (y : Float). centimetres_of (div binary64 (round binary64 s n 1) y)) hundred_is
    ∙ ap centimetres_of (divided (round binary64 s n 1) s n (round_whole binary64 s n (le_trans h (lit≤ tt))))
    ∙ of_value (round binary64 s n 100) s (q n h * 2 ^ k n h) n (value n h s) (limited n h) (again n h)

-- Divided by 100 and read again, every number up to 1,000,000,000 in size gives itself.
pub hundredth_back : (z : ℤ) → nat_abs z ≤ most_centimetres → centimetres_of (hundredth_of z) ≡ Some z
unfolding hundredth_of of_int
hundredth_back (pos n) h = size_back false n h
hundredth_back (negsuc n) h = size_back true (suc n) h

-- What is written within the limit and beyond it.
pub written : (z : ℤ) → nat_abs z ≤ most_centimetres → metres_of z ≡ Some (hundredth_of z)
unfolding metres_of
written z h = rw (le-leb (nat_abs z) most_centimetres h)

pub not_written : (z : ℤ) → most_centimetres < nat_abs z → metres_of z ≡ None
unfolding metres_of
not_written z h = rw (lt-leb (nat_abs z) most_centimetres h)

-- The way back, for all 2,000,000,001 numbers of centimetres that are written: read again, each gives itself.
pub way_back : (z : ℤ) → ReadsBack z (metres_of z)
unfolding length_figures
way_back z h = ap (λ (l : Option Float). centimetres_of (length_figures l).metres) (written z h) ∙ hundredth_back z h
