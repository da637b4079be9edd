-- Lengths on the ground: the factor 1,000,000 changes none; which number a length is; and a length that grows by c on the
-- grid grows by at most m on the ground, if c times a million is at most m times the factor.
use Prim.Native.Nat.{ℕ, zero, ◌+◌, ◌*◌, ◌/◌, ◌≤◌, ◌<◌, ◌^◌}
use mathlib.Core.Path.{◌≡◌, sym}
use mathlib.Core.Bool.{true}
use native.Mathlib.Omega.{arith}
use native.Mathlib.Nat.{le_trans, le_of_eq, add-mul, mul-le-mul, le_refl, mul-div_cancel, add-mul-div_right, le-div_iff_mul-le, div-lt_iff_lt-mul, div-mul-le_self, lt-div-mul-add, div-eq_of_lt-le}
use lib.Dec.{leb}
use borrow.Author.Tests.{leb-true, le-leb}
use Rattle.chart.specs.Factors.{unit_factor, least_factor, most_factor, is_factor, on_ground}
use Rattle.chart.proofs.PlaceLaws.{both, and_both}

-- A factor that is allowed lies between the two ends.
pub factor_says : (f : ℕ) → is_factor f ≡ true → (least_factor ≤ f) × (f ≤ most_factor)
unfolding is_factor
factor_says f e =
    let two = both (leb least_factor f) (leb f most_factor) e in
    (leb-true _ _ two.0, leb-true _ _ two.1)

-- And the reverse.
pub says_factor : (f : ℕ) → least_factor ≤ f → f ≤ most_factor → is_factor f ≡ true
unfolding is_factor
says_factor f least most = and_both (le-leb _ _ least) (le-leb _ _ most)

-- So it is not 0.
pub factor_some : (f : ℕ) → is_factor f ≡ true → zero < f
factor_some f e = omega (arith, (factor_says f e).0)

-- With the factor 1,000,000 a length is the same on the ground.
pub ground_is_grid : (d : ℕ) → on_ground unit_factor d ≡ d
unfolding on_ground
ground_is_grid d = mul-div_cancel d (omega arith)

-- How long d is on the ground: that number times the factor is at most a million times d, the next number times the factor is more, and
-- no other number has both properties.
pub ground_low : (f d : ℕ) → on_ground f d * f ≤ d * unit_factor
unfolding on_ground
ground_low f d = div-mul-le_self (d * unit_factor) f

pub ground_high : (f d : ℕ) → zero < f → d * unit_factor < (on_ground f d + 1) * f
unfolding on_ground
ground_high f d some = omega (arith, lt-div-mul-add {a = d * unit_factor} some, add-mul (d * unit_factor / f) 1 f)

pub ground_only : (f d r : ℕ) → r * f ≤ d * unit_factor → d * unit_factor < (r + 1) * f → r ≡ on_ground f d
unfolding on_ground
ground_only f d r low high = sym (div-eq_of_lt-le f low high)

-- If d grows by at most c, its length on the ground grows by at most m.
pub ground_grows : (f d d' c m : ℕ) → zero < f → d ≤ d' + c → c * unit_factor ≤ m * f → on_ground f d ≤ on_ground f d' + m
unfolding on_ground
ground_grows f d d' c m some h wide = div_le f (d * unit_factor) (d' * unit_factor + m * f) some (omega (arith, wide)) (add-mul-div_right (d' * unit_factor) m some)
  where
    div_le : (f x y : ℕ) {z : ℕ} → zero < f → x ≤ y → y / f ≡ z → x / f ≤ z
    div_le f x y some h e = le_trans ((le-div_iff_mul-le some).1 (le_trans (div-mul-le_self x f) h)) (le_of_eq e)

-- A length of the grid below 2 ^ 30 is below 2 ^ 31 on the ground.
pub ground_small : (f d : ℕ) → is_factor f ≡ true → d < 2 ^ 30 → on_ground f d < 2 ^ 31
unfolding on_ground
ground_small f d e small =
    (div-lt_iff_lt-mul {y = 2 ^ 31} (factor_some f e)).1
    (let wide : 2 ^ 31 * least_factor ≤ 2 ^ 31 * f = mul-le-mul (le_refl (2 ^ 31)) (factor_says f e).0 in
    let l : d * unit_factor < 2 ^ 31 * f = omega (arith, wide) in l)
