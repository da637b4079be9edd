-- The test of a slave without its root. The slave's distance is the root of y, the master's range is m, and the reading u - d is
-- wanted: the reading differs from it by at most `slack` exactly if y lies between the squares of two distances.
use Prim.Native.Nat.{ℕ, zero, ◌+◌, ◌*◌, ◌≤◌, ◌<◌}
use mathlib.Core.Path.{◌≡◌, sym, ap, ◌∙◌}
use mathlib.Core.Bool.{true, false}
use native.Mathlib.Omega.{arith}
use native.Mathlib.Nat.{lt_of_not-le, le-div_iff_mul-le, mul-le-mul}
use native.Mathlib.Decide.{dec_le}
use lib.Dec.{leb}
use lib.IntN.{sub_ℕ}
use borrow.Author.Tests.{le-leb, lt-leb}
use Rattle.squares.specs.Root.{root}
use Rattle.squares.proofs.Squares.{below_next}
use Rattle.squares.proofs.RootLaws.{root_law}
use Rattle.chart.specs.declared.Place.{Place}
use Rattle.chart.specs.Places.{apart, squared_distance, distance_of}
use Rattle.chart.specs.Factors.{on_ground}
use Rattle.chart.specs.Readings.{differ}
use Rattle.chart.proofs.Differing.{differ_is}
use Rattle.search.specs.Holding.{least_for}

-- By how much the reading differs from the wanted one, under the factor f.
abbrev pub miss : ℕ → ℕ → ℕ → ℕ → ℕ → ℕ
miss f y m u d = apart (on_ground f (root y) + d) (m + u)

-- The definitions give the same, if y is the squared distance.
pub miss_is : (f : ℕ) (p slave : Place) (y m u d : ℕ) → y ≡ squared_distance p slave → differ (sub_ℕ (on_ground f (distance_of p slave)) m) (sub_ℕ u d) ≡ miss f y m u d
unfolding distance_of
miss_is f p slave y m u d e =
    differ_is (on_ground f (root (squared_distance p slave))) m u d ∙ ap (λ (x : ℕ). apart (on_ground f (root x) + d) (m + u)) (sym e)

-- A distance is at least r long on the ground exactly if it is at least the least distance for r.
pub reaches : (f d r : ℕ) → zero < f → least_for f r ≤ d → r ≤ on_ground f d
unfolding on_ground
reaches f d r some h = (le-div_iff_mul-le some).1 (omega (arith, h))

pub falls_short : (f d r : ℕ) → zero < f → d < least_for f r → on_ground f d < r
unfolding on_ground
falls_short f d r some h = lt_of_not-le (λ k. absurd (omega (arith, h, (le-div_iff_mul-le some).0 k)))

-- The root of a number below the square of e is below e.
root_below : (y e : ℕ) → y < e * e → root y < e
root_below y e h = lt_of_not-le (λ k. absurd (omega (arith, h, mul-le-mul k k, (root_law y).low)))

module _ (f y m u d slack : ℕ) (some : zero < f) where
  -- If y is at least the square of the least distance for r, the slave's range is at least r; else it is less.
  range_least : (r e : ℕ) → e ≡ least_for f r → e * e ≤ y → r ≤ on_ground f (root y)
  range_least r e is h = reaches f (root y) r some (omega (arith, is, below_next e (root y) y h (root_law y).high))

  range_less : (r e : ℕ) → e ≡ least_for f r → y < e * e → on_ground f (root y) < r
  range_less r e is h = falls_short f (root y) r some (omega (arith, is, root_below y e h))

  -- No range of the slave is small enough.
  pub none_near : m + u + slack < d → leb (miss f y m u d) slack ≡ false
  none_near h = lt-leb (miss f y m u d) slack (omega arith)

  -- The slave is farther away than the highest range allowed.
  pub too_far : (high e : ℕ) → high + d ≡ m + u + slack → e ≡ least_for f (high + 1) → e * e ≤ y → leb (miss f y m u d) slack ≡ false
  too_far high e is end h = lt-leb (miss f y m u d) slack (omega (arith, is, range_least (high + 1) e end h))

  -- It is not, and every smaller range is allowed.
  pub not_far : (high e : ℕ) → high + d ≡ m + u + slack → e ≡ least_for f (high + 1) → y < e * e → m + u ≤ d + slack → leb (miss f y m u d) slack ≡ true
  not_far high e is end h l = le-leb (miss f y m u d) slack (omega (arith, is, l, range_less (high + 1) e end h))

  -- It is not, and the lowest range allowed decides.
  pub by_low : (high e low s : ℕ) → high + d ≡ m + u + slack → e ≡ least_for f (high + 1) → y < e * e → low + (d + slack) ≡ m + u → s ≡ least_for f low → leb (s * s) y ≡ leb (miss f y m u d) slack
  by_low high e low s is end h l start = go (dec_le (s * s) y)
    where
      go : Dec (s * s ≤ y) → leb (s * s) y ≡ leb (miss f y m u d) slack
      go (yes k) =
          le-leb _ _ k
          ∙ sym (le-leb (miss f y m u d) slack (omega (arith, is, l, range_less (high + 1) e end h, range_least low s start k)))
      go (no g) =
          lt-leb _ _ (lt_of_not-le g) ∙ sym (lt-leb (miss f y m u d) slack (omega (arith, l, range_less low s start (lt_of_not-le g))))
