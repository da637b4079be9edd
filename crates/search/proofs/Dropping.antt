-- A square that is dropped has no matching cell. Each of its cells lies at most half a side from the middle each way, so its
-- distances differ from the middle's by at most 3/4 of the side, or by 2 if the side is 2; its ranges, whatever the factor, by at
-- most 2 more than the side; and its readings by twice that.
use Prim.Native.Nat.{ℕ, zero, suc, ◌+◌, ◌*◌, ◌^◌, ◌≤◌, ◌<◌}
use mathlib.Core.Path.{◌≡◌, refl, sym, ap, ◌∙◌}
use mathlib.Core.Bool.{Bool, true, false, true≢false}
use mathlib.Core.List.{[]}
use native.Mathlib.Omega.{arith}
use native.Mathlib.Nat.{le_refl, le_trans, pow-succ', mul_assoc, mul_left_comm, mul-le-mul}
use Rattle.squares.proofs.Squares.{sq_double}
use Rattle.chart.specs.declared.Place.{Place}
use Rattle.chart.specs.Places.{apart}
use Rattle.chart.specs.Factors.{unit_factor, least_factor, is_factor}
use Rattle.chart.proofs.GroundLaws.{factor_says, factor_some}
use Rattle.chart.proofs.Moving.{within_moves}
use Rattle.search.specs.Windows.{north_east, IsCellOf}
use Rattle.search.specs.Questions.{Rule, matches, is_kept}
use Rattle.search.specs.Cells.{matching, cells}
use Rattle.search.proofs.CellLaws.{those_none, cell-inside}

-- The most that a distance changes from the middle of a square of side 2 ^ (k + 1) to any of its cells.
span : ℕ → ℕ
span zero = 2
span (suc j) = 3 * 2 ^ j

sq_treble : (x : ℕ) → (3 * x) * (3 * x) ≡ 9 * (x * x)
sq_treble x = simp (mul_assoc, mul_left_comm x 3 x) (omega arith)

-- It covers half a side each way.
spans : (k : ℕ) → 2 ^ k * 2 ^ k + 2 ^ k * 2 ^ k ≤ span k * span k
unfolding span
spans zero = omega arith
spans (suc j) =
    omega (arith, ap (λ (x : ℕ). x * x) (pow-succ' 2 j), sq_double (2 ^ j), sq_treble (2 ^ j))

-- On the ground that is at most 2 more than the side, for the least factor and so for every one that is allowed.
by_least : (k : ℕ) → span k * unit_factor ≤ (2 ^ suc k + 2) * least_factor
unfolding span
by_least zero = omega arith
by_least (suc j) = omega (arith, pow-succ' 2 (suc j), pow-succ' 2 j)

on_ground_lem : (k f : ℕ) → least_factor ≤ f → span k * unit_factor ≤ (2 ^ suc k + 2) * f
on_ground_lem k f h = le_trans (by_least k) (mul-le-mul (le_refl (2 ^ suc k + 2)) h)

-- And the dropping rule leaves room for twice that.
room_for_it : (t s : ℕ) → t + 2 * (s + 2) ≤ t + 2 * s + 4
room_for_it t s = omega arith

from_middle : (p o h side : ℕ) → side ≡ 2 * h → p ≤ o → o < p + side → apart (p + h) o ≤ h
from_middle p o h side e l u = omega arith

-- The factor of the rule's chain is allowed, as it is if the tests of a search pass.
abbrev pub Allowed : Rule → Type 0
Allowed rule = is_factor rule.chain.factor ≡ true

-- If a cell of the square matches, the square is kept.
kept_by : (rule : Rule) (k : ℕ) (p o : Place) → Allowed rule → IsCellOf (suc k) p o → matches rule o ≡ true → is_kept rule k p ≡ true
kept_by rule k p o f i e =
    within_moves rule.tolerance _ rule.chain rule.wanted (north_east (2 ^ k) p) o (2 ^ suc k + 2)
    (record {
      east = 2 ^ k;
      north = 2 ^ k;
      along = span k;
      by_east = from_middle p.easting o.easting (2 ^ k) (2 ^ suc k) (pow-succ' 2 k) i.from_west i.to_east;
      by_north = from_middle p.northing o.northing (2 ^ k) (2 ^ suc k) (pow-succ' 2 k) i.from_south i.to_north;
      length = spans k;
      some = factor_some rule.chain.factor f;
      ground = on_ground_lem k rule.chain.factor (factor_says rule.chain.factor f).0;
    })
    (room_for_it rule.tolerance (2 ^ suc k))
    e

not_so : (b : Bool) → (b ≡ true → ⊥) → b ≡ false
not_so true f = absurd (f refl)
not_so false f = refl

-- The dropping law: a dropped square has no matching cell.
pub dropped_none : (rule : Rule) (k : ℕ) (p : Place) → Allowed rule → is_kept rule k p ≡ false → matching rule (suc k) p ≡ []
unfolding matching
dropped_none rule k p f e =
    those_none (matches rule) (cells (suc k) p)
    (λ o m. not_so (matches rule o) (λ t. true≢false (sym (kept_by rule k p o f (cell-inside (suc k) p o m) t) ∙ e)))
