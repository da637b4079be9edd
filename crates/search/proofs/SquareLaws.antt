-- A square on the chart: its corner, its middle, and the half of its side.
use Prim.Native.Nat.{ℕ, suc, ◌+◌, ◌-◌, ◌*◌, ◌/◌, ◌^◌, ◌<◌}
use mathlib.Core.Path.{◌≡◌, ap, ap₂, ◌∙◌}
use mathlib.Core.Bool.{true}
use native.Mathlib.Omega.{arith}
use native.Mathlib.Nat.{pow-succ'}
use lib.Pow.{pow_pos}
use Rattle.chart.specs.declared.Place.{Place}
use Rattle.chart.specs.Places.{in_range}
use Rattle.chart.specs.Readings.{within}
use Rattle.chart.proofs.PlaceLaws.{says_in_range}
use Rattle.search.specs.Windows.{north_east}
use Rattle.search.specs.Questions.{Rule, is_kept}
use Rattle.search.specs.Holding.{OnChart}

module _ (k side : ℕ) (p : Place) (w : OnChart k side p) where
  -- The corner is in range.
  pub corner_in_range : in_range p ≡ true
  corner_in_range =
      let some : 0 < 2 ^ k = pow_pos k in
      says_in_range p (omega (arith, w.side_is, w.east)) (omega (arith, w.side_is, w.north))

  module _ (larger : k ≡ 0 → ⊥) where
    -- The exponent is one more than the quarters'.
    pub k_is : k ≡ suc (k - 1)
    k_is = omega (arith, larger)

    doubled : 2 ^ k ≡ 2 * 2 ^ (k - 1)
    doubled = ap (λ (x : ℕ). 2 ^ x) k_is ∙ pow-succ' 2 (k - 1)

    -- Half the side is the quarters' side.
    pub half_is : side / 2 ≡ 2 ^ (k - 1)
    half_is = omega (arith, doubled, w.side_is)

    some : 0 < 2 ^ (k - 1)
    some = pow_pos (k - 1)

    -- The middle is in range.
    pub middle_in_range : in_range (north_east (side / 2) p) ≡ true
    middle_in_range =
        says_in_range (north_east (side / 2) p)
        (omega (arith, half_is, doubled, some, w.side_is, w.east))
        (omega (arith, half_is, doubled, some, w.side_is, w.north))

    -- The test of the code, at the middle of the square, is the definition's.
    pub kept_is : (rule : Rule) (middle : Place) → middle ≡ north_east (side / 2) p → within (rule.tolerance + 2 * side + 4) rule.chain rule.wanted middle ≡ is_kept rule (k - 1) p
    kept_is rule middle e =
        ap₂ (λ (d : ℕ) (o : Place). within (rule.tolerance + 2 * d + 4) rule.chain rule.wanted o)
        (w.side_is ∙ ap (λ (x : ℕ). 2 ^ x) k_is)
        (e ∙ ap (λ (d : ℕ). north_east d p) half_is)
