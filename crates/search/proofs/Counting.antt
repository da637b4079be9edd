-- No square of side 2 ^ k takes more than (4 ^ (k + 1) - 1) / 3 visits: one, and four times those of a quarter.
use Prim.Native.Nat.{ℕ, zero, suc, ◌+◌, ◌-◌, ◌*◌, ◌/◌, ◌^◌, ◌≤◌}
use mathlib.Core.Path.{◌≡◌, refl, ap, ◌∙◌}
use mathlib.Core.Bool.{Bool, true, false}
use native.Mathlib.Omega.{arith}
use native.Mathlib.Nat.{pow-succ'}
use native.Mathlib.Numerals.{add-one}
use Rattle.fields.specs.Choices.{where_so}
use Rattle.chart.specs.declared.Place.{Place}
use Rattle.search.specs.Windows.{east, north, north_east}
use Rattle.search.specs.Questions.{Rule, is_kept}
use Rattle.search.specs.Cells.{visits_of, most_visits}

tower : ℕ → ℕ
tower zero = 1
tower (suc k) = 1 + 4 * tower k

four_fold : (k : ℕ) → 4 ^ (k + 1) ≡ 4 * 4 ^ k
four_fold k = ap (λ (x : ℕ). 4 ^ x) (add-one k) ∙ pow-succ' 4 k

power_is : (k : ℕ) → 4 ^ (k + 1) ≡ 3 * tower k + 1
unfolding tower
power_is zero = refl
power_is (suc k) = omega (arith, power_is k, four_fold (suc k), ap (λ (x : ℕ). 4 ^ x) (add-one k))

third : (m : ℕ) → (3 * m + 1 - 1) / 3 ≡ m
third m = omega arith

most_is : (k : ℕ) → most_visits k ≡ tower k
most_is k = ap (λ (x : ℕ). (x - 1) / 3) (power_is k) ∙ third (tower k)

where_at_most : (b : Bool) (n m : ℕ) → n ≤ m → where_so b 0 (λ _. n) ≤ m
where_at_most true n m h = h
where_at_most false n m h = omega arith

in_tower : (rule : Rule) (k : ℕ) (p : Place) → visits_of rule k p ≤ tower k
unfolding visits_of tower
in_tower rule zero p = omega arith
in_tower rule (suc k) p =
    let se : Place = east (2 ^ k) p in
    let nw : Place = north (2 ^ k) p in
    let ne : Place = north_east (2 ^ k) p in
    omega (
      arith,
      where_at_most (is_kept rule k p) (visits_of rule k p + (visits_of rule k se + (visits_of rule k nw + visits_of rule k ne))) (4 * tower k)
          (omega (arith, in_tower rule k p, in_tower rule k se, in_tower rule k nw, in_tower rule k ne)),
    )

-- The law: a square takes no more visits than that.
pub at_most : (rule : Rule) (k : ℕ) (p : Place) → visits_of rule k p ≤ most_visits k
at_most rule k p = omega (arith, in_tower rule k p, most_is k)
