-- What a range is: the distance as long as it is on the ground. Every proof that relies on this cites the law here; apart from
-- examples that are computed, nothing else looks into `range_of`.
use mathlib.Core.Path.{◌≡◌, refl, ap, ap₂, ◌∙◌}
use mathlib.Core.List.{List, [], ◌∷◌, map}
use lib.IntN.{ℤ, sub_ℕ}
use Rattle.chart.specs.declared.Place.{Place}
use Rattle.chart.specs.declared.Chain.{Chain}
use Rattle.chart.specs.Places.{distance_of}
use Rattle.chart.specs.Factors.{unit_factor, on_ground}
use Rattle.chart.specs.Chains.{slaves_of}
use Rattle.chart.specs.Readings.{range_of, reading_of, readings_of}
use Rattle.chart.proofs.GroundLaws.{ground_is_grid}

-- The range of a station is its distance on the ground.
pub range_is_on_ground : (c : Chain) (p station : Place) → range_of c p station ≡ on_ground c.factor (distance_of p station)
unfolding range_of
range_is_on_ground c p station = refl

-- With the factor 1,000,000 it is the distance.
pub range_is_distance : (c : Chain) (p station : Place) → c.factor ≡ unit_factor → range_of c p station ≡ distance_of p station
range_is_distance c p station one =
    range_is_on_ground c p station ∙ ap (λ f. on_ground f (distance_of p station)) one ∙ ground_is_grid (distance_of p station)

-- Two ways to make a reading for each slave are the same if they are the same for every slave.
each_same : (f g : Place → ℤ) → ((slave : Place) → f slave ≡ g slave) → (slaves : List Place) → map f slaves ≡ map g slaves
each_same f g same [] = refl
each_same f g same (slave ∷ slaves) = ap₂ (λ (r : ℤ) (rs : List ℤ). r ∷ rs) (same slave) (each_same f g same slaves)

-- The readings of a place are the differences of its ranges, one for each slave.
reading_is : (c : Chain) (slave p : Place) → reading_of c slave p ≡ sub_ℕ (range_of c p slave) (range_of c p c.master)
unfolding reading_of
reading_is c slave p = refl

pub readings_are : (c : Chain) (p : Place) → readings_of c p ≡ map (λ slave. sub_ℕ (range_of c p slave) (range_of c p c.master)) (slaves_of c)
readings_are c p = each_same _ _ (λ slave. reading_is c slave p) (slaves_of c)

-- With the factor 1,000,000 they are the differences of its distances.
pub readings_unscaled : (c : Chain) (p : Place) → c.factor ≡ unit_factor →
    readings_of c p ≡ map (λ slave. sub_ℕ (distance_of p slave) (distance_of p c.master)) (slaves_of c)
readings_unscaled c p one =
    each_same _ _ (λ slave. reading_is c slave p ∙ ap₂ sub_ℕ (range_is_distance c p slave one) (range_is_distance c p c.master one)) (slaves_of c)
