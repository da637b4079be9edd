-- A search for given readings: when it passes the tests, what matching means, and that the readings of a place find the
-- place.
use Prim.Native.Nat.{ℕ, ◌≤◌}
use mathlib.Core.Path.{◌≡◌, refl, sym, subst, subst⁻¹}
use mathlib.Core.Logic.{◌↔◌}
use mathlib.Core.Bool.{Bool, true, false, cond}
use mathlib.Core.List.{List, [], ◌∷◌}
use borrow.Author.Tests.{leb-true, le-leb}
use lib.Dec.{leb}
use lib.IntN.{ℤ, nat_abs}
use Rattle.std.specs.Prelude.{Result, Ok, Err}
use Rattle.refusals.specs.declared.Refusal.TheVariants as refusal
use Rattle.chart.specs.declared.Place.{Place}
use Rattle.chart.specs.declared.Chain.{Chain}
use Rattle.chart.specs.Places.{in_range}
use Rattle.chart.specs.Chains.{slaves_of, is_sound}
use Rattle.chart.specs.Readings.{reading_of, readings_of, differ, Wanted, wanted_for, within, expected_at}
use Rattle.chart.proofs.PlaceLaws.{both, and_both}
use Rattle.search.specs.declared.Window.{Window}
use Rattle.search.specs.declared.Found.{Found}
use Rattle.search.specs.declared.Unfound.{Unfound}
use Rattle.search.specs.Windows.{is_window, IsCellIn}
use Rattle.search.specs.Questions.{Question, rule_of, question_of, none_too_large}
use Rattle.search.specs.Answers.{Accepted, search_of, search_figures}
use Rattle.search.specs.Cells.{IsListed, AmpleRoom, AmpleAllowance}
use Rattle.search.proofs.Outcomes.{ending}
use Rattle.search.proofs.Theorems.{own_readings_found}
use Rattle.listing.specs.Answers.{fix_with, searched, places_of}
use Rattle.demands.specs.Finding.{EachSmall, EachWithin}
use Rattle.demands.specs.Numbers.{Refuses}
use Rattle.demands.proofs.NumberLaws.{unfound_number, refused_lists}

-- If readings are expected at a place, they are the place's own, and the chain is sound.
pub own_readings : (c : Chain) (p : Place) (readings : List ℤ) → expected_at c p ≡ Ok readings →
    (readings_of c p ≡ readings) × (is_sound c ≡ true)
unfolding expected_at
own_readings c p readings e = go (in_range p) (is_sound c) refl e
  where
    go : (s t : Bool) → is_sound c ≡ t →
        cond s (cond t (Ok (readings_of c p)) (Err refusal.Chain)) (Err refusal.Place) ≡ Ok readings →
        (readings_of c p ≡ readings) × (is_sound c ≡ true)
    go true true sound e = (cc, sound)
    go true false sound e = (cc, cc)
    go false t sound e = (cc, cc)

-- A search for these readings finds the place.
pub found_by : (c : Chain) (p : Place) (readings : List ℤ) (w : Window) (tolerance allowance entries : ℕ) →
    let q = question_of c readings tolerance allowance entries in
    expected_at c p ≡ Ok readings → IsCellIn w p → Accepted q.rule w → AmpleRoom q w → AmpleAllowance q w → IsListed p (search_of q w).places
found_by c p readings w tolerance allowance entries e inside =
    let asked : List ℤ → Question = λ rs. question_of c rs tolerance allowance entries in
    subst (λ (rs : List ℤ). Accepted (asked rs).rule w → AmpleRoom (asked rs) w → AmpleAllowance (asked rs) w → IsListed p (search_of (asked rs) w).places)
    (own_readings c p readings e).0
    (λ accepted room enough. own_readings_found c p w tolerance allowance entries accepted room enough inside)

-- Readings that are not too large pass the test of a search.
small_pass : (slaves : List Place) (readings : List ℤ) → EachSmall readings → none_too_large (wanted_for slaves readings) ≡ true
unfolding none_too_large EachSmall
small_pass [] readings h = refl
small_pass (slave ∷ slaves) [] h = refl
small_pass (slave ∷ slaves) (r ∷ rs) h = and_both (le-leb (nat_abs r) 1_000_000_000 h.0) (small_pass slaves rs h.1)

-- With a sound chain, and a window and a tolerance within their limits, they pass all tests of a search.
pub tests_pass : (c : Chain) (readings : List ℤ) (w : Window) (tolerance : ℕ) →
    EachSmall readings → is_sound c ≡ true → is_window w ≡ true → tolerance ≤ 100_000 →
    Accepted (rule_of c readings tolerance) w
tests_pass c readings w tolerance small sound window few =
    record { readings = small_pass (slaves_of c) readings small; chain = sound; window = window; tolerance = few }

-- Matching, reading by reading.
pub each_differs : (t : ℕ) (c : Chain) (ws : List Wanted) (o : Place) → within t c ws o ≡ true ↔ EachWithin t c ws o
unfolding within EachWithin
each_differs t c [] o = ((λ e. tt), (λ h. refl))
each_differs t c (w ∷ ws) o =
    let rest = each_differs t c ws o in (
      (λ e.
          let two = both (leb (differ (reading_of c w.slave o) w.reading) t) (within t c ws o) e in
          (leb-true _ _ two.0, rest.0 two.1)),
      (λ h. and_both (le-leb _ _ h.0) (rest.1 h.1)),
    )

-- The answer to a record lists the places that its search lists.
pub fix_places : (rounded : Bool) (q : Question) (w : Window) → places_of (searched rounded (search_of q w)) ≡ (search_of q w).places
unfolding fix_with places_of
fix_places rounded q w = go (search_of q w).answer refl
  where
    go : (a : Result Found Unfound) → (search_of q w).answer ≡ a → places_of (fix_with rounded (search_of q w).places a) ≡ (search_of q w).places
    go (Ok found) e = refl
    go (Err why) e =
        sym (refused_lists q w (search_of q w) (ending q w) (subst⁻¹ (λ (a : Result Found Unfound). Refuses (search_figures a).refusal) e (unfound_number why)))
