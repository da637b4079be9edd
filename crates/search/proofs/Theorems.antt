-- Demand 3: what the answer of a search guarantees. `search::search` is proved to answer `search_of` and to leave its places in the
-- list; these theorems say what `search_of` is, in terms of the cells of the window alone.
use Prim.Native.Nat.{ℕ, ◌≤◌, ◌<◌}
use mathlib.Core.Path.{◌≡◌, refl, ap, ◌∙◌, subst⁻¹}
use mathlib.Core.Bool.{false}
use mathlib.Core.List.{List, []}
use native.Mathlib.Omega.{arith}
use native.Mathlib.Nat.{le_trans, lt_of_not-le}
use native.Mathlib.Decide.{dec_le}
use lib.ListN.{length}
use Rattle.chart.specs.declared.Place.{Place}
use Rattle.chart.specs.declared.Chain.{Chain}
use Rattle.chart.specs.Readings.{readings_of}
use Rattle.chart.proofs.ReadingLaws.{own_match}
use Rattle.search.specs.declared.Window.{Window}
use Rattle.search.specs.Windows.{IsCellIn}
use Rattle.search.specs.Questions.{Question, question_of, matches}
use Rattle.search.specs.Answers.{Outcome, gone, Accepted, search_of, search_figures, figures_in}
use Rattle.search.specs.Cells.{chart_number, Rises, matching, matching_in, visits_in, most_visits, IsMatch, IsListed, AmpleRoom, AmpleAllowance}
use Rattle.search.proofs.CellLaws.{those_none, cell-inside, matching_all, matching_only}
use Rattle.search.proofs.Order.{rising_only}
use Rattle.search.proofs.Counting.{at_most}
use Rattle.search.proofs.Outcomes.{ample_complete, short_full, ending}
use Rattle.search.proofs.Telling.{gone_places, gone_visits, gone_count, gone_small, search_counts, places_of, rises_of, none_of, unmatched, spent_of}

module _ (q : Question) (w : Window) where
  -- Every listed cell lies in the window and matches, whatever the room and the allowance.
  pub listed-matches : (o : Place) → IsListed o (search_of q w).places → IsMatch q.rule w o
  listed-matches o m = matching_only q.rule w.k w.corner o (places_of q w (search_of q w) (ending q w) o m)

  -- With ample room and allowance, a cell is listed exactly if it lies in the window and matches.
  pub listed_iff_matches : Accepted q.rule w → AmpleRoom q w → AmpleAllowance q w → (o : Place) →
      (IsListed o (search_of q w).places → IsMatch q.rule w o) × (IsMatch q.rule w o → IsListed o (search_of q w).places)
  listed_iff_matches a room enough o = (
    listed-matches o,
    λ h.
        subst⁻¹ (IsListed o) (ap (λ (x : Outcome). x.places) (ample_complete q w a enough room) ∙ gone_places (matching_in q.rule w) (visits_in q.rule w))
        (matching_all q.rule w.k w.corner o h.0 h.1),
  )

  -- The chart numbers of the listed cells strictly rise: so they are in chart order, and each is listed once.
  pub numbers_rise : Rises (chart_number w) (search_of q w).places
  numbers_rise = rises_of q w (search_of q w) (ending q w)

  -- Any list with these two properties is the list of the search.
  pub only_list : Accepted q.rule w → AmpleRoom q w → AmpleAllowance q w → (l : List Place) →
      ((o : Place) → IsListed o l → IsMatch q.rule w o) → ((o : Place) → IsMatch q.rule w o → IsListed o l) → Rises (chart_number w) l →
      l ≡ (search_of q w).places
  only_list a room enough l right all rises =
      rising_only (chart_number w) l (search_of q w).places rises numbers_rise
      (λ o m. (listed_iff_matches a room enough o).1 (right o m))
      (λ o m. all o (listed-matches o m))

  -- 8 is answered exactly when no cell matches. That it is answered only then does not depend on the allowance.
  pub eight_only_then : (figures_in q w).refusal ≡ 8 → (o : Place) → IsCellIn w o → matches q.rule o ≡ false
  eight_only_then e o i = unmatched q w o i (none_of q w (search_of q w) (ending q w) e) (matches q.rule o) refl

  pub eight_when_none : Accepted q.rule w → AmpleAllowance q w → ((o : Place) → IsCellIn w o → matches q.rule o ≡ false) → (figures_in q w).refusal ≡ 8
  unfolding search_figures matching
  eight_when_none a enough none =
      let nothing : matching_in q.rule w ≡ [] =
      those_none (matches q.rule) _ (λ o m. none o (cell-inside w.k w.corner o m)) in
      ap (λ (x : Outcome). (search_figures x.answer).refusal) (ample_complete q w a enough (omega (arith, ap length nothing)))
      ∙ ap (λ (l : List Place). (search_figures (gone l (visits_in q.rule w)).answer).refusal) nothing

  -- With ample room and allowance, the visits are the quartering count, and the count is that of the matching cells.
  pub visits_are_counted : Accepted q.rule w → AmpleRoom q w → AmpleAllowance q w → (figures_in q w).visits ≡ visits_in q.rule w
  visits_are_counted a room enough =
      ap (λ (x : Outcome). (search_figures x.answer).visits) (ample_complete q w a enough room) ∙ gone_visits (matching_in q.rule w) (visits_in q.rule w)

  pub places_are_counted : Accepted q.rule w → AmpleRoom q w → AmpleAllowance q w → (figures_in q w).count ≡ length (matching_in q.rule w)
  places_are_counted a room enough =
      ap (λ (x : Outcome). (search_figures x.answer).count) (ample_complete q w a enough room) ∙ gone_count (matching_in q.rule w) (visits_in q.rule w)

  -- The count is that of the places listed, whatever is answered.
  pub listed_are_counted : (figures_in q w).count ≡ length (search_of q w).places
  listed_are_counted = search_counts q w

  -- An allowance of (4^(k + 1) - 1) / 3 is ample in every window of side 2^k.
  pub always_enough : most_visits w.k ≤ q.limits.allowance → AmpleAllowance q w
  always_enough h = le_trans (at_most q.rule w.k w.corner) h

  -- With ample allowance, 9 is answered exactly when there are more matching cells than room.
  pub nine_when_short : Accepted q.rule w → AmpleAllowance q w → q.limits.room < length (matching_in q.rule w) → (figures_in q w).refusal ≡ 9
  unfolding search_figures
  nine_when_short a enough short = ap (λ (x : Outcome). (search_figures x.answer).refusal) (short_full q w a enough short)

  pub nine_only_then : Accepted q.rule w → AmpleAllowance q w → (figures_in q w).refusal ≡ 9 → q.limits.room < length (matching_in q.rule w)
  nine_only_then a enough e = go (dec_le (length (matching_in q.rule w)) q.limits.room)
    where
      go : Dec (length (matching_in q.rule w) ≤ q.limits.room) → q.limits.room < length (matching_in q.rule w)
      go (no f) = lt_of_not-le f
      go (yes room) =
          let told = ap (λ (x : Outcome). (search_figures x.answer).refusal) (ample_complete q w a enough room) in
          absurd (omega (arith, e, told, gone_small (matching_in q.rule w) (visits_in q.rule w)))

  -- No search makes more visits than allowed, and one that answers 10 has made exactly as many.
  pub visits_in_allowance : ((figures_in q w).visits ≤ q.limits.allowance) × ((figures_in q w).refusal ≡ 10 → (figures_in q w).visits ≡ q.limits.allowance)
  visits_in_allowance = spent_of q w (search_of q w) (ending q w)

-- A place's own readings find that place, with ample room and allowance.
pub own_readings_found : (c : Chain) (p : Place) (w : Window) (tolerance allowance entries : ℕ) →
    let q = question_of c (readings_of c p) tolerance allowance entries in
    Accepted q.rule w → AmpleRoom q w → AmpleAllowance q w → IsCellIn w p → IsListed p (search_of q w).places
own_readings_found c p w tolerance allowance entries a room enough i =
    (listed_iff_matches (question_of c (readings_of c p) tolerance allowance entries) w a room enough p).1
    (i, own_match tolerance c p)
