-- Demand 3 of the request: Take a sound chain, two readings, a square of chart and a tolerance, all within their limits, and
-- enough room and search allowance. The list holds every centimetre cell of the square whose two differences are within the
-- tolerance, each once, in the stated order, and no other cell. "No fix" comes exactly when there is no such cell. The
-- squares searched are counted by the written rule, and the stated greatest allowance always suffices.
use Prim.Native.Nat.{ℕ, suc, ◌+◌, ◌-◌, ◌/◌, ◌^◌, ◌≤◌, ◌<◌}
use mathlib.Core.Path.{◌≡◌, refl, ap}
use mathlib.Core.Logic.{◌↔◌}
use mathlib.Core.Bool.{true, false}
use mathlib.Core.List.{List, []}
use native.Mathlib.Nat.{le_trans}
use borrow.Author.Tests.{leb-false, lt-leb}
use lib.IntN.{ℤ}
use lib.ListN.{length}
use Rattle.std.specs.Prelude.{Result, Ok}
use Rattle.chart.specs.declared.Place.{Place}
use Rattle.chart.specs.declared.Chain.{Chain}
use Rattle.chart.specs.Chains.{is_sound}
use Rattle.chart.specs.Readings.{wanted_of}
use Rattle.search.specs.declared.Window.{Window}
use Rattle.search.specs.declared.Found.{Found}
use Rattle.search.specs.declared.Unfound.{Unfound}
use Rattle.search.specs.Windows.{east, north, north_east, is_window, IsCellIn}
use Rattle.search.specs.Questions.{Rule, Question, rule_of, question_of, none_too_large, matches, is_kept}
use Rattle.search.specs.Answers.{Accepted, search_of, search_figures, figures_in}
use Rattle.search.specs.Cells.{chart_number, Rises, IsListed, matching, matching_in, visits_of, visits_in, AmpleRoom, AmpleAllowance}
use Rattle.chart.proofs.GroundLaws.{says_factor}
use Rattle.search.proofs.Whole.{visits_kept, visits_dropped}
use Rattle.search.proofs.Dropping.{dropped_none}
use Rattle.search.proofs.Theorems.{listed_iff_matches, numbers_rise, only_list, eight_only_then, eight_when_none, visits_are_counted, places_are_counted, listed_are_counted, always_enough, nine_when_short, nine_only_then, visits_in_allowance}
use Rattle.demands.specs.Finding.{Enough, EachSmall, EachWithin, EachOnce, IsTheList}
use Rattle.demands.proofs.AskingLaws.{tests_pass, each_differs}
use Rattle.demands.proofs.TestLaws.{tests_in_order, found_answered}
use Rattle.demands.proofs.StoppingLaws.{rising_once, matching_few, ten_when_short, ten_only_then, ten_at_once}

-- The list of a search holds every cell of the window that matches, and no other, each once, in chart order.
pub exactly_the_matching_cells : (q : Question) (w : Window) → Enough q w → IsTheList q w (search_of q w).places
exactly_the_matching_cells q w e =
    let listed = listed_iff_matches q w e.accepted e.room e.allowance in
    record {
      every = λ o inside m. (listed o).1 (inside, m);
      no_other = λ o m. (listed o).0 m;
      once = rising_once _ (search_of q w).places (numbers_rise q w);
      in_order = numbers_rise q w;
    }

-- A cell matches exactly if each of its readings differs from the wanted one by at most the tolerance.
pub matching_means : (c : Chain) (readings : List ℤ) (tolerance : ℕ) (o : Place) →
    (matches (rule_of c readings tolerance) o ≡ true) ↔ EachWithin tolerance c (wanted_of c readings) o
matching_means c readings tolerance o = each_differs tolerance c (wanted_of c readings) o

-- If some cell of the window matches, nothing is refused: the answer is the count of all matching cells and the visits that
-- the rule counts.
pub answered_with_places : (q : Question) (w : Window) → Enough q w → (o : Place) → IsCellIn w o → matches q.rule o ≡ true →
    ((figures_in q w).refusal ≡ 0) × ((search_of q w).answer ≡ Ok (record { count = length (matching_in q.rule w); visits = visits_in q.rule w }))
unfolding search_figures
answered_with_places q w e o inside m =
    let places = found_answered q w e o inside m in
    (ap (λ (a : Result Found Unfound). (search_figures a).refusal) places, places)

-- Any list that holds every matching cell and no other, each once, in chart order, is the list of the search.
pub no_other_list : (q : Question) (w : Window) → Enough q w → (l : List Place) → IsTheList q w l → l ≡ (search_of q w).places
no_other_list q w e l is =
    only_list q w e.accepted e.room e.allowance l is.no_other (λ o h. is.every o h.0 h.1) is.in_order

-- The count in the answer is the number of matching cells, and the visits in the answer are those that the rule counts.
pub counts_are_right : (q : Question) (w : Window) → Enough q w →
    ((figures_in q w).count ≡ length (matching_in q.rule w)) × ((figures_in q w).visits ≡ visits_in q.rule w)
counts_are_right q w e = (
  places_are_counted q w e.accepted e.room e.allowance,
  visits_are_counted q w e.accepted e.room e.allowance,
)

-- The rule of the count: a cell costs one visit; a larger square that is dropped costs one; any other square costs one and
-- the visits of its four quarters. A square that is dropped has no matching cell, whatever factor from 999,000 to 1,001,000 the chain
-- has, and whatever the size of the square.
pub visits_by_the_rule : (rule : Rule) (k : ℕ) (p : Place) →
    (visits_of rule 0 p ≡ 1)
    × (is_kept rule k p ≡ false → visits_of rule (suc k) p ≡ 1)
    × (is_kept rule k p ≡ false → 999_000 ≤ rule.chain.factor → rule.chain.factor ≤ 1_001_000 → matching rule (suc k) p ≡ [])
    × (is_kept rule k p ≡ true → visits_of rule (suc k) p
    ≡ 1 + (visits_of rule k p + (visits_of rule k (east (2 ^ k) p) + (visits_of rule k (north (2 ^ k) p) + visits_of rule k (north_east (2 ^ k) p)))))
unfolding visits_of
visits_by_the_rule rule k p = (
  refl,
  visits_dropped rule k p,
  (λ e least most. dropped_none rule k p (says_factor rule.chain.factor least most) e),
  visits_kept rule k p,
)

-- An allowance of (4^(k+1) - 1)/3 is always enough.
pub greatest_allowance : (q : Question) (w : Window) → (4 ^ (w.k + 1) - 1) / 3 ≤ q.limits.allowance → visits_in q.rule w ≤ q.limits.allowance
greatest_allowance q w h = always_enough q w h

-- Room for 4^k places is always enough too.
pub greatest_room : (q : Question) (w : Window) → 4 ^ w.k ≤ q.limits.room → length (matching_in q.rule w) ≤ q.limits.room
greatest_room q w h = le_trans (matching_few q.rule w.k w.corner) h

-- Refusals 3, 5, 6 and 7 come before the walk, in this order: 3 exactly when a reading is too large; else 5 exactly when the
-- chain is not sound; else 6 exactly when the window is not allowed; else 7 exactly when the tolerance is too large.
pub refused_before_the_walk : (q : Question) (w : Window) →
    let number = (figures_in q w).refusal in
    let small = none_too_large q.rule.wanted in
    let sound = is_sound q.rule.chain in
    ((number ≡ 3) ↔ (small ≡ false))
    × ((number ≡ 5) ↔ ((small ≡ true) × (sound ≡ false)))
    × ((number ≡ 6) ↔ ((small ≡ true) × (sound ≡ true) × (is_window w ≡ false)))
    × ((number ≡ 7) ↔ ((small ≡ true) × (sound ≡ true) × (is_window w ≡ true) × (100_000 < q.rule.tolerance)))
refused_before_the_walk q w =
    let tests = tests_in_order q w in (
      tests.0,
      tests.1,
      tests.2,
      (
        (λ e. let h = tests.3.0 e in (h.0, h.1, h.2, leb-false _ _ h.3)),
        (λ h. tests.3.1 (h.0, h.1, h.2, lt-leb _ _ h.3)),
      ),
    )

-- If the tests before the walk pass and the allowance is ample, the answer is 8, "no fix", exactly when no cell of the window
-- matches.
pub no_fix : (q : Question) (w : Window) → Accepted q.rule w → AmpleAllowance q w →
    ((figures_in q w).refusal ≡ 8) ↔ ((o : Place) → IsCellIn w o → matches q.rule o ≡ false)
no_fix q w a enough = (eight_only_then q w, eight_when_none q w a enough)

-- If they pass and the allowance is ample, the answer is 9 exactly when more cells match than there is room for.
pub no_room : (q : Question) (w : Window) → Accepted q.rule w → AmpleAllowance q w →
    ((figures_in q w).refusal ≡ 9) ↔ (q.limits.room < length (matching_in q.rule w))
no_room q w a enough = (nine_only_then q w a enough, nine_when_short q w a enough)

-- If they pass and the room is ample, the answer is 10 exactly when the rule counts more visits than are allowed. The visits
-- made are then exactly the allowance.
pub allowance_used_up : (q : Question) (w : Window) → Accepted q.rule w → AmpleRoom q w →
    (((figures_in q w).refusal ≡ 10) ↔ (q.limits.allowance < visits_in q.rule w))
    × ((figures_in q w).refusal ≡ 10 → (figures_in q w).visits ≡ q.limits.allowance)
allowance_used_up q w a room = ((ten_only_then q w a room, ten_when_short q w a room), (visits_in_allowance q w).1)

-- If they pass and the allowance is 0, the answer is 10, whatever the room.
pub no_allowance : (q : Question) (w : Window) → Accepted q.rule w → q.limits.allowance ≡ 0 → (figures_in q w).refusal ≡ 10
no_allowance q w a none = ten_at_once q w a none

-- The demand as one theorem. Given a sound chain, and readings, a window and a tolerance within their limits, with room for
-- the matching cells and the greatest allowance: a cell is listed exactly if it lies in the window and each of its
-- differences is within the tolerance; each cell is listed once, in chart order; and the count and the visits are right.
pub every_such_cell : (c : Chain) (readings : List ℤ) (w : Window) (tolerance allowance entries : ℕ) →
    let q = question_of c readings tolerance allowance entries in
    let places = (search_of q w).places in
    is_sound c ≡ true → EachSmall readings → is_window w ≡ true → tolerance ≤ 100_000 →
    length (matching_in q.rule w) ≤ entries / 2 → (4 ^ (w.k + 1) - 1) / 3 ≤ allowance →
    ((o : Place) → IsListed o places ↔ (IsCellIn w o × EachWithin tolerance c (wanted_of c readings) o))
    × EachOnce places
    × Rises (chart_number w) places
    × ((figures_in q w).count ≡ length places)
    × ((figures_in q w).visits ≡ visits_in q.rule w)
every_such_cell c readings w tolerance allowance entries sound small window few room enough =
    let q = question_of c readings tolerance allowance entries in
    let all : Enough q w = record {
      accepted = tests_pass c readings w tolerance small sound window few;
      room = room;
      allowance = greatest_allowance q w enough;
    } in
    let list = exactly_the_matching_cells q w all in
    let means = matching_means c readings tolerance in (
      (λ o. (
        (λ m. ((list.no_other o m).0, (means o).0 (list.no_other o m).1)),
        (λ h. list.every o h.0 ((means o).1 h.1)),
      )),
      list.once,
      list.in_order,
      listed_are_counted q w,
      (counts_are_right q w all).1,
    )
