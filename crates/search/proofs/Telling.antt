-- What each end of a search lists, and the figures of its answer.
use Prim.Native.Nat.{ℕ, ◌≤◌}
use mathlib.Core.Path.{◌≡◌, refl, subst, subst⁻¹}
use mathlib.Core.Bool.{Bool, true, false}
use mathlib.Core.List.Memᴰ
use mathlib.Core.List.{List, [], ◌∷◌}
use native.Mathlib.Omega.{arith}
use borrow.Author.Tests.{eqb-false}
use lib.Dec.{leb}
use lib.ListN.{length}
use Rattle.std.specs.Prelude.{Option, None, Some}
use Rattle.fields.specs.Choices.{where_so}
use Rattle.chart.specs.Chains.{is_sound}
use Rattle.chart.specs.declared.Place.{Place}
use Rattle.search.specs.declared.Window.{Window}
use Rattle.search.specs.declared.Unfound.{Unfound}
use Rattle.search.specs.declared.Unfound.TheVariants.{ReadingTooLarge, Unsound, BadWindow, BadTolerance}
use Rattle.search.specs.Windows.{is_window, IsCellIn}
use Rattle.search.specs.Questions.{Question, most_tolerance, none_too_large, matches}
use Rattle.search.specs.Walk.{Halt, Full, Spent, Standing, start, visit}
use Rattle.search.specs.Answers.{Outcome, refused, gone, outcome_by, ended, search_of, search_figures}
use Rattle.search.specs.Cells.{chart_number, Rises, matching_in, visits_in, IsListed}
use Rattle.search.proofs.CellLaws.{matching_all}
use Rattle.search.proofs.Order.{matching_rises}
use Rattle.search.proofs.Outcomes.{Ending, early, done, full, out}

-- A complete walk: its places, visits and count; and if it answers 8, it has no places.
pub gone_places : (ps : List Place) (v : ℕ) → (gone ps v).places ≡ ps
gone_places [] v = refl
gone_places (p ∷ ps) v = refl

pub gone_visits : (ps : List Place) (v : ℕ) → (search_figures (gone ps v).answer).visits ≡ v
unfolding search_figures
gone_visits [] v = refl
gone_visits (p ∷ ps) v = refl

pub gone_count : (ps : List Place) (v : ℕ) → (search_figures (gone ps v).answer).count ≡ length ps
unfolding search_figures
gone_count [] v = refl
gone_count (p ∷ ps) v = refl

pub gone_none : (ps : List Place) (v : ℕ) → (search_figures (gone ps v).answer).refusal ≡ 8 → ps ≡ []
unfolding search_figures
gone_none [] v e = refl
gone_none (p ∷ ps) v e = absurd (eqb-false 0 8 refl e)

-- A complete walk answers with 0 or 8.
pub gone_small : (ps : List Place) (v : ℕ) → (search_figures (gone ps v).answer).refusal ≤ 8
unfolding search_figures
gone_small [] v = omega arith
gone_small (p ∷ ps) v = omega arith

-- An outcome whose count is that of its places.
abbrev Counts : Outcome → Type 0
Counts o = (search_figures o.answer).count ≡ length o.places

test_counts : (b : Bool) (a : Unfound) (rest : Unit {0} → Outcome) → Counts (refused a) → Counts (rest tt) → Counts (where_so b (refused a) rest)
test_counts true a rest h k = k
test_counts false a rest h k = h

end_counts : (s : Standing) → Counts (ended s)
unfolding ended search_figures
end_counts s = go s.stop s.places
  where
    go : (stop : Option Halt) (ps : List Place) → Counts (outcome_by stop ps s.visits)
    go (Some Full) ps = refl
    go (Some Spent) ps = refl
    go None [] = refl
    go None (p ∷ ps) = refl

-- Every search has such an outcome.
pub search_counts : (q : Question) (w : Window) → Counts (search_of q w)
unfolding search_of search_figures
search_counts q w =
    test_counts (none_too_large q.rule.wanted) ReadingTooLarge _ refl
    (test_counts (is_sound q.rule.chain) Unsound _ refl
    (test_counts (is_window w) BadWindow _ refl
    (test_counts (leb q.rule.tolerance most_tolerance) BadTolerance _ refl (end_counts (visit q w.k w.corner start)))))

module _ (q : Question) (w : Window) where
  -- Whatever the end, what is listed is among the matching cells.
  pub places_of : (o : Outcome) → Ending q w o → (p : Place) → IsListed p o.places → IsListed p (matching_in q.rule w)
  places_of _ (early a f) p m = absurd (Memᴰ.not-nil m)
  places_of _ (done ok most) p m = subst (IsListed p) (gone_places (matching_in q.rule w) (visits_in q.rule w)) m
  places_of _ (full v most) p m = absurd (Memᴰ.not-nil m)
  places_of _ out p m = absurd (Memᴰ.not-nil m)

  -- And it is in chart order.
  pub rises_of : (o : Outcome) → Ending q w o → Rises (chart_number w) o.places
  unfolding Rises
  rises_of _ (early a f) = tt
  rises_of _ (done ok most) = subst⁻¹ (Rises (chart_number w)) (gone_places (matching_in q.rule w) (visits_in q.rule w)) (matching_rises q.rule w)
  rises_of _ (full v most) = tt
  rises_of _ out = tt

  -- A search ends with 8 only if there is no matching cell.
  pub none_of : (o : Outcome) → Ending q w o → (search_figures o.answer).refusal ≡ 8 → matching_in q.rule w ≡ []
  unfolding search_figures
  none_of _ (early a f) e = absurd (omega (arith, e, f.high))
  none_of _ (done ok most) e = gone_none (matching_in q.rule w) (visits_in q.rule w) e
  none_of _ (full v most) e = absurd (eqb-false 9 8 refl e)
  none_of _ out e = absurd (eqb-false 10 8 refl e)

  -- If there is no matching cell, no cell of the window matches.
  pub unmatched : (o : Place) → IsCellIn w o → matching_in q.rule w ≡ [] → (b : Bool) → matches q.rule o ≡ b → b ≡ false
  unmatched o i e true m = absurd (Memᴰ.not-nil (subst (IsListed o) e (matching_all q.rule w.k w.corner o i m)))
  unmatched o i e false m = refl

  -- No search makes more visits than allowed, and one that ends with 10 makes exactly as many.
  pub spent_of : (o : Outcome) → Ending q w o → ((search_figures o.answer).visits ≤ q.limits.allowance) × ((search_figures o.answer).refusal ≡ 10 → (search_figures o.answer).visits ≡ q.limits.allowance)
  unfolding search_figures
  spent_of _ (early a f) = (omega (arith, f.unvisited), λ e. absurd (omega (arith, e, f.high)))
  spent_of _ (done ok most) = (
    omega (arith, gone_visits (matching_in q.rule w) (visits_in q.rule w)),
    λ e. absurd (omega (arith, e, gone_small (matching_in q.rule w) (visits_in q.rule w))),
  )
  spent_of _ (full v most) = (most, λ e. absurd (eqb-false 9 10 refl e))
  spent_of _ out = (omega arith, λ e. refl)
