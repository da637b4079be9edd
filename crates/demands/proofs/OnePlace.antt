-- The question of request A2 in 02: is there exactly one place? It answers none, one with its place, or several, with the visits,
-- and stops at the second matching cell. Where the full search with enough room answers within the same allowance, the two agree.
-- Refusal 10 comes if the allowance ends undecided; 8 becomes none, and 9 does not occur.
use Prim.Native.Nat.{ℕ, ◌≤◌, ◌<◌}
use mathlib.Core.Path.{◌≡◌, ap}
use mathlib.Core.Logic.{◌↔◌, ◌⊎◌, inl, inr, ⊎_elim}
use mathlib.Core.Bool.{true}
use mathlib.Core.List.{[], ◌∷◌}
use Rattle.std.specs.Prelude.{Err}
use Rattle.refusals.specs.declared.Refusal.{Refusal}
use Rattle.refusals.specs.Numbers.{refusal_number}
use Rattle.search.specs.declared.Window.{Window}
use Rattle.search.specs.Questions.{Rule, Limits, Question}
use Rattle.search.specs.Answers.{Outcome, Accepted, refusal_for, search_of, search_figures, figures_in}
use Rattle.search.specs.Cells.{matching_in, visits_in}
use Rattle.search.specs.Counts.{how_many_of, deciding_visits, decided_by}
use Rattle.search.proofs.Outcomes.{tested}
use Rattle.chart.proofs.ChainLaws.{factor_allowed}
use Rattle.search.proofs.CountLaws.{counting, decided, deciding_few, early_refused}
use Rattle.records.specs.Refusals.{is_among}
use Rattle.demands.specs.Numbers.{many_refusal, many_visits, NoneOr}
use Rattle.demands.specs.Counting.{Means, IsAnswered, Agrees}
use Rattle.demands.proofs.CountingLaws.{early_number, means, visits_few, numbers, ten_exactly, agreeing}

module _ (rule : Rule) (w : Window) (allowance : ℕ) where
  -- What each answer says of the cells of the window, and how many visits it takes: none and one those of the whole walk, several
  -- those up to and with the second matching cell.
  pub each_answer_means : Means rule w allowance (how_many_of rule w allowance)
  each_answer_means = means rule w allowance (how_many_of rule w allowance) (counting rule w allowance)

  -- If the tests before the walk pass, the answer follows from the matching cells, the visits that decide, and the allowance: none,
  -- one or several according to the cells if the allowance covers these visits, else 10.
  pub without_a_walk : Accepted rule w → how_many_of rule w allowance ≡ decided_by rule w allowance
  without_a_walk a = decided rule w allowance a

  -- So if they pass, it is 10 exactly if the allowance is smaller than the visits that decide; and these are never more than those of
  -- the whole walk.
  pub ten_if_undecided : Accepted rule w → (many_refusal (how_many_of rule w allowance) ≡ 10) ↔ (allowance < deciding_visits rule w (matching_in rule w))
  ten_if_undecided a = ten_exactly rule w allowance a

  pub decided_by_the_whole_walk : Accepted rule w → deciding_visits rule w (matching_in rule w) ≤ visits_in rule w
  decided_by_the_whole_walk a = deciding_few rule w (factor_allowed _ a.chain)

  -- It is refused with 3, 5, 6, 7 or 10 and no other number: 8 and 9 never occur. No answer has more visits than the allowance.
  pub refusals_of_the_question : NoneOr (3 ∷ 5 ∷ 6 ∷ 7 ∷ 10 ∷ []) (many_refusal (how_many_of rule w allowance)) × (many_visits (how_many_of rule w allowance) ≤ allowance)
  refusals_of_the_question = (
    numbers rule w allowance (how_many_of rule w allowance) (counting rule w allowance),
    visits_few rule w allowance (how_many_of rule w allowance) (counting rule w allowance),
  )

-- Either all tests before the walk pass, or every search by the rule in the window, whatever its room and allowance, is refused with
-- the number of one and the same refusal r, 3, 5, 6 or 7, and so is the question, without a visit. When it is which, Demand3.antt says.
pub refused_as_the_search : (rule : Rule) (w : Window) →
    Accepted rule w
    ⊎ ((r : Refusal)
    × (is_among (refusal_number r) (3 ∷ 5 ∷ 6 ∷ 7 ∷ []) ≡ true)
    × ((l : Limits) → (figures_in (record { rule = rule; limits = l }) w).refusal ≡ refusal_number r)
    × ((allowance : ℕ) → how_many_of rule w allowance ≡ Err (record { refusal = r; visits = 0 })))
unfolding search_figures
refused_as_the_search rule w =
    ⊎_elim
    (λ a. inl a)
    (λ f.
    let fails = f.1 in
    inr (
      refusal_for f.0,
      early_number f.0 fails.high,
      (λ l. ap (λ (o : Outcome). (search_figures o.answer).refusal) (fails.same l)),
      (λ n. early_refused rule w n f.0 fails),
    ))
    (tested rule w)

-- If a search with any room answers with places or with 8, the question under the same allowance answers and agrees with it.
pub agrees_with_the_search : (q : Question) (w : Window) → IsAnswered q w → Agrees (how_many_of q.rule w q.limits.allowance) (search_of q w)
agrees_with_the_search q w answered = agreeing q w answered
