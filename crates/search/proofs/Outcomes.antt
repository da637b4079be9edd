-- How a search ends, in terms of its matching cells and the visits they take.
use Prim.Native.Nat.{ℕ, ◌+◌, ◌≤◌, ◌<◌}
use mathlib.Core.Path.{◌≡◌, refl, ap, ap₂, ◌∙◌, subst⁻¹}
use mathlib.Core.Logic.{◌⊎◌, inl, inr, ⊎_elim}
use mathlib.Core.Bool.{Bool, true, false}
use mathlib.Core.List.{[]}
use native.Mathlib.Omega.{arith}
use native.Mathlib.Nat.{lt_of_not-le}
use native.Mathlib.Decide.{dec_le}
use lib.ListN.{length}
use Rattle.std.specs.Prelude.{Option, None, Some, Err}
use Rattle.chart.specs.Chains.{is_sound}
use Rattle.search.specs.declared.Window.{Window}
use Rattle.search.specs.declared.Unfound.{Unfound}
use Rattle.search.specs.declared.Unfound.TheVariants.{ReadingTooLarge, Unsound, BadWindow, BadTolerance, NoRoom, AllowanceUsed}
use Rattle.search.specs.Windows.{is_window}
use Rattle.search.specs.Questions.{Rule, Limits, Question, most_tolerance, none_too_large}
use Rattle.search.specs.Walk.{Halt, Full, Spent, Standing, start, visit}
use Rattle.search.specs.Answers.{Outcome, refused, gone, ended, Accepted, search_of, search_figures}
use Rattle.search.specs.Cells.{matching_in, visits_in, AmpleRoom, AmpleAllowance}
use Rattle.search.proofs.AnswerLaws.{ended_out, ended_full, ended-gone, search_3, search_5, search_6, search_7, search_walks}
use Rattle.chart.proofs.ChainLaws.{factor_allowed}
use Rattle.search.proofs.Whole.{whole}
use Rattle.search.proofs.Finished.{finished}
use Rattle.search.proofs.Limits.{bounded}
use Rattle.search.proofs.Filling.{too_little_room}

-- The walk of a search.
abbrev pub walk : Question → Window → Standing
walk q w = visit q w.k w.corner start

-- The outcome of a walk that goes to its end.
abbrev pub complete : Question → Window → Outcome
complete q w = gone (matching_in q.rule w) (visits_in q.rule w)

from_nought : (n : ℕ) → 0 + n ≡ n
from_nought n = omega arith

module _ (q : Question) (w : Window) where
  -- A walk that was not stopped has the complete outcome.
  unstopped : Accepted q.rule w → (walk q w).stop ≡ None → ended (walk q w) ≡ complete q w
  unstopped a e =
      let done = finished q w.k w.corner (factor_allowed _ a.chain) [] 0 e in
      ended-gone (walk q w) e
      ∙ ap₂ gone (ap (λ (s : Standing). s.places) done) (ap (λ (s : Standing). s.visits) done ∙ from_nought _)

  module _ (a : Accepted q.rule w) (enough : AmpleAllowance q w) where
    -- With ample allowance and room, the search is complete.
    pub ample_complete : AmpleRoom q w → search_of q w ≡ complete q w
    ample_complete room =
        search_walks q w a
        ∙ unstopped a (ap (λ (s : Standing). s.stop) (whole q w.k w.corner (factor_allowed _ a.chain) [] 0 (omega arith) (omega arith)))

    -- With ample allowance and too little room, it is refused with 9.
    pub short_full : q.limits.room < length (matching_in q.rule w) → search_of q w ≡ refused (NoRoom (walk q w).visits)
    short_full room =
        let full : (walk q w).stop ≡ Some Full = too_little_room q w.k w.corner (factor_allowed _ a.chain) enough room in
        search_walks q w a ∙ ended_full (walk q w) full

-- A test before the walk fails, and with which answer: then every search by the rule in the window is refused with it, whatever
-- its limits.
pub record Fails (rule : Rule) (w : Window) (a : Unfound) : Type 0 where
  pub low : 3 ≤ (search_figures (Err a)).refusal
  pub high : (search_figures (Err a)).refusal < 8
  pub unvisited : (search_figures (Err a)).visits ≡ 0
  pub same : (l : Limits) → search_of (record { rule = rule; limits = l }) w ≡ refused a

module _ (rule : Rule) (w : Window) where
  abbrev with : Limits → Question
  with l = record { rule = rule; limits = l }

  by_tests : (b c d : Bool) → none_too_large rule.wanted ≡ b → is_sound rule.chain ≡ c → is_window w ≡ d → Dec (rule.tolerance ≤ most_tolerance) →
      Accepted rule w ⊎ ((a : Unfound) × Fails rule w a)
  unfolding search_figures
  by_tests false c d e f g t = inr (ReadingTooLarge, record { low = omega arith; high = omega arith; unvisited = refl; same = λ l. search_3 (with l) w e })
  by_tests true false d e f g t = inr (Unsound, record { low = omega arith; high = omega arith; unvisited = refl; same = λ l. search_5 (with l) w e f })
  by_tests true true false e f g t =
      inr (BadWindow, record { low = omega arith; high = omega arith; unvisited = refl; same = λ l. search_6 (with l) w e f g })
  by_tests true true true e f g (no t) =
      inr (BadTolerance, record { low = omega arith; high = omega arith; unvisited = refl; same = λ l. search_7 (with l) w e f g (lt_of_not-le t) })
  by_tests true true true e f g (yes t) = inl (record { readings = e; chain = f; window = g; tolerance = t })

  -- All tests pass, or one of them fails.
  pub tested : Accepted rule w ⊎ ((a : Unfound) × Fails rule w a)
  tested =
      by_tests (none_too_large rule.wanted) (is_sound rule.chain) (is_window w) refl refl refl (dec_le rule.tolerance most_tolerance)

-- How a search ends: at a test before the walk, complete, for lack of room, or with the allowance used up.
pub data Ending (q : Question) (w : Window) : Outcome → Type 0 where
  early : (a : Unfound) → Fails q.rule w a → Ending q w (refused a)
  done : Accepted q.rule w → visits_in q.rule w ≤ q.limits.allowance → Ending q w (complete q w)
  full : (v : ℕ) → v ≤ q.limits.allowance → Ending q w (refused (NoRoom v))
  out : Ending q w (refused (AllowanceUsed q.limits.allowance))

module _ (q : Question) (w : Window) where
  by_stop : Accepted q.rule w → (stop : Option Halt) → (walk q w).stop ≡ stop → Ending q w (search_of q w)
  by_stop a None z =
      let most : visits_in q.rule w ≤ q.limits.allowance =
      omega (arith, (bounded q w.k w.corner).most, ap (λ (s : Standing). s.visits) (finished q w.k w.corner (factor_allowed _ a.chain) [] 0 z)) in
      subst⁻¹ (Ending q w) (search_walks q w a ∙ unstopped q w a z) (done a most)
  by_stop a (Some Full) n =
      subst⁻¹ (Ending q w) (search_walks q w a ∙ ended_full (walk q w) n)
      (full (walk q w).visits (bounded q w.k w.corner).most)
  by_stop a (Some Spent) t =
      subst⁻¹ (Ending q w)
      (search_walks q w a ∙ ended_out (walk q w) t ∙ ap (λ (v : ℕ). refused (AllowanceUsed v)) ((bounded q w.k w.corner).all t))
      out

  -- Every search ends in one of these ways.
  pub ending : Ending q w (search_of q w)
  ending =
      ⊎_elim
      (λ a. by_stop a (walk q w).stop refl)
      (λ f. subst⁻¹ (Ending q w) (f.1.same q.limits) (early f.0 f.1))
      (tested q.rule w)
