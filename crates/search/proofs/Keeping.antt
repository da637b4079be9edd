-- A property of the state that every step of a walk keeps is kept by the whole walk.
use Prim.Native.Nat.{ℕ, zero, suc, ◌≤◌, ◌<◌}
use mathlib.Core.Path.{◌≡◌, refl, subst⁻¹}
use mathlib.Core.Bool.{Bool, true, false}
use native.Mathlib.Nat.{lt_of_not-le}
use native.Mathlib.Decide.{dec_le}
use lib.ListN.{length}
use Rattle.std.specs.Prelude.{Option, None, Some}
use Rattle.chart.specs.declared.Place.{Place}
use Rattle.search.specs.Questions.{Question, matches, is_kept}
use Rattle.search.specs.Walk.{Halt, Full, Spent, Standing, either, unchanged, stopped, counted, listed, cell, visit}
use Rattle.search.proofs.WalkLaws.{visit_after, visit_out, visit-cell, visit_square, quarters, cell_missed, cell_full, cell-listed}

-- The steps that keep it: the allowance found used up, a visit counted, the list found full, and a place listed.
pub record Keeps (q : Question) (P : Standing → Type 0) : Type 0 where
  pub out : (s : Standing) → P s → q.limits.allowance ≤ s.visits → P (stopped Spent s)
  pub count : (s : Standing) → P s → s.stop ≡ None → s.visits < q.limits.allowance → P (counted s)
  pub full : (s : Standing) → P s → q.limits.room ≤ length s.places → P (stopped Full s)
  pub list : (p : Place) (s : Standing) → P s → length s.places < q.limits.room → P (listed p s)

module _ (q : Question) (P : Standing → Type 0) (keeps : Keeps q P) where
  cell_keeps : (p : Place) (s : Standing) (b : Bool) → matches q.rule p ≡ b → Dec (q.limits.room ≤ length s.places) → P s → P (cell q p s)
  cell_keeps p s false m r h = subst⁻¹ P (cell_missed q p s m) h
  cell_keeps p s true m (yes r) h = subst⁻¹ P (cell_full q p s m r) (keeps.full s h r)
  cell_keeps p s true m (no r) h = subst⁻¹ P (cell-listed q p s m (lt_of_not-le r)) (keeps.list p s h (lt_of_not-le r))

  -- If the walk was stopped or the allowance is used up, P is kept; otherwise the visit begins, which `begun` covers.
  by_start : (k : ℕ) (p : Place) (s : Standing) → P s → (s.stop ≡ None → s.visits < q.limits.allowance → P (visit q k p s)) → P (visit q k p s)
  by_start k p s h begun = go s.stop refl (dec_le q.limits.allowance s.visits)
    where
      go : (stop : Option Halt) → s.stop ≡ stop → Dec (q.limits.allowance ≤ s.visits) → P (visit q k p s)
      go (Some why) e d = subst⁻¹ P (visit_after q k p s e) h
      go None e (yes o) = subst⁻¹ P (visit_out q k p s e o) (keeps.out s h o)
      go None e (no f) = begun e (lt_of_not-le f)

  either_keeps : (b : Bool) (k : ℕ) (p : Place) (s : Standing) → ((o : Place) (s : Standing) → P s → P (visit q k o s)) → P s → P (either b (quarters q k p) unchanged s)
  either_keeps true k p s ih h = ih _ _ (ih _ _ (ih _ _ (ih p s h)))
  either_keeps false k p s ih h = h

  -- The law: a visit keeps P.
  pub visit_keeps : (k : ℕ) (p : Place) (s : Standing) → P s → P (visit q k p s)
  visit_keeps zero p s h =
      by_start 0 p s h
      (λ z l.
      subst⁻¹ P (visit-cell q p s z l)
      (cell_keeps p (counted s) (matches q.rule p) refl (dec_le q.limits.room (length s.places)) (keeps.count s h z l)))
  visit_keeps (suc k) p s h =
      let ih : (o : Place) (s : Standing) → P s → P (visit q k o s) = λ o s h. visit_keeps k o s h in
      by_start (suc k) p s h
      (λ z l.
      subst⁻¹ P (visit_square q k p s z l) (either_keeps (is_kept q.rule k p) k p (counted s) ih (keeps.count s h z l)))
