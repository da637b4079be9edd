-- A walk that was not stopped has listed every matching cell, whatever the room and the allowance were.
use Prim.Native.Nat.{ℕ, zero, suc, ◌+◌, ◌^◌, ◌≤◌}
use mathlib.Core.Path.{◌≡◌, refl, sym, ap, ◌∙◌}
use mathlib.Core.Bool.{Bool, true, false}
use mathlib.Core.List.{List, ◌++◌}
use native.Mathlib.Nat.{lt_of_not-le}
use native.Mathlib.Decide.{dec_le}
use lib.ListN.{length}
use Rattle.std.specs.Prelude.{Option, None, Some}
use Rattle.chart.specs.declared.Place.{Place}
use Rattle.search.specs.Windows.{east, north, north_east}
use Rattle.search.specs.Questions.{Question, matches, is_kept}
use Rattle.search.specs.Walk.{Halt, Full, Spent, Standing, either, unchanged, visit}
use Rattle.search.specs.Cells.{matching, visits_of}
use Rattle.search.proofs.WalkLaws.{visit_after, visit_out, visit-cell, visit_square, quarters, cell_missed, cell_full, cell-listed}
use Rattle.search.proofs.Dropping.{Allowed}
use Rattle.search.proofs.Whole.{going, after, after_missed, after_listed, after_dropped, after_quarters}

-- A walk that is not stopped after a visit was not stopped before it.
went_on : (q : Question) (k : ℕ) (p : Place) (s : Standing) → (visit q k p s).stop ≡ None → s.stop ≡ None
went_on q k p s e = go s.stop refl
  where
    go : (stop : Option Halt) → s.stop ≡ stop → s.stop ≡ None
    go None z = z
    go (Some why) z = sym (ap (λ (x : Standing). x.stop) (visit_after q k p s z)) ∙ e

abbrev Finished : Question → ℕ → Place → Type 0
Finished q k p = (ps : List Place) (v : ℕ) → (visit q k p (going ps v)).stop ≡ None → visit q k p (going ps v) ≡ after q.rule k p ps v

-- A walk goes on after a visit only if the allowance covered the visit.
covered : (q : Question) (k : ℕ) (p : Place) (ps : List Place) (v : ℕ) → (visit q k p (going ps v)).stop ≡ None → q.limits.allowance ≤ v → ⊥
covered q k p ps v e h =
    let out : Some Spent ≡ None = sym (ap (λ (x : Standing). x.stop) (visit_out q k p (going ps v) refl h)) ∙ e in
    cc

module _ (q : Question) (p : Place) (ps : List Place) (v : ℕ) where
  cell_finished : (b : Bool) → matches q.rule p ≡ b → Dec (q.limits.allowance ≤ v) → Dec (q.limits.room ≤ length ps) → (visit q 0 p (going ps v)).stop ≡ None → visit q 0 p (going ps v) ≡ after q.rule 0 p ps v
  cell_finished b m (yes h) r e = absurd (covered q 0 p ps v e h)
  cell_finished false m (no h) r e =
      visit-cell q p (going ps v) refl (lt_of_not-le h) ∙ cell_missed q p (going ps (v + 1)) m ∙ after_missed q.rule p ps v m
  cell_finished true m (no h) (no r) e =
      visit-cell q p (going ps v) refl (lt_of_not-le h)
      ∙ cell-listed q p (going ps (v + 1)) m (lt_of_not-le r)
      ∙ after_listed q.rule p ps v m
  cell_finished true m (no h) (yes r) e =
      let full : (visit q 0 p (going ps v)).stop ≡ Some Full = ap (λ (x : Standing). x.stop) (visit-cell q p (going ps v) refl (lt_of_not-le h) ∙ cell_full q p (going ps (v + 1)) m r) in
      cc

  quarters_finished : (k : ℕ) → ((o : Place) → Finished q k o) → is_kept q.rule k p ≡ true → (quarters q k p (going ps (v + 1))).stop ≡ None → quarters q k p (going ps (v + 1)) ≡ after q.rule (suc k) p ps v
  quarters_finished k ih t e =
      let se : Place = east (2 ^ k) p in
      let nw : Place = north (2 ^ k) p in
      let ne : Place = north_east (2 ^ k) p in
      let s : Standing = going ps (v + 1) in
      let e3 : (visit q k nw (visit q k se (visit q k p s))).stop ≡ None = went_on q k ne _ e in
      let e2 : (visit q k se (visit q k p s)).stop ≡ None = went_on q k nw _ e3 in
      let e1 : (visit q k p s).stop ≡ None = went_on q k se _ e2 in
      let g1 = ih p ps (v + 1) e1 in
      let g2 = ap (λ (x : Standing). visit q k se x) g1 in
      let f2 = ih se (ps ++ matching q.rule k p) (v + 1 + visits_of q.rule k p) (sym (ap (λ (x : Standing). x.stop) g2) ∙ e2) in
      let g3 = ap (λ (x : Standing). visit q k nw x) (g2 ∙ f2) in
      let f3 = ih nw ((ps ++ matching q.rule k p) ++ matching q.rule k se) (v + 1 + visits_of q.rule k p + visits_of q.rule k se) (sym (ap (λ (x : Standing). x.stop) g3) ∙ e3) in
      let g4 = ap (λ (x : Standing). visit q k ne x) (g3 ∙ f3) in
      g4
      ∙ ih ne (((ps ++ matching q.rule k p) ++ matching q.rule k se) ++ matching q.rule k nw) (v + 1 + visits_of q.rule k p + visits_of q.rule k se + visits_of q.rule k nw) (sym (ap (λ (x : Standing). x.stop) g4) ∙ e)
      ∙ after_quarters q.rule k p ps v t

  square_finished : (k : ℕ) → Allowed q.rule → ((o : Place) → Finished q k o) → (b : Bool) → is_kept q.rule k p ≡ b → Dec (q.limits.allowance ≤ v) → (visit q (suc k) p (going ps v)).stop ≡ None → visit q (suc k) p (going ps v) ≡ after q.rule (suc k) p ps v
  square_finished k allowed ih b t (yes h) e = absurd (covered q (suc k) p ps v e h)
  square_finished k allowed ih false t (no h) e =
      visit_square q k p (going ps v) refl (lt_of_not-le h)
      ∙ ap (λ (b : Bool). either b (quarters q k p) unchanged (going ps (v + 1))) t
      ∙ after_dropped q.rule k p ps v allowed t
  square_finished k allowed ih true t (no h) e =
      let step : visit q (suc k) p (going ps v) ≡ quarters q k p (going ps (v + 1)) =
      visit_square q k p (going ps v) refl (lt_of_not-le h)
      ∙ ap (λ (b : Bool). either b (quarters q k p) unchanged (going ps (v + 1))) t in
      step ∙ quarters_finished k ih t (sym (ap (λ (x : Standing). x.stop) step) ∙ e)

-- The law, for every square.
pub finished : (q : Question) (k : ℕ) (p : Place) → Allowed q.rule → Finished q k p
finished q zero p allowed ps v e = cell_finished q p ps v (matches q.rule p) refl (dec_le q.limits.allowance v) (dec_le q.limits.room (length ps)) e
finished q (suc k) p allowed ps v e = square_finished q p ps v k allowed (λ o. finished q k o allowed) (is_kept q.rule k p) refl (dec_le q.limits.allowance v) e
