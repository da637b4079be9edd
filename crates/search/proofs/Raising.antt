-- A walk that the allowance does not stop is the same under every larger allowance.
use Prim.Native.Nat.{ℕ, zero, suc, ◌^◌, ◌≤◌, ◌<◌}
use mathlib.Core.Path.{◌≡◌, refl, sym, ap, ◌∙◌}
use mathlib.Core.Bool.{Bool, true, false}
use native.Mathlib.Omega.{arith}
use native.Mathlib.Nat.{le_trans, lt_of_not-le}
use native.Mathlib.Decide.{dec_le}
use Rattle.std.specs.Prelude.{Option, None, Some}
use Rattle.chart.specs.declared.Place.{Place}
use Rattle.search.specs.Windows.{east, north, north_east}
use Rattle.search.specs.Questions.{Question, is_kept}
use Rattle.search.specs.Walk.{Halt, Full, Spent, Standing, start, either, unchanged, counted, cell, visit}
use Rattle.search.proofs.WalkLaws.{visit_after, visit_out, visit-cell, visit_square, quarters}
use Rattle.search.proofs.Limits.{bounded}

-- The same question with another allowance.
abbrev pub raised : Question → ℕ → Question
raised q allowance = record { rule = q.rule; limits = record { allowance = allowance; room = q.limits.room } }

-- If the allowance has not stopped a walk after a visit, it had not before.
not_yet : (q : Question) (k : ℕ) (p : Place) (s : Standing) → ((visit q k p s).stop ≡ Some Spent → ⊥) → s.stop ≡ Some Spent → ⊥
not_yet q k p s f e =
    f (ap (λ (x : Standing). x.stop) (visit_after q k p s e) ∙ e)

module _ (q : Question) (m : ℕ) (more : q.limits.allowance ≤ m) where
  abbrev Same : ℕ → Place → Type 0
  Same k p = (s : Standing) → ((visit q k p s).stop ≡ Some Spent → ⊥) → visit (raised q m) k p s ≡ visit q k p s

  quarters_same : (k : ℕ) (p : Place) → ((o : Place) → Same k o) → (s : Standing) → ((quarters q k p s).stop ≡ Some Spent → ⊥) →
      quarters (raised q m) k p s ≡ quarters q k p s
  quarters_same k p ih s f =
      let se : Place = east (2 ^ k) p in
      let nw : Place = north (2 ^ k) p in
      let ne : Place = north_east (2 ^ k) p in
      let f3 = not_yet q k ne _ f in
      let f2 = not_yet q k nw _ f3 in
      let f1 = not_yet q k se _ f2 in
      ap (λ (x : Standing). visit (raised q m) k ne (visit (raised q m) k nw (visit (raised q m) k se x))) (ih p s f1)
      ∙ ap (λ (x : Standing). visit (raised q m) k ne (visit (raised q m) k nw x)) (ih se _ f2)
      ∙ ap (λ (x : Standing). visit (raised q m) k ne x) (ih nw _ f3)
      ∙ ih ne _ f

  either_same : (b : Bool) (k : ℕ) (p : Place) → ((o : Place) → Same k o) → (s : Standing) → ((either b (quarters q k p) unchanged s).stop ≡ Some Spent → ⊥) →
      either b (quarters (raised q m) k p) unchanged s ≡ either b (quarters q k p) unchanged s
  either_same true k p ih s f = quarters_same k p ih s f
  either_same false k p ih s f = refl

  -- What happens at a visit that begins is covered by `begun`.
  by_start : (k : ℕ) (p : Place) (s : Standing) → ((visit q k p s).stop ≡ Some Spent → ⊥) →
      (s.stop ≡ None → s.visits < q.limits.allowance → visit (raised q m) k p s ≡ visit q k p s) → visit (raised q m) k p s ≡ visit q k p s
  by_start k p s f begun = go s.stop refl (dec_le q.limits.allowance s.visits)
    where
      go : (stop : Option Halt) → s.stop ≡ stop → Dec (q.limits.allowance ≤ s.visits) → visit (raised q m) k p s ≡ visit q k p s
      go (Some why) e d = visit_after (raised q m) k p s e ∙ sym (visit_after q k p s e)
      go None e (yes o) = absurd (f (ap (λ (x : Standing). x.stop) (visit_out q k p s e o)))
      go None e (no l) = begun e (lt_of_not-le l)

  -- The law.
  pub same_raised : (k : ℕ) (p : Place) → Same k p
  unfolding cell
  same_raised zero p s f =
      by_start 0 p s f (λ z l. visit-cell (raised q m) p s z (le_trans l more) ∙ sym (visit-cell q p s z l))
  same_raised (suc k) p s f =
      by_start (suc k) p s f
      (λ z l.
      let step = visit_square q k p s z l in
      visit_square (raised q m) k p s z (le_trans l more)
      ∙ either_same (is_kept q.rule k p) k p (λ o. same_raised k o) (counted s) (λ e. f (ap (λ (x : Standing). x.stop) step ∙ e))
      ∙ sym step)

-- So if a walk makes more visits under a larger allowance than it may make, its own allowance stops it.
pub ten_by_more : (q : Question) (k : ℕ) (p : Place) (m : ℕ) → q.limits.allowance ≤ m → q.limits.allowance < (visit (raised q m) k p start).visits → (visit q k p start).stop ≡ Some Spent
ten_by_more q k p m more short = go (visit q k p start).stop refl
  where
    more_visits : ((visit q k p start).stop ≡ Some Spent → ⊥) → (visit q k p start).stop ≡ Some Spent
    more_visits f =
        absurd (omega (arith, short, (bounded q k p).most, ap (λ (s : Standing). s.visits) (same_raised q m more k p start f)))

    go : (stop : Option Halt) → (visit q k p start).stop ≡ stop → (visit q k p start).stop ≡ Some Spent
    go (Some Spent) e = e
    go (Some Full) e = more_visits (λ t. cc)
    go None e = more_visits (λ t. cc)
