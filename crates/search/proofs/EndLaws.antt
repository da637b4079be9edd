-- The end of a walk: the answer made from what is found, and the cleared list, are those of the definitions.
use Prim.Native.Nat.{ℕ, ◌-◌, ◌*◌}
use mathlib.Core.Path.{◌≡◌, refl, sym, ap, ap₂, ◌∙◌, subst⁻¹}
use mathlib.Core.List.{List, [], ◌∷◌, ◌++◌}
use native.Mathlib.Omega.{arith}
use native.Mathlib.Nat.{sub-zero}
use lib.ListN.{length, take, replicate}
use Rattle.std.specs.Prelude.{Ok, Err}
use Rattle.chart.specs.declared.Place.{Place}
use Rattle.search.specs.declared.Unfound.{Unfound}
use Rattle.search.specs.declared.Unfound.TheVariants.{NoMatch}
use Rattle.search.specs.declared.Found.{Found}
use Rattle.search.specs.Walk.{Standing, start}
use Rattle.search.specs.Answers.{Answer, Outcome, refused, gone, ended, entries_of, list_of}
use Rattle.search.specs.Holding.{Holds, Halted}
use Rattle.search.proofs.AnswerLaws.{ended-gone}

-- An answer and a list of n entries are those of an outcome.
abbrev pub IsTold : ℕ → Outcome → Answer → List ℕ → Type 0
IsTold n o a l = (a ≡ o.answer) × (l ≡ list_of n o.places)

-- If the outcome is a refusal, this refusal and a cleared list are right.
pub refusal_told : (n : ℕ) (o : Outcome) (a : Unfound) (l l' : List ℕ) → length l ≡ n → o ≡ refused a → l' ≡ replicate (length l) 0 → IsTold n o (Err a) l'
unfolding list_of entries_of
refusal_told n o a l l' same e empty =
    subst⁻¹ (λ (x : Outcome). IsTold n x (Err a) l') e
    (refl, empty ∙ ap (λ (m : ℕ). replicate m 0) (same ∙ sym (sub-zero n)))

no_place : (ps : List Place) → length ps ≡ 0 → ps ≡ []
no_place [] e = refl
no_place (p ∷ ps) e = absurd (omega arith)

gone_some : (ps : List Place) (v : ℕ) → (length ps ≡ 0 → ⊥) → gone ps v ≡ record { answer = Ok (record { count = length ps; visits = v }); places = ps }
gone_some [] v f = absurd (f refl)
gone_some (p ∷ ps) v f = refl

-- Before the first visit, nothing found and any list represent the walk.
pub start_holds : (l : List ℕ) → Holds start (record { count = 0; visits = 0 }) l
unfolding entries_of
start_holds l = record { goes_on = refl; visits = refl; count = refl; entries = refl }

-- The end of a walk that was stopped, answered with the list cleared.
pub halted_told : (n : ℕ) (s : Standing) (why : Unfound) (l l' : List ℕ) → Halted s why → length l ≡ n → l' ≡ replicate (length l) 0 → IsTold n (ended s) (Err why) l'
unfolding ended
halted_told n s why l l' h same empty = refusal_told n (ended s) why l l' same (rw (h.stop, h.refusal)) empty

-- The end of one that went on, answered with the list cleared: with no place, or with places.
module _ (n : ℕ) (s : Standing) (t : Found) (l l' : List ℕ) (h : Holds s t l) (same : length l ≡ n)
    (cleared : l' ≡ take (2 * t.count) l ++ replicate (length l - 2 * t.count) 0) where
  pub none_told : t.count ≡ 0 → IsTold n (ended s) (Err (NoMatch t.visits)) l'
  none_told e =
      refusal_told n (ended s) _ l l' same
      (ended-gone s h.goes_on ∙ ap₂ gone (no_place s.places (sym h.count ∙ e)) (sym h.visits))
      (cleared ∙ ap (λ (m : ℕ). take (2 * m) l ++ replicate (length l - 2 * m) 0) e ∙ ap (λ (m : ℕ). replicate m 0) (sub-zero (length l)))

  pub some_told : (t.count ≡ 0 → ⊥) → IsTold n (ended s) (Ok (record { count = t.count; visits = t.visits })) l'
  unfolding list_of
  some_told e =
      subst⁻¹ (λ (x : Outcome). IsTold n x (Ok (record { count = t.count; visits = t.visits })) l')
      (ended-gone s h.goes_on ∙ gone_some s.places s.visits (λ x. e (h.count ∙ x))) (
        ap₂ (λ (a b : ℕ). Ok (record { count = a; visits = b })) h.count h.visits,
        cleared ∙ ap₂ (λ (x : List ℕ) (m : ℕ). x ++ replicate m 0) h.entries (ap₂ (λ (a b : ℕ). a - 2 * b) same h.count),
      )
