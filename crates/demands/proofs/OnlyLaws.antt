-- How two answers that a contract allows are compared, clause by clause.
-- Every clause states a plain fact, so if it holds in one state, it holds in any.
use mathlib.Core.Path.{◌≡◌, refl, sym, ◌∙◌}
use mathlib.Core.Logic.{∥∥₁_map, ∥∥₁_map₂}
use seplogic.Ra.Ura.{Ura}
use seplogic.Bi.Sat
use seplogic.Bi.Sat.{Sat}
use base.Logic.{SProp, sep, emp, fst∗, snd∗, Sat_exists}
use contract.Monad.{fact}

-- If P, said of one answer, holds in some state, and Q, said of another answer, holds in some state, then X follows.
pub record Shows {M : Type 1} (𝓤 : Ura M) (P Q : SProp 𝓤) (X : Type 0) : Type 1 where
  pub shown : Sat 𝓤.op P → Sat 𝓤.op Q → ∥ X ∥₁

module _ {M : Type 1} (𝓤 : Ura M) where
  -- A fact that holds in some state is true.
  plain : (φ : Type 0) → Sat 𝓤.op (fact 𝓤 φ) → ∥ φ ∥₁
  plain φ p = ∥∥₁_map (Sat_exists 𝓤 (λ (_ : φ). emp 𝓤) p) (λ t. t.0)

  -- If two clauses hold together, each of them holds.
  first : (P Q : SProp 𝓤) → Sat 𝓤.op (sep 𝓤 P Q) → Sat 𝓤.op P
  first P Q = Sat.mono 𝓤.op (fst∗ 𝓤 P Q)

  second : (P Q : SProp 𝓤) → Sat 𝓤.op (sep 𝓤 P Q) → Sat 𝓤.op Q
  second P Q = Sat.mono 𝓤.op (snd∗ 𝓤 P Q)

  -- If the clauses show X, and Y follows from X, then they show Y.
  pub only :
      {P Q : SProp 𝓤} {X Y : Type 0} →
      Shows 𝓤 P Q X →
      (X → Y) →
      Sat 𝓤.op P →
      Sat 𝓤.op Q →
      ∥ Y ∥₁
  only h f p q = ∥∥₁_map (h.shown p q) f

module _ {M : Type 1} {𝓤 : Ura M} where
  -- A clause of any kind shows what it says of the one answer and of the other.
  pub told : {φ ψ : Type 0} → Shows 𝓤 (fact 𝓤 φ) (fact 𝓤 ψ) (φ × ψ)
  told {φ} {ψ} = record { shown = λ p q. ∥∥₁_map₂ (plain 𝓤 φ p) (plain 𝓤 ψ q) (λ e f. (e, f)) }

  -- A clause that sets something equal to v shows that it is equal in the two answers.
  pub same : {A : Type 0} {v r s : A} → Shows 𝓤 (fact 𝓤 (r ≡ v)) (fact 𝓤 (s ≡ v)) (r ≡ s)
  same = record { shown = only 𝓤 told (λ e. e.0 ∙ sym e.1) }

  -- Two clauses together show what each of them shows.
  pub ◌beside◌ :
      {P Q P' Q' : SProp 𝓤} {X Y : Type 0} →
      Shows 𝓤 P Q X →
      Shows 𝓤 P' Q' Y →
      Shows 𝓤 (sep 𝓤 P P') (sep 𝓤 Q Q') (X × Y)
  ◌beside◌ {P} {Q} {P'} {Q'} h k = record {
    shown = λ p q. ∥∥₁_map₂
        (h.shown (first 𝓤 P P' p) (first 𝓤 Q Q' q))
        (k.shown (second 𝓤 P P' p) (second 𝓤 Q Q' q))
        (λ e f. (e, f));
  }

-- Pairs whose parts are equal are equal.
pub ◌&◌ : {A B : Type 0} {a c : A} {b d : B} → a ≡ c → b ≡ d → ◌≡◌ {A = A × B} (a, b) (c, d)
◌&◌ p q = λ i. (p i, q i)

infixr 40 ◌&◌
infixr 30 ◌beside◌
module _ {M : Type 1} (𝓤 : Ura M) {P Q : SProp 𝓤} where
  -- The clauses show the result of a function that lends nothing: then they show the whole answer.
  pub one : {A B : Type 0} {r s : A} {b : B} → Shows 𝓤 P Q (r ≡ s) → Sat 𝓤.op P → Sat 𝓤.op Q → ∥ ◌≡◌ {A = A × B} (r, b) (s, b) ∥₁
  one h = only 𝓤 h (λ result. result & refl)

  -- They show the result and the final content of the first parameter, and the others lend nothing.
  pub two :
      {A B C : Type 0} {r s : A} {p q : B} {c : C} →
      Shows 𝓤 P Q ((r ≡ s) × (p ≡ q)) →
      Sat 𝓤.op P →
      Sat 𝓤.op Q →
      ∥ ◌≡◌ {A = A × (B × C)} (r, (p, c)) (s, (q, c)) ∥₁
  two h = only 𝓤 h (λ (result, content). result & content & refl)
