-- Which test before the walk refuses a search, and that a search with a matching cell answers with places.
use Prim.Native.Nat.{ℕ}
use mathlib.Core.Path.{◌≡◌, refl, sym, ap, ◌∙◌, subst}
use mathlib.Core.Logic.{◌↔◌}
use mathlib.Core.Bool.{Bool, true, false, true≢false, false≢true}
use mathlib.Core.List.Memᴰ
use mathlib.Core.List.{List, [], ◌∷◌}
use borrow.Author.Tests.{eqb-false}
use lib.Dec.{leb}
use lib.ListN.{length}
use Rattle.std.specs.Prelude.{Ok}
use Rattle.fields.specs.Choices.{where_so}
use Rattle.chart.specs.declared.Place.{Place}
use Rattle.chart.specs.Chains.{is_sound}
use Rattle.search.specs.declared.Window.{Window}
use Rattle.search.specs.declared.Unfound.TheVariants.{ReadingTooLarge, Unsound, BadWindow, BadTolerance}
use Rattle.search.specs.Windows.{is_window, IsCellIn}
use Rattle.search.specs.Questions.{Question, most_tolerance, none_too_large, matches}
use Rattle.search.specs.Answers.{Outcome, refused, gone, ended, search_of, search_figures, figures_in}
use Rattle.search.specs.Cells.{matching_in, visits_in, IsListed}
use Rattle.search.proofs.CellLaws.{matching_all}
use Rattle.search.proofs.Outcomes.{walk, ample_complete}
use Rattle.records.specs.Refusals.{is_among}
use Rattle.demands.specs.Finding.{Enough}
use Rattle.demands.proofs.NumberLaws.{at_end_lem}

-- The refusal number of a search, from the results of the four tests. If all four pass, it is none of their numbers.
abbrev NumberBy : Bool → Bool → Bool → Bool → ℕ → Type 0
NumberBy false b c d n = n ≡ 3
NumberBy true false c d n = n ≡ 5
NumberBy true true false d n = n ≡ 6
NumberBy true true true false n = n ≡ 7
NumberBy true true true true n = is_among n (3 ∷ 5 ∷ 6 ∷ 7 ∷ []) ≡ false

number_by : (q : Question) (w : Window) →
    NumberBy (none_too_large q.rule.wanted) (is_sound q.rule.chain) (is_window w) (leb q.rule.tolerance most_tolerance) (figures_in q w).refusal
unfolding search_of search_figures is_among
number_by q w = go (none_too_large q.rule.wanted) (is_sound q.rule.chain) (is_window w) (leb q.rule.tolerance most_tolerance)
  where
    last : (ps : List Place) (v : ℕ) → is_among (search_figures (gone ps v).answer).refusal (3 ∷ 5 ∷ 6 ∷ 7 ∷ []) ≡ false
    last [] v = refl
    last (p ∷ ps) v = refl

    go : (a b c d : Bool) →
        let o = where_so a (refused ReadingTooLarge) (λ _. where_so b (refused Unsound) (λ _. where_so c (refused BadWindow) (λ _. where_so d (refused BadTolerance) (λ _. ended (walk q w))))) in
        NumberBy a b c d (search_figures o.answer).refusal
    go false b c d = refl
    go true false c d = refl
    go true true false d = refl
    go true true true false = refl
    go true true true true =
        at_end_lem (λ (o : Outcome). is_among (search_figures o.answer).refusal (3 ∷ 5 ∷ 6 ∷ 7 ∷ []) ≡ false) (walk q w)
        refl refl (last (walk q w).places (walk q w).visits)

-- Two statements that both hold are equivalent, and so are two that both fail.
hold : {P Q : Type 0} → P → Q → P ↔ Q
hold p q = ((λ _. q), (λ _. p))

pub neither : {P Q : Type 0} → (P → ⊥) → (Q → ⊥) → P ↔ Q
neither f g = ((λ p. absurd (f p)), (λ q. absurd (g q)))

-- Each number comes exactly if its test fails and the tests before it pass.
abbrev pub InOrder : Bool → Bool → Bool → Bool → ℕ → Type 0
InOrder a b c d n =
    ((n ≡ 3) ↔ (a ≡ false))
    × ((n ≡ 5) ↔ ((a ≡ true) × (b ≡ false)))
    × ((n ≡ 6) ↔ ((a ≡ true) × (b ≡ true) × (c ≡ false)))
    × ((n ≡ 7) ↔ ((a ≡ true) × (b ≡ true) × (c ≡ true) × (d ≡ false)))

first_failure : (a b c d : Bool) (n : ℕ) → NumberBy a b c d n → InOrder a b c d n
unfolding is_among
first_failure false b c d n h = (
  hold h refl,
  neither (λ e. eqb-false 3 5 refl (sym h ∙ e)) (λ t. false≢true t.0),
  neither (λ e. eqb-false 3 6 refl (sym h ∙ e)) (λ t. false≢true t.0),
  neither (λ e. eqb-false 3 7 refl (sym h ∙ e)) (λ t. false≢true t.0),
)
first_failure true false c d n h = (
  neither (λ e. eqb-false 5 3 refl (sym h ∙ e)) true≢false,
  hold h (refl, refl),
  neither (λ e. eqb-false 5 6 refl (sym h ∙ e)) (λ t. false≢true t.1),
  neither (λ e. eqb-false 5 7 refl (sym h ∙ e)) (λ t. false≢true t.1),
)
first_failure true true false d n h = (
  neither (λ e. eqb-false 6 3 refl (sym h ∙ e)) true≢false,
  neither (λ e. eqb-false 6 5 refl (sym h ∙ e)) (λ t. true≢false t.1),
  hold h (refl, refl, refl),
  neither (λ e. eqb-false 6 7 refl (sym h ∙ e)) (λ t. false≢true t.2),
)
first_failure true true true false n h = (
  neither (λ e. eqb-false 7 3 refl (sym h ∙ e)) true≢false,
  neither (λ e. eqb-false 7 5 refl (sym h ∙ e)) (λ t. true≢false t.1),
  neither (λ e. eqb-false 7 6 refl (sym h ∙ e)) (λ t. true≢false t.2),
  hold h (refl, refl, refl, refl),
)
first_failure true true true true n h =
    let none : (m : ℕ) → is_among m (3 ∷ 5 ∷ 6 ∷ 7 ∷ []) ≡ true → n ≡ m → ⊥ =
    λ m is e. true≢false (sym is ∙ subst (λ (x : ℕ). is_among x (3 ∷ 5 ∷ 6 ∷ 7 ∷ []) ≡ false) e h) in (
      neither (none 3 refl) true≢false,
      neither (none 5 refl) (λ t. true≢false t.1),
      neither (none 6 refl) (λ t. true≢false t.2),
      neither (none 7 refl) (λ t. true≢false t.3),
    )

module _ (q : Question) (w : Window) where
  -- The same for a search.
  pub tests_in_order : InOrder (none_too_large q.rule.wanted) (is_sound q.rule.chain) (is_window w) (leb q.rule.tolerance most_tolerance) (figures_in q w).refusal
  tests_in_order =
      first_failure (none_too_large q.rule.wanted) (is_sound q.rule.chain) (is_window w) (leb q.rule.tolerance most_tolerance)
      (figures_in q w).refusal (number_by q w)

  -- A walk that found a cell ended with places.
  some_gone : (ps : List Place) (v : ℕ) (o : Place) → IsListed o ps → (gone ps v).answer ≡ Ok (record { count = length ps; visits = v })
  some_gone [] v o m = absurd (Memᴰ.not-nil m)
  some_gone (p ∷ ps) v o m = refl

  pub found_answered : Enough q w → (o : Place) → IsCellIn w o → matches q.rule o ≡ true →
      (search_of q w).answer ≡ Ok (record { count = length (matching_in q.rule w); visits = visits_in q.rule w })
  found_answered e o inside m =
      ap (λ (x : Outcome). x.answer) (ample_complete q w e.accepted e.allowance e.room)
      ∙ some_gone (matching_in q.rule w) (visits_in q.rule w) o (matching_all q.rule w.k w.corner o inside m)
