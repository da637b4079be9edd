-- What the answers to the question how many places there are mean, from how it ends; and that they agree with the full search.
use Prim.Native.Nat.{ℕ, ◌≤◌, ◌<◌}
use mathlib.Core.Path.{◌≡◌, refl, sym, ap, ap₂, ◌∙◌, subst, subst⁻¹}
use mathlib.Core.Logic.{◌↔◌, ◌⊎◌, inl, inr, ⊎_elim}
use mathlib.Core.Bool.{Bool, true, false, cond, false≢true}
use mathlib.Core.List.Memᴰ
use mathlib.Core.List.{List, [], ◌∷◌, head-eq_of_cons-eq}
use native.Mathlib.Omega.{arith}
use native.Mathlib.Nat.{le_trans}
use borrow.Author.Tests.{eqb-false, leb-true, leb-false, le-leb}
use lib.Dec.{leb}
use lib.ListN.{length}
use Rattle.std.specs.Prelude.{Result, Ok, Err}
use Rattle.refusals.specs.Numbers.{refusal_number}
use Rattle.refusals.specs.declared.Refusal.TheVariants as refusal
use Rattle.chart.specs.declared.Place.{Place}
use Rattle.search.specs.declared.Window.{Window}
use Rattle.search.specs.declared.Unfound.{Unfound}
use Rattle.search.specs.declared.Unfound.TheVariants.{ReadingTooLarge, Unsound, BadWindow, BadTolerance, NoMatch, NoRoom, AllowanceUsed}
use Rattle.search.specs.declared.HowMany.{HowMany}
use Rattle.search.specs.declared.HowMany.TheVariants.{None, One, Several}
use Rattle.search.specs.declared.Stopped.{Stopped}
use Rattle.search.specs.Questions.{Rule, Question, matches}
use Rattle.search.specs.Answers.{Answer, Outcome, gone, Accepted, refusal_for, search_of, search_figures}
use Rattle.search.specs.Cells.{chart_number, Rises, matching_in, visits_in, IsMatch, IsListed}
use Rattle.search.specs.Counts.{for_one, how_many_of, stopped_with, count_of, deciding_visits}
use Rattle.search.proofs.CellLaws.{matching_all, matching_only}
use Rattle.search.proofs.Order.{matching_rises}
use Rattle.search.proofs.Outcomes.{Ending}
use Rattle.search.proofs.Outcomes as end
use Rattle.search.proofs.Telling.{unmatched}
use Rattle.chart.proofs.ChainLaws.{factor_allowed}
use Rattle.search.proofs.CountLaws.{Counting, early, none, one, several, out, decided, deciding_few}
use Rattle.records.specs.Refusals.{is_among}
use Rattle.demands.specs.Numbers.{NoneOr, many_refusal, many_visits}
use Rattle.demands.specs.Counting.{AreFirstTwo, Means, IsAnswered, Agrees}
use Rattle.demands.proofs.NumberLaws.{wider}
use Rattle.demands.proofs.StoppingLaws.{above}
use Rattle.demands.proofs.TestLaws.{neither}

-- A search that fails before its walk has one of these numbers.
pub early_number : (a : Unfound) → (search_figures (Err a)).refusal < 8 → is_among (refusal_number (refusal_for a)) (3 ∷ 5 ∷ 6 ∷ 7 ∷ []) ≡ true
unfolding search_figures is_among
early_number ReadingTooLarge h = refl
early_number Unsound h = refl
early_number BadWindow h = refl
early_number BadTolerance h = refl
early_number (NoMatch visits) h = absurd (omega (arith, h))
early_number (NoRoom visits) h = absurd (omega (arith, h))
early_number (AllowanceUsed visits) h = absurd (omega (arith, h))

module _ (rule : Rule) (w : Window) where
  -- A cell that matches is one of the matching cells, and the other way round.
  listed : (l : List Place) → matching_in rule w ≡ l → (o : Place) → IsMatch rule w o → IsListed o l
  listed l e o m = subst (IsListed o) e (matching_all rule w.k w.corner o m.0 m.1)

  match : (l : List Place) → matching_in rule w ≡ l → (o : Place) → IsListed o l → IsMatch rule w o
  match l e o m = matching_only rule w.k w.corner o (subst⁻¹ (IsListed o) e m)

  first_two : (p o : Place) (ps : List Place) → matching_in rule w ≡ p ∷ o ∷ ps → AreFirstTwo rule w p o
  unfolding Rises
  first_two p o ps e =
      let rises = subst (Rises (chart_number w)) e (matching_rises rule w) in
      record {
        first = match _ e p (Memᴰ.head refl);
        second = match _ e o (Memᴰ.tail (Memᴰ.head refl));
        order = rises.0;
        no_other = λ x m less. go x less rises.1 (Memᴰ.cases_cons (listed _ e x m));
      }
    where
      later : (x : Place) → chart_number w x < chart_number w o → Rises (chart_number w) (o ∷ ps) → (x ≡ o) ⊎ IsListed x ps → x ≡ p
      later x less rises (inl same) = absurd (omega (arith, less, ap (chart_number w) same))
      later x less rises (inr m) = absurd (omega (arith, less, above (chart_number w) o ps rises x m))

      go : (x : Place) → chart_number w x < chart_number w o → Rises (chart_number w) (o ∷ ps) → (x ≡ p) ⊎ IsListed x (o ∷ ps) → x ≡ p
      go x less rises (inl same) = same
      go x less rises (inr m) = later x less rises (Memᴰ.cases_cons m)

  alone : (p : Place) → matching_in rule w ≡ p ∷ [] → (o : Place) → IsMatch rule w o → o ≡ p
  alone p e o m =
      ⊎_elim (λ same. same) (λ m. absurd (Memᴰ.not-nil m)) (Memᴰ.cases_cons (listed _ e o m))

  -- What each answer means.
  pub means : (n : ℕ) (m : Result HowMany Stopped) → Counting rule w n m → Means rule w n m
  unfolding Means is_among search_figures
  means n _ (early a f) = (
    wider (refusal_number (refusal_for a)) (3 ∷ 5 ∷ 6 ∷ 7 ∷ []) (3 ∷ 5 ∷ 6 ∷ 7 ∷ 10 ∷ []) refl (early_number a f.high),
    (λ x. refl),
    (λ ten. absurd (omega (arith, ten, f.high))),
  )
  means n _ (none a e h) = ((λ o i. unmatched (for_one rule n) w o i e (matches rule o) refl), refl)
  means n _ (one p a e h) = (match _ e p (Memᴰ.head refl), alone p e, refl)
  means n _ (several p o ps a e h) = (p, o, first_two p o ps e, refl)
  means n _ (out a less) = (refl, (λ f. absurd (f refl)), (λ ten. (a, less, refl)))

  -- No answer has more visits than are allowed.
  pub visits_few : (n : ℕ) (m : Result HowMany Stopped) → Counting rule w n m → many_visits m ≤ n
  unfolding many_visits
  visits_few n _ (early a f) = omega arith
  visits_few n _ (none a e h) = h
  visits_few n _ (one p a e h) = h
  visits_few n _ (several p o ps a e h) = h
  visits_few n _ (out a less) = omega arith

  -- Which refusals there are.
  pub numbers : (n : ℕ) (m : Result HowMany Stopped) → Counting rule w n m → NoneOr (3 ∷ 5 ∷ 6 ∷ 7 ∷ 10 ∷ []) (many_refusal m)
  unfolding many_refusal is_among
  numbers n _ (early a f) =
      wider (refusal_number (refusal_for a)) (3 ∷ 5 ∷ 6 ∷ 7 ∷ []) (0 ∷ 3 ∷ 5 ∷ 6 ∷ 7 ∷ 10 ∷ []) refl (early_number a f.high)
  numbers n _ (none a e h) = refl
  numbers n _ (one p a e h) = refl
  numbers n _ (several p o ps a e h) = refl
  numbers n _ (out a less) = refl

  -- If the tests pass, it is 10 exactly if the allowance is smaller than the visits that decide.
  pub ten_exactly : (n : ℕ) → Accepted rule w → (many_refusal (how_many_of rule w n) ≡ 10) ↔ (n < deciding_visits rule w (matching_in rule w))
  unfolding many_refusal
  ten_exactly n a = go (leb d n) refl
    where
      d : ℕ
      d = deciding_visits rule w (matching_in rule w)

      by : Bool → Result HowMany Stopped
      by b = cond b (Ok (count_of (matching_in rule w) d)) (stopped_with refusal.Allowance n)

      go : (b : Bool) → leb d n ≡ b → (many_refusal (how_many_of rule w n) ≡ 10) ↔ (n < d)
      go true e =
          let zero = ap many_refusal (decided rule w n a ∙ ap by e) in
          ((λ ten. absurd (omega (arith, ten, zero))), (λ less. absurd (omega (arith, less, leb-true d n e))))
      go false e = ((λ x. leb-false d n e), (λ less. ap many_refusal (decided rule w n a ∙ ap by e)))

-- The kind and the place of an answer, by which two answers differ.
word : Result HowMany Stopped → ℕ
word (Ok (None visits)) = 1
word (Ok (One p visits)) = 2
word (Ok (Several visits)) = 3
word (Err s) = 0

place_or : Place → Result HowMany Stopped → Place
place_or other (Ok (None visits)) = other
place_or other (Ok (One p visits)) = p
place_or other (Ok (Several visits)) = other
place_or other (Err s) = other

-- For the same matching cells the two answers agree, if none and one take the same visits.
same_cells : (ms : List Place) (d v : ℕ) → (length ms ≤ 1 → d ≡ v) → Agrees (Ok (count_of ms d)) (gone ms v)
unfolding word place_or many_visits search_figures
same_cells [] d v same =
    let s = same (omega arith) in (
      (λ u. ((λ e. ap (λ (n : ℕ). Err (NoMatch n)) (sym s ∙ ap many_visits e)), (λ e. ap (λ (n : ℕ). Ok (None n)) (s ∙ ap (λ (a : Answer). (search_figures a).visits) e)))),
      (λ p u. neither (λ e. eqb-false 1 2 refl (ap word e)) (λ e. eqb-false 0 1 refl (ap (λ (o : Outcome). length o.places) e))),
      neither (λ e. eqb-false 1 3 refl (ap word e.1)) (λ h. omega (arith, h)),
    )
same_cells (q ∷ []) d v same =
    let s = same (omega arith) in (
      (λ u. neither (λ e. eqb-false 2 1 refl (ap word e)) (λ e. eqb-false 0 8 refl (ap (λ (a : Answer). (search_figures a).refusal) e))),
      (λ p u. (
        (λ e. ap₂ (λ (x : Place) (y : ℕ). record { answer = Ok (record { count = 1; visits = y }); places = x ∷ [] }) (ap (place_or q) e) (sym s ∙ ap many_visits e)),
        (λ e.
            ap₂ (λ (x : Place) (y : ℕ). Ok (One x y)) (head-eq_of_cons-eq (ap (λ (o : Outcome). o.places) e)) (s ∙ ap (λ (o : Outcome). (search_figures o.answer).visits) e)),
      )),
      neither (λ e. eqb-false 2 3 refl (ap word e.1)) (λ h. omega (arith, h)),
    )
same_cells (q ∷ o ∷ ps) d v same = (
  (λ u. neither (λ e. eqb-false 3 1 refl (ap word e)) (λ e. eqb-false 0 8 refl (ap (λ (a : Answer). (search_figures a).refusal) e))),
  (λ p u. neither (λ e. eqb-false 3 2 refl (ap word e)) (λ e. omega (arith, ap (λ (o : Outcome). length o.places) e))),
  ((λ e. omega arith), (λ h. (d, refl))),
)

-- A search that fails before its walk does not answer.
not_answered : (a : Unfound) → (search_figures (Err a)).refusal < 8 → NoneOr (8 ∷ []) (search_figures (Err a)).refusal → ⊥
unfolding search_figures is_among
not_answered ReadingTooLarge h e = false≢true e
not_answered Unsound h e = false≢true e
not_answered BadWindow h e = false≢true e
not_answered BadTolerance h e = false≢true e
not_answered (NoMatch visits) h e = omega (arith, h)
not_answered (NoRoom visits) h e = omega (arith, h)
not_answered (AllowanceUsed visits) h e = omega (arith, h)

module _ (q : Question) (w : Window) where
  abbrev many : Result HowMany Stopped
  many = how_many_of q.rule w q.limits.allowance

  -- With at most one matching cell all visits are needed.
  all_needed : (ms : List Place) → length ms ≤ 1 → deciding_visits q.rule w ms ≡ visits_in q.rule w
  all_needed [] h = refl
  all_needed (p ∷ []) h = refl
  all_needed (p ∷ o ∷ ps) h = absurd (omega (arith, h))

  by_end : (o : Outcome) → Ending q w o → NoneOr (8 ∷ []) (search_figures o.answer).refusal → Agrees many o
  unfolding search_figures is_among
  by_end _ (end.early a f) e = absurd (not_answered a f.high e)
  by_end _ (end.done a most) e =
      let ms = matching_in q.rule w in
      let d = deciding_visits q.rule w ms in
      let few = le-leb d q.limits.allowance (le_trans (deciding_few q.rule w (factor_allowed _ a.chain)) most) in
      subst⁻¹ (λ (m : Result HowMany Stopped). Agrees m (gone ms (visits_in q.rule w)))
      (decided q.rule w q.limits.allowance a ∙ rw few)
      (same_cells ms d (visits_in q.rule w) (all_needed ms))
  by_end _ (end.full v most) e = absurd (false≢true e)
  by_end _ end.out e = absurd (false≢true e)

  pub agreeing : IsAnswered q w → Agrees many (search_of q w)
  agreeing e = by_end (search_of q w) (end.ending q w) e
