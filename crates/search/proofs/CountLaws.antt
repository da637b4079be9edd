-- How many cells match, by the search with room for one place: its list begins with the first place, and its answer says which of
-- none, one and several it is.
use Prim.Native.Nat.{ℕ, ◌+◌, ◌≤◌, ◌<◌}
use mathlib.Core.Path.{◌≡◌, refl, ap, ap₂, ◌∙◌, subst⁻¹}
use mathlib.Core.Logic.{⊎_elim}
use mathlib.Core.Bool.{Bool, true, false, cond}
use mathlib.Core.List.Memᴰ
use mathlib.Core.List.{List, [], ◌∷◌}
use native.Mathlib.Omega.{arith}
use native.Mathlib.Nat.{lt_of_not-le}
use native.Mathlib.Decide.{dec_le}
use borrow.Author.Tests.{leb-true, leb-false, le-leb, lt-leb}
use lib.Dec.{leb}
use lib.IntN.{ℤ}
use lib.ListN.{length, get_or}
use Rattle.std.specs.Prelude.{Some, Result, Ok, Err}
use Rattle.refusals.specs.declared.Refusal.TheVariants as refusal
use Rattle.chart.specs.declared.Place.{Place}
use Rattle.chart.specs.declared.Chain.{Chain}
use Rattle.chart.specs.Places.{place_of}
use Rattle.search.specs.declared.Window.{Window}
use Rattle.search.specs.declared.Unfound.{Unfound}
use Rattle.search.specs.declared.Unfound.TheVariants.{ReadingTooLarge, Unsound, BadWindow, BadTolerance, NoMatch, NoRoom, AllowanceUsed}
use Rattle.search.specs.declared.HowMany.{HowMany}
use Rattle.search.specs.declared.HowMany.TheVariants.{None, One, Several}
use Rattle.search.specs.declared.Stopped.{Stopped}
use Rattle.search.specs.Questions.{Rule, Question, rule_of, question_of}
use Rattle.search.specs.Walk.{Spent, Standing}
use Rattle.search.specs.Answers.{Outcome, gone, ended, Accepted, refusal_for, search_of, entries_of, list_of, search_left, search_figures}
use Rattle.search.specs.Cells.{matching_in, visits_in, visits_to, IsListed}
use Rattle.search.specs.Counts.{for_one, first_of, stopped_with, said_for, how_many_of, count_of, deciding_visits, decided_by}
use Rattle.search.proofs.AnswerLaws.{ended_out, search_walks}
use Rattle.search.proofs.Whole.{going, whole}
use Rattle.search.proofs.Limits.{bounded}
use Rattle.search.proofs.Raising.{ten_by_more}
use Rattle.chart.proofs.ChainLaws.{factor_allowed}
use Rattle.search.proofs.Dropping.{Allowed}
use Rattle.search.proofs.Filling.{fills, to_few}
use Rattle.search.proofs.Outcomes.{walk, Fails, tested}

-- The place in the first two entries of a list, which may be any list.
abbrev pub place_ahead : List ℕ → Place
place_ahead l = place_of (get_or l 0 0) (get_or l 1 0)

first_ahead : (ps : List Place) → place_ahead (list_of 2 ps) ≡ first_of ps
unfolding list_of entries_of
first_ahead [] = refl
first_ahead (p ∷ ps) = refl

-- What is said of a search with a list of two entries.
pub said_of_two : (c : Chain) (readings : List ℤ) (w : Window) (tolerance allowance : ℕ) →
    let left = search_left c readings w tolerance allowance 2 in
    said_for left.answer (place_ahead left.list) ≡ how_many_of (rule_of c readings tolerance) w allowance
unfolding how_many_of
said_of_two c readings w tolerance allowance =
    let o = search_of (question_of c readings tolerance allowance 2) w in
    ap (said_for o.answer) (first_ahead o.places)

-- What the outcome of a search with room for one place says.
abbrev said : Outcome → Result HowMany Stopped
said o = said_for o.answer (first_of o.places)

-- The visits of a walk are counted from 0.
none_before : (v : ℕ) → 0 + v ≡ v
none_before v = omega arith

module _ (rule : Rule) (w : Window) (allowed : Allowed rule) where
  -- A walk with allowance for all its visits and at most one matching cell goes to its end.
  goes : (m : ℕ) → visits_in rule w ≤ m → length (matching_in rule w) ≤ 1 → walk (for_one rule m) w ≡ going (matching_in rule w) (0 + visits_in rule w)
  goes m h few = whole (for_one rule m) w.k w.corner allowed [] 0 (omega (arith, h)) (omega (arith, few))

  -- With an allowance for the visits that decide, the walk makes just these, and says how many cells match.
  decides : (m : ℕ) (ms : List Place) → matching_in rule w ≡ ms → deciding_visits rule w ms ≤ m →
      ((walk (for_one rule m) w).visits ≡ deciding_visits rule w ms) × (said (ended (walk (for_one rule m) w)) ≡ Ok (count_of ms (deciding_visits rule w ms)))
  unfolding ended said_for
  decides m [] e h =
      let end = goes m h (omega (arith, ap length e)) in
      (ap (λ (s : Standing). s.visits) end ∙ none_before _, ap (λ (s : Standing). said (ended s)) end ∙ ap₂ (λ (l : List Place) (v : ℕ). said (gone l v)) e (none_before _))
  decides m (p ∷ []) e h =
      let end = goes m h (omega (arith, ap length e)) in
      (ap (λ (s : Standing). s.visits) end ∙ none_before _, ap (λ (s : Standing). said (ended s)) end ∙ ap₂ (λ (l : List Place) (v : ℕ). said (gone l v)) e (none_before _))
  decides m (p ∷ o ∷ ps) e h =
      let end = (fills (for_one rule m) allowed w.k w.corner).over [] (p ∷ []) ps o 0 e refl (omega (arith, h)) in
      (ap (λ (s : Standing). s.visits) end ∙ none_before _, ap (λ (s : Standing). said (ended s)) end ∙ ap (λ (v : ℕ). Ok (Several v)) (none_before _))

  -- With less, the allowance stops it.
  short : (n : ℕ) → n < deciding_visits rule w (matching_in rule w) → (walk (for_one rule n) w).stop ≡ Some Spent
  short n less =
      let m : ℕ = n + deciding_visits rule w (matching_in rule w) in
      ten_by_more (for_one rule n) w.k w.corner m (omega arith) (omega (arith, less, (decides m (matching_in rule w) refl (omega arith)).0))

  -- No more than the whole walk is needed to decide.
  pub deciding_few : deciding_visits rule w (matching_in rule w) ≤ visits_in rule w
  deciding_few = go (matching_in rule w) refl
    where
      go : (ms : List Place) → matching_in rule w ≡ ms → deciding_visits rule w ms ≤ visits_in rule w
      go [] e = omega arith
      go (p ∷ []) e = omega arith
      go (p ∷ o ∷ ps) e =
          to_few rule w.k w.corner o allowed (subst⁻¹ (IsListed o) e (Memᴰ.tail (Memᴰ.head refl)))

-- How it ends: a test before the walk fails; no cell matches, one or several; or the allowance ends before that is decided.
pub data Counting (rule : Rule) (w : Window) (n : ℕ) : Result HowMany Stopped → Type 0 where
  early : (a : Unfound) → Fails rule w a → Counting rule w n (stopped_with (refusal_for a) 0)
  none : Accepted rule w → matching_in rule w ≡ [] → visits_in rule w ≤ n → Counting rule w n (Ok (None (visits_in rule w)))
  one : (p : Place) → Accepted rule w → matching_in rule w ≡ p ∷ [] → visits_in rule w ≤ n → Counting rule w n (Ok (One p (visits_in rule w)))
  several : (p o : Place) (ps : List Place) → Accepted rule w → matching_in rule w ≡ p ∷ o ∷ ps → visits_to rule w.k w.corner o ≤ n →
      Counting rule w n (Ok (Several (visits_to rule w.k w.corner o)))
  out : Accepted rule w → n < deciding_visits rule w (matching_in rule w) → Counting rule w n (stopped_with refusal.Allowance n)

-- What is said if a test before the walk fails.
said_early : (a : Unfound) (p : Place) → (search_figures (Err a)).refusal < 8 → said_for (Err a) p ≡ stopped_with (refusal_for a) 0
unfolding said_for search_figures
said_early ReadingTooLarge p h = refl
said_early Unsound p h = refl
said_early BadWindow p h = refl
said_early BadTolerance p h = refl
said_early (NoMatch visits) p h = absurd (omega (arith, h))
said_early (NoRoom visits) p h = absurd (omega (arith, h))
said_early (AllowanceUsed visits) p h = absurd (omega (arith, h))

module _ (rule : Rule) (w : Window) (n : ℕ) where
  -- If a test fails, the question is refused as the search is, and without a visit.
  pub early_refused : (a : Unfound) → Fails rule w a → how_many_of rule w n ≡ stopped_with (refusal_for a) 0
  unfolding how_many_of
  early_refused a f = ap said (f.same (record { allowance = n; room = 1 })) ∙ said_early a _ f.high

  abbrev q : Question
  q = for_one rule n

  -- If the tests pass, the answer follows from the matching cells, the visits that decide, and the allowance.
  pub decided : Accepted rule w → how_many_of rule w n ≡ decided_by rule w n
  unfolding how_many_of said_for
  decided a = go (dec_le (deciding_visits rule w (matching_in rule w)) n)
    where
      go : Dec (deciding_visits rule w (matching_in rule w) ≤ n) → how_many_of rule w n ≡ decided_by rule w n
      go (yes h) =
          ap said (search_walks q w a)
          ∙ (decides rule w (factor_allowed _ a.chain) n (matching_in rule w) refl h).1
          ∙ rw (le-leb (deciding_visits rule w (matching_in rule w)) n h)
      go (no f) =
          let less = lt_of_not-le f in
          let ten = short rule w (factor_allowed _ a.chain) n less in
          ap said (search_walks q w a ∙ ended_out (walk q w) ten)
          ∙ ap (stopped_with refusal.Allowance) ((bounded q w.k w.corner).all ten)
          ∙ rw (lt-leb (deciding_visits rule w (matching_in rule w)) n less)

  by_cells : Accepted rule w → (ms : List Place) → matching_in rule w ≡ ms → deciding_visits rule w ms ≤ n → Counting rule w n (Ok (count_of ms (deciding_visits rule w ms)))
  by_cells a [] e h = none a e h
  by_cells a (p ∷ []) e h = one p a e h
  by_cells a (p ∷ o ∷ ps) e h = several p o ps a e h

  by_allowance : Accepted rule w → (b : Bool) → leb (deciding_visits rule w (matching_in rule w)) n ≡ b →
      Counting rule w n (cond b (Ok (count_of (matching_in rule w) (deciding_visits rule w (matching_in rule w)))) (stopped_with refusal.Allowance n))
  by_allowance a true e = by_cells a (matching_in rule w) refl (leb-true _ n e)
  by_allowance a false e = out a (leb-false _ n e)

  -- It ends in one of these ways.
  pub counting : Counting rule w n (how_many_of rule w n)
  unfolding how_many_of
  counting =
      ⊎_elim
      (λ a. subst⁻¹ (Counting rule w n) (decided a) (by_allowance a (leb (deciding_visits rule w (matching_in rule w)) n) refl))
      (λ f.
      subst⁻¹ (Counting rule w n) (early_refused f.0 f.1) (early f.0 f.1))
      (tested rule w)
