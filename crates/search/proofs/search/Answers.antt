-- `search::search` meets its contract: it answers with the first test that fails, the list cleared, and else as the walk ends.
use Prim.Native.Nat.{◌/◌}
use mathlib.Core.Path.{◌≡◌, refl, sym, ap, ap₂, ◌∙◌, subst}
use mathlib.Core.Bool.{true, false}
use mathlib.Core.List.{[], ◌∷◌}
use lib.IntN.{ℤ}
use lib.ListN.{length}
use mir.Syntax.{w64}
use mir.Val.{to_z, of_z, SFits}
use mir.ValLaws.{to_z-of_z}
use Rattle.chart.specs.declared.Chain.{Chain}
use Rattle.chart.specs.Chains.{is_sound}
use Rattle.chart.specs.Readings.{wanted_of}
use Rattle.chart.proofs.ChainLaws.{factor_allowed, stations_in_range}
use Rattle.search.specs.declared.Unfound.TheVariants.{ReadingTooLarge, Unsound, BadWindow, BadTolerance}
use Rattle.search.specs.Windows.{is_window}
use Rattle.search.specs.Questions.{Question, question_of, none_too_large}
use Rattle.search.specs.Walk.{visit, start}
use Rattle.search.specs.Holding.{wanted_by}
use Rattle.search.specs.Answers.{Outcome, ended, Accepted, search_of}
use Rattle.search.proofs.AnswerLaws.{search_3, search_5, search_6, search_7, search_walks}
use Rattle.search.proofs.Asking.{want, both_small, asks}
use Rattle.search.proofs.EndLaws.{IsTold, refusal_told}
use Rattle.search.proofs.search.Goals.{Then-not-none_too_large, Else-not-none_too_large, Else-not-sound, Else-not-is_window, After-wished-a, After-wished-b}
use Rattle.search.proofs.search.Goals as goal

-- The readings, as the machine reads them back from their bits, are those that were given.
read_back : (c : Chain) (a b : ℤ) → SFits w64 a → SFits w64 b → none_too_large (wanted_of c (to_z w64 (of_z w64 a) ∷ to_z w64 (of_z w64 b) ∷ [])) ≡ none_too_large (wanted_of c (a ∷ b ∷ []))
read_back c a b fa fb =
    ap₂ (λ (x y : ℤ). none_too_large (wanted_of c (x ∷ y ∷ []))) (to_z-of_z w64 a fa) (to_z-of_z w64 b fb)

-- The tests, as the definitions have them.
large : (c : Then-not-none_too_large) → let a = c.args in none_too_large (wanted_of a.c (a.ra ∷ a.rb ∷ [])) ≡ false
large c = let a = c.args in cc (read_back a.c a.ra a.rb c.ranges.ra c.ranges.rb, c.none_too_large.ensures a.c)

small : (c : Else-not-none_too_large) → let a = c.args in none_too_large (wanted_of a.c (a.ra ∷ a.rb ∷ [])) ≡ true
small c = let a = c.args in cc (read_back a.c a.ra a.rb c.ranges.ra c.ranges.rb, c.none_too_large.ensures a.c)

small_read : (c : Else-not-none_too_large) → let a = c.args in none_too_large (wanted_of a.c (to_z w64 (of_z w64 a.ra) ∷ to_z w64 (of_z w64 a.rb) ∷ [])) ≡ true
small_read c = let a = c.args in cc (c.none_too_large.ensures a.c)

sound : (c : Else-not-sound) → is_sound c.args.c ≡ true
sound c = cc

good_window : (c : Else-not-is_window) → is_window c.args.w ≡ true
good_window c = cc

pub returns-then-not-none_too_large : goal.returns-then-not-none_too_large
returns-then-not-none_too_large c =
    let a = c.args in
    let q = question_of a.c (a.ra ∷ a.rb ∷ []) a.tolerance a.allowance (length a.list.now) in
    let at = goal.at.returns-then-not-none_too_large c in
    let told = refusal_told _ (search_of q a.w) ReadingTooLarge a.list.now _ refl (search_3 q a.w (large at.Then-not-none_too_large)) c.refused.ensures.list in
    record { answer = c.refused.ensures.answer ∙ told.0; list = told.1 }

pub returns-then-not-sound : goal.returns-then-not-sound
returns-then-not-sound c =
    let a = c.args in
    let q = question_of a.c (a.ra ∷ a.rb ∷ []) a.tolerance a.allowance (length a.list.now) in
    let at = goal.at.returns-then-not-sound c in
    let unsound : is_sound a.c ≡ false = cc in
    let told = refusal_told _ (search_of q a.w) Unsound a.list.now _ refl (search_5 q a.w (small at.Else-not-none_too_large) unsound) c.refused-then-not-sound.ensures.list in
    record { answer = c.refused-then-not-sound.ensures.answer ∙ told.0; list = told.1 }

pub returns-then-not-is_window : goal.returns-then-not-is_window
returns-then-not-is_window c =
    let a = c.args in
    let q = question_of a.c (a.ra ∷ a.rb ∷ []) a.tolerance a.allowance (length a.list.now) in
    let at = goal.at.returns-then-not-is_window c in
    let bad : is_window a.w ≡ false = cc in
    let told = refusal_told _ (search_of q a.w) BadWindow a.list.now _ refl (search_6 q a.w (small at.Else-not-none_too_large) (sound at.Else-not-sound) bad) c.refused-then-not-is_window.ensures.list in
    record { answer = c.refused-then-not-is_window.ensures.answer ∙ told.0; list = told.1 }

pub returns-then-tolerance-gt-MOST_TOLERANCE : goal.returns-then-tolerance-gt-MOST_TOLERANCE
returns-then-tolerance-gt-MOST_TOLERANCE c =
    let a = c.args in
    let q = question_of a.c (a.ra ∷ a.rb ∷ []) a.tolerance a.allowance (length a.list.now) in
    let at = goal.at.returns-then-tolerance-gt-MOST_TOLERANCE c in
    let refused = c.refused-then-tolerance-gt-MOST_TOLERANCE.ensures in
    let told = refusal_told _ (search_of q a.w) BadTolerance a.list.now _ refl (search_7 q a.w (small at.Else-not-none_too_large) (sound at.Else-not-sound) (good_window at.Else-not-is_window) c.if-tolerance-gt-MOST_TOLERANCE.true) refused.list in
    record { answer = refused.answer ∙ told.0; list = told.1 }

pub wished-a-requires : goal.wished-a-requires
wished-a-requires c =
    let at = goal.at.wished-a-requires c in
    ((stations_in_range _ (sound at.Else-not-sound)).1.0, (both_small c.args.c _ _ (small_read at.Else-not-none_too_large)).0)

pub wished-b-requires : goal.wished-b-requires
wished-b-requires c =
    let at = goal.at.wished-b-requires c in
    ((stations_in_range _ (sound at.Else-not-sound)).1.1.0, (both_small c.args.c _ _ (small_read at.Else-not-none_too_large)).1)

pub invariant_of-hunt : goal.invariant_of-hunt
invariant_of-hunt c =
    let sound = sound (goal.at.invariant_of-hunt c).Else-not-sound in
    record { allowed = factor_allowed _ sound; master_on_grid = (stations_in_range _ sound).0; tolerable = c.if-tolerance-gt-MOST_TOLERANCE.false }

wish-a : (c : After-wished-a) → wanted_by c.wished-a.result ≡ want c.args.c.a c.args.ra
wish-a c = c.wished-a.ensures ∙ ap (want c.args.c.a) (to_z-of_z w64 c.args.ra c.ranges.ra)

wish-b : (c : After-wished-b) → wanted_by c.wished-b.result ≡ want c.args.c.b c.args.rb
wish-b c = c.wished-b.ensures ∙ ap (want c.args.c.b) (to_z-of_z w64 c.args.rb c.ranges.rb)

pub returns : goal.returns
returns c =
    let a = c.args in
    let at = goal.at.returns c in
    let n = length a.list.now in
    let q = question_of a.c (a.ra ∷ a.rb ∷ []) a.tolerance a.allowance n in
    let ok : Accepted q.rule a.w = record { readings = small at.Else-not-none_too_large; chain = sound at.Else-not-sound; window = good_window at.Else-not-is_window; tolerance = c.if-tolerance-gt-MOST_TOLERANCE.false } in
    let told =
    subst (λ (x : Outcome). IsTold n x c.walked.result c.walked.new.list)
    (ap (λ (p : Question). ended (visit p a.w.k a.w.corner start)) (asks a.c a.tolerance a.allowance (n / 2) a.ra a.rb _ _ (wish-a at.After-wished-a) (wish-b at.After-wished-b)) ∙ sym (search_walks q a.w ok))
    (c.walked.ensures.answer, c.walked.ensures.list)
    in
    record { answer = told.0; list = told.1 }
