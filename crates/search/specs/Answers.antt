-- What a search answers: the refusals in 01's order, then how the walk ended; and what the list then holds
-- (01, Numbers of refusal).
use Rattle.std.specs.Prelude.{ℕ, ◌-◌, ◌*◌, ◌≤◌, ◌≡◌, true, List, [], ◌∷◌, ◌++◌, leb, ℤ, length, replicate, Option, None, Some, Result, Ok, Err}
use Rattle.fields.specs.Choices.{where_so}
use Rattle.refusals.specs.declared.Refusal.{Refusal}
use Rattle.refusals.specs.declared.Refusal.TheVariants as refusal
use Rattle.refusals.specs.Numbers.{refusal_number}
use Rattle.chart.specs.declared.Place.{Place}
use Rattle.chart.specs.declared.Chain.{Chain}
use Rattle.chart.specs.Chains.{is_sound}
use Rattle.search.specs.declared.Window.{Window}
use Rattle.search.specs.declared.Found.{Found}
use Rattle.search.specs.declared.Unfound.{Unfound}
use Rattle.search.specs.declared.Unfound.TheVariants.{ReadingTooLarge, Unsound, BadWindow, BadTolerance, NoMatch, NoRoom, AllowanceUsed}
use Rattle.search.specs.declared.SearchFigures.{SearchFigures}
use Rattle.search.specs.declared.Stopped.{Stopped}
use Rattle.search.specs.Windows.{is_window}
use Rattle.search.specs.Questions.{Rule, Question, question_of, most_tolerance, none_too_large}
use Rattle.search.specs.Walk.{Halt, Full, Spent, Standing, start, visit}

-- What a search answers: what it found, or why it found nothing.
abbrev pub Answer : Type 0
Answer = Result Found Unfound

-- An answer, and the places it lists.
pub record Outcome : Type 0 where
  pub answer : Answer
  pub places : List Place

-- A refusal lists no place.
abbrev pub refused : Unfound → Outcome
refused why = record { answer = Err why; places = [] }

-- The outcome of a walk that was not stopped. If it found no matching cell, that is a refusal.
abbrev pub gone : List Place → ℕ → Outcome
gone [] visits = refused (NoMatch visits)
gone (p ∷ ps) visits = record { answer = Ok (record { count = length (p ∷ ps); visits = visits }); places = p ∷ ps }

-- The refusal of a walk that was stopped after so many visits.
abbrev pub unfound_by : Halt → ℕ → Unfound
unfound_by Full visits = NoRoom visits
unfound_by Spent visits = AllowanceUsed visits

-- The outcome of a walk that was stopped, or that was not.
abbrev pub outcome_by : Option Halt → List Place → ℕ → Outcome
outcome_by (Some why) places visits = refused (unfound_by why visits)
outcome_by None places visits = gone places visits

-- How a walk ended: stopped for lack of room, stopped by the allowance, or gone to its end.
unfoldable pub ended : Standing → Outcome
ended s = outcome_by s.stop s.places s.visits

-- All tests before the walk pass.
pub record Accepted (rule : Rule) (w : Window) : Type 0 where
  pub readings : none_too_large rule.wanted ≡ true
  pub chain : is_sound rule.chain ≡ true
  pub window : is_window w ≡ true
  pub tolerance : rule.tolerance ≤ most_tolerance

-- The search: 3, 5, 6 or 7 if its test fails, in this order; otherwise the walk.
unfoldable pub search_of : Question → Window → Outcome
search_of q w =
    where_so (none_too_large q.rule.wanted) (refused ReadingTooLarge) (λ _.
    where_so (is_sound q.rule.chain) (refused Unsound) (λ _.
    where_so (is_window w) (refused BadWindow) (λ _.
    where_so (leb q.rule.tolerance most_tolerance) (refused BadTolerance) (λ _.
    ended (visit q w.k w.corner start)))))

-- Easting and northing of each place in turn.
unfoldable pub entries_of : List Place → List ℕ
entries_of [] = []
entries_of (p ∷ ps) = p.easting ∷ p.northing ∷ entries_of ps

-- A list of `entries` entries with the places ps: theirs come first, all others are zero.
unfoldable pub list_of : ℕ → List Place → List ℕ
list_of entries ps = entries_of ps ++ replicate (entries - 2 * length ps) 0

-- All that a search leaves: its answer, and every entry of its list, whatever the list held before.
pub record SearchLeft : Type 0 where
  pub answer : Answer
  pub list : List ℕ

-- What a search of a window leaves, asked for one reading for each slave, with a list of `entries` entries.
abbrev pub search_left : Chain → List ℤ → Window → ℕ → ℕ → ℕ → SearchLeft
search_left c readings w tolerance allowance entries =
    let o = search_of (question_of c readings tolerance allowance entries) w in
    record { answer = o.answer; list = list_of entries o.places }

-- The refusal that each is (01, Numbers of refusal).
abbrev pub refusal_for : Unfound → Refusal
refusal_for ReadingTooLarge = refusal.Number
refusal_for Unsound = refusal.Chain
refusal_for BadWindow = refusal.Window
refusal_for BadTolerance = refusal.Tolerance
refusal_for (NoMatch visits) = refusal.NoMatch
refusal_for (NoRoom visits) = refusal.NoRoom
refusal_for (AllowanceUsed visits) = refusal.Allowance

-- The visits made before it.
abbrev pub visits_before : Unfound → ℕ
visits_before ReadingTooLarge = 0
visits_before Unsound = 0
visits_before BadWindow = 0
visits_before BadTolerance = 0
visits_before (NoMatch visits) = visits
visits_before (NoRoom visits) = visits
visits_before (AllowanceUsed visits) = visits

-- Both together.
abbrev pub stopped_by : Unfound → Stopped
stopped_by why = record { refusal = refusal_for why; visits = visits_before why }

-- An answer in figures: the number of the refusal, 0 for none, the count of places and the visits.
unfoldable pub search_figures : Answer → SearchFigures
search_figures (Ok found) = record { refusal = 0; count = found.count; visits = found.visits }
search_figures (Err why) = record { refusal = refusal_number (refusal_for why); count = 0; visits = visits_before why }

-- The figures that a search answers with.
abbrev pub figures_in : Question → Window → SearchFigures
figures_in q w = search_figures (search_of q w).answer
