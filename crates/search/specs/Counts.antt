-- Whether no cell of a window matches, exactly one, or several (02, A2).
use Rattle.std.specs.Prelude.{ℕ, List, [], ◌∷◌, cond, leb, Result, Ok, Err}
use Rattle.refusals.specs.declared.Refusal.{Refusal}
use Rattle.refusals.specs.declared.Refusal.TheVariants as refusal
use Rattle.chart.specs.declared.Place.{Place}
use Rattle.chart.specs.Places.{place_of}
use Rattle.search.specs.declared.Window.{Window}
use Rattle.search.specs.declared.Unfound.TheVariants.{ReadingTooLarge, Unsound, BadWindow, BadTolerance, NoMatch, NoRoom, AllowanceUsed}
use Rattle.search.specs.declared.HowMany.{HowMany}
use Rattle.search.specs.declared.HowMany.TheVariants.{None, One, Several}
use Rattle.search.specs.declared.Stopped.{Stopped}
use Rattle.search.specs.Questions.{Rule, Question}
use Rattle.search.specs.Answers.{Answer, search_of}
use Rattle.search.specs.Cells.{matching_in, visits_in, visits_to}

-- The question of a search with room for one place. Its walk stops at the second matching cell.
abbrev pub for_one : Rule → ℕ → Question
for_one rule allowance = record { rule = rule; limits = record { allowance = allowance; room = 1 } }

-- The first place of a list, (0, 0) if it has none.
abbrev pub first_of : List Place → Place
first_of [] = place_of 0 0
first_of (p ∷ ps) = p

-- A refusal after so many visits.
abbrev pub stopped_with : Refusal → ℕ → Result HowMany Stopped
stopped_with why visits = Err (record { refusal = why; visits = visits })

-- What the answer of this search says, if p is the first place of its list. No room for a second place means that there are several;
-- no matching cell is no refusal here.
unfoldable pub said_for : Answer → Place → Result HowMany Stopped
said_for (Ok found) p = Ok (One p found.visits)
said_for (Err ReadingTooLarge) p = stopped_with refusal.Number 0
said_for (Err Unsound) p = stopped_with refusal.Chain 0
said_for (Err BadWindow) p = stopped_with refusal.Window 0
said_for (Err BadTolerance) p = stopped_with refusal.Tolerance 0
said_for (Err (NoMatch visits)) p = Ok (None visits)
said_for (Err (NoRoom visits)) p = Ok (Several visits)
said_for (Err (AllowanceUsed visits)) p = stopped_with refusal.Allowance visits

-- How many cells of a window match: none, one or several; or a refusal.
unfoldable pub how_many_of : Rule → Window → ℕ → Result HowMany Stopped
how_many_of rule w allowance =
    let o = search_of (for_one rule allowance) w in
    said_for o.answer (first_of o.places)

-- The same said without a walk, in three steps. How many places a list has:
abbrev pub count_of : List Place → ℕ → HowMany
count_of [] visits = None visits
count_of (p ∷ []) visits = One p visits
count_of (p ∷ o ∷ ps) visits = Several visits

-- The visits that decide it, for the matching cells of a window in chart order: up to and with the second, or all if there is none.
abbrev pub deciding_visits : Rule → Window → List Place → ℕ
deciding_visits rule w [] = visits_in rule w
deciding_visits rule w (p ∷ []) = visits_in rule w
deciding_visits rule w (p ∷ o ∷ ps) = visits_to rule w.k w.corner o

-- The count, if the allowance covers these visits; else the refusal that it is used up, with all of it used.
abbrev pub decided_by : Rule → Window → ℕ → Result HowMany Stopped
decided_by rule w allowance =
    let visits = deciding_visits rule w (matching_in rule w) in
    cond (leb visits allowance) (Ok (count_of (matching_in rule w) visits)) (stopped_with refusal.Allowance allowance)
