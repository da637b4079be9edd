-- What the answers to the question how many places there are mean (02, A2).
use Rattle.std.specs.Prelude.{ℕ, ◌≤◌, ◌<◌, ◌≡◌, ◌↔◌, true, false, [], ◌∷◌, length, Result, Ok, Err}
use Rattle.refusals.specs.Numbers.{refusal_number}
use Rattle.chart.specs.declared.Place.{Place}
use Rattle.search.specs.declared.Window.{Window}
use Rattle.search.specs.declared.Unfound.TheVariants as unfound
use Rattle.search.specs.declared.HowMany.{HowMany}
use Rattle.search.specs.declared.HowMany.TheVariants as many
use Rattle.search.specs.declared.Stopped.{Stopped}
use Rattle.search.specs.Windows.{IsCellIn}
use Rattle.search.specs.Questions.{Rule, Question, matches}
use Rattle.search.specs.Answers.{Outcome, Accepted, figures_in}
use Rattle.search.specs.Cells.{chart_number, matching_in, visits_in, visits_to, IsMatch}
use Rattle.search.specs.Counts.{deciding_visits}
use Rattle.records.specs.Refusals.{is_among}
use Rattle.demands.specs.Numbers.{NoneOr}

-- In chart order, the cell p of a window is the first that matches, and the cell o the second.
pub record AreFirstTwo (rule : Rule) (w : Window) (p o : Place) : Type 0 where
  pub first : IsMatch rule w p
  pub second : IsMatch rule w o
  pub order : chart_number w p < chart_number w o
  pub no_other : (x : Place) → IsMatch rule w x → chart_number w x < chart_number w o → x ≡ p

-- None: no cell of the window matches, and all visits were made. One: it matches, no other cell does, and all visits were made.
-- Several: there is a second matching cell, and the visits are those up to and with it.
-- Refused: with 3, 5, 6 or 7, and without a visit; or with 10. Then the tests pass, the allowance is smaller than the visits that
-- decide, and all of it was used.
unfoldable pub Means : Rule → Window → ℕ → Result HowMany Stopped → Type 0
Means rule w allowance (Ok (many.None visits)) =
    ((o : Place) → IsCellIn w o → matches rule o ≡ false) × (visits ≡ visits_in rule w)
Means rule w allowance (Ok (many.One p visits)) =
    IsMatch rule w p × ((o : Place) → IsMatch rule w o → o ≡ p) × (visits ≡ visits_in rule w)
Means rule w allowance (Ok (many.Several visits)) =
    (p : Place) × (o : Place) × AreFirstTwo rule w p o × (visits ≡ visits_to rule w.k w.corner o)
Means rule w allowance (Err s) =
    let number = refusal_number s.refusal in
    (is_among number (3 ∷ 5 ∷ 6 ∷ 7 ∷ 10 ∷ []) ≡ true)
    × ((number ≡ 10 → ⊥) → s.visits ≡ 0)
    × (number ≡ 10 → Accepted rule w × (allowance < deciding_visits rule w (matching_in rule w)) × (s.visits ≡ allowance))

-- A search that answers: with places, or with 8, "no fix".
abbrev pub IsAnswered : Question → Window → Type 0
IsAnswered q w = NoneOr (8 ∷ []) (figures_in q w).refusal

-- The question agrees with a search: none and 8, with the same visits; one and a list of that one place, with the same visits;
-- several and a longer list.
abbrev pub Agrees : Result HowMany Stopped → Outcome → Type 0
Agrees m found =
    ((v : ℕ) → (m ≡ Ok (many.None v)) ↔ (found.answer ≡ Err (unfound.NoMatch v)))
    × ((p : Place) (v : ℕ) → (m ≡ Ok (many.One p v)) ↔ (found ≡ record { answer = Ok (record { count = 1; visits = v }); places = p ∷ [] }))
    × (((v : ℕ) × (m ≡ Ok (many.Several v))) ↔ (2 ≤ length found.places))
