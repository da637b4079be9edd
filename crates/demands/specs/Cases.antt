-- The ten cases that 01 marks P, as one table: each question, and the answer that 01 gives (01, Examples to hold on to).
use Rattle.std.specs.Prelude.{ℕ, ◌*◌, List, [], ◌∷◌, ℤ, pos, neg_ℤ, Float, length}
use Prim.Native.String.{String}
use Rattle.std.specs.Float.{binary64}
use Rattle.std.specs.Float.Ieee.{of_int, div}
use Rattle.metres.specs.declared.WholeFigures.{WholeFigures}
use Rattle.metres.specs.Metres.{centimetres_of, whole_figures}
use Rattle.chart.specs.declared.Place.{Place}
use Rattle.chart.specs.declared.Chain.{Chain}
use Rattle.chart.specs.declared.Figures.{Figures}
use Rattle.chart.specs.Places.{place_of}
use Rattle.chart.specs.Readings.{expected_at, figures_of}
use Rattle.search.specs.declared.Window.{Window}
use Rattle.search.specs.declared.SearchFigures.{SearchFigures}
use Rattle.search.specs.Questions.{Question, question_of}
use Rattle.search.specs.Answers.{search_of, figures_in}

-- A question that a case puts to the definitions.
pub data Asked : Type 0 where
  -- The readings expected at a place.
  readings_at : Place → Asked
  -- A search: the window's corner and exponent, the tolerance, readings A and B, the room in places, the allowance.
  search : Place → ℕ → ℕ → ℤ → ℤ → ℕ → ℕ → Asked
  -- How many whole centimetres a number of metres gives.
  centimetres_in : Float → Asked

-- What the definitions answer: figures, and for a search also its places.
pub data Answered : Type 0 where
  readings : Figures → Answered
  found : SearchFigures → List Place → Answered
  centimetres : WholeFigures → Answered

-- A case: its name in 01, its question, and the answer that 01 gives.
pub record Case : Type 0 where
  pub name : String
  pub asked : Asked
  pub answered : Answered

-- The number -n.
abbrev pub minus : ℕ → ℤ
minus n = neg_ℤ (pos n)

-- What all cases use unless they say otherwise: chain 1, with the factor 1,000,000, under which 01's figures stay (02, A3);
-- readings of -100.0 m and -200.0 m; the window's corner; and 100 as ample room and ample allowance.
abbrev pub chain1 : Chain
chain1 = record { master = place_of 0 0; a = place_of 30_000 0; b = place_of 0 40_000; factor = 1_000_000 }

abbrev pub r_a : ℤ
r_a = minus 10_000

abbrev pub r_b : ℤ
r_b = minus 20_000

abbrev pub corner : Place
corner = place_of 30_000 40_000

abbrev pub ample : ℕ
ample = 100

-- n thousandths of a metre: one rounded division, which is exact for the four numbers of P10.
abbrev pub thousandths : ℤ → Float
unfolding div of_int
thousandths n = div binary64 (of_int binary64 n) (of_int binary64 (pos 1000))

-- The question of a search with chain 1. A place takes two entries of the list.
abbrev pub case_question : ℕ → ℤ → ℤ → ℕ → ℕ → Question
case_question t a b room allowance = question_of chain1 (a ∷ b ∷ []) t allowance (2 * room)

abbrev pub window_at : Place → ℕ → Window
window_at o k = record { corner = o; k = k }

-- What the definitions answer to a question.
unfoldable pub answer_to : Asked → Answered
answer_to (readings_at p) = readings (figures_of (expected_at chain1 p))
answer_to (search o k t a b room allowance) =
    found (figures_in (case_question t a b room allowance) (window_at o k)) (search_of (case_question t a b room allowance) (window_at o k)).places
answer_to (centimetres_in x) = centimetres (whole_figures (centimetres_of x))

-- Answers in the form in which 01 gives them: two readings; places and visits; a refusal and visits; centimetres.
abbrev pub the_readings : ℤ → ℤ → Answered
the_readings a b = readings (record { refusal = 0; a = a; b = b })

abbrev pub the_places : List Place → ℕ → Answered
the_places ps visits = found (record { refusal = 0; count = length ps; visits = visits }) ps

abbrev pub the_refusal : ℕ → ℕ → Answered
the_refusal number visits = found (record { refusal = number; count = 0; visits = visits }) []

abbrev pub the_centimetres : ℤ → Answered
the_centimetres z = centimetres (record { refusal = 0; centimetres = z })

abbrev pub case : String → Asked → Answered → Case
case name asked answered = record { name = name; asked = asked; answered = answered }

-- The table of the ten P cases.
abbrev pub p_cases : List Case
p_cases =
    case "P1" (readings_at (place_of 30_000 40_000)) (the_readings (minus 10_000) (minus 20_000))
    ∷ case "P2" (readings_at (place_of 30_001 40_000)) (the_readings (minus 10_000) (minus 19_999))
    ∷ case "P3" (readings_at (place_of 30_000 40_001)) (the_readings (minus 9_999) (minus 20_000))
    ∷ case "P4" (search corner 1 0 r_a r_b ample ample) (the_places (place_of 30_000 40_000 ∷ place_of 30_001 40_001 ∷ []) 5)
    ∷ case "P5" (search corner 1 1 r_a r_b ample ample) (the_places (place_of 30_000 40_000 ∷ place_of 30_001 40_000 ∷ place_of 30_000 40_001 ∷ place_of 30_001 40_001 ∷ []) 5)
    ∷ case "P6" (search corner 1 0 r_a r_b 1 ample) (the_refusal 9 5)
    ∷ case "P7" (search corner 1 0 r_a r_b ample 4) (the_refusal 10 4)
    ∷ case "P7, with room 1 as well" (search corner 1 0 r_a r_b 1 4) (the_refusal 10 4)
    ∷ case "P8" (search (place_of 30_001 40_000) 0 0 r_a r_b ample ample) (the_refusal 8 1)
    ∷ case "P9" (search corner 1 0 (pos 0) (pos 0) ample ample) (the_refusal 8 1)
    ∷ case "P10, 0.125" (centimetres_in (thousandths (pos 125))) (the_centimetres (pos 12))
    ∷ case "P10, 0.375" (centimetres_in (thousandths (pos 375))) (the_centimetres (pos 38))
    ∷ case "P10, -0.125" (centimetres_in (thousandths (minus 125))) (the_centimetres (minus 12))
    ∷ case "P10, 0.625" (centimetres_in (thousandths (pos 625))) (the_centimetres (pos 62))
    ∷ []

-- For every case of a table: what the definitions answer, and what the table says.
unfoldable pub answers_to : List Case → List Answered
answers_to [] = []
answers_to (c ∷ cs) = answer_to c.asked ∷ answers_to cs

unfoldable pub answers_in : List Case → List Answered
answers_in [] = []
answers_in (c ∷ cs) = c.answered ∷ answers_in cs
