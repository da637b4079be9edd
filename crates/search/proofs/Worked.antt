-- What a search leaves in a list, a chart number, a count of visits, and how many places there are, computed from the definitions.
-- 01's P cases are in `demands`.
use Prim.Native.Nat.{ℕ}
use mathlib.Core.Path.{◌≡◌, refl}
use mathlib.Core.List.{List, [], ◌∷◌}
use lib.IntN.{ℤ, negsuc}
use Rattle.std.specs.Prelude.{Result, Ok}
use Rattle.refusals.specs.declared.Refusal.TheVariants as refusal
use Rattle.squares.specs.Root.{root}
use Rattle.chart.specs.Places.{place_of, in_range, same_place, distance_of}
use Rattle.chart.specs.Factors.{unit_factor, is_factor, on_ground}
use Rattle.chart.specs.Chains.{is_sound}
use Rattle.chart.specs.Readings.{range_of, reading_of, differ, within}
use Rattle.search.specs.declared.Window.{Window}
use Rattle.search.specs.declared.HowMany.{HowMany}
use Rattle.search.specs.declared.HowMany.TheVariants.{None, One, Several}
use Rattle.search.specs.declared.Stopped.{Stopped}
use Rattle.search.specs.Windows.{is_window}
use Rattle.search.specs.Questions.{Rule, rule_of, none_too_large}
use Rattle.search.specs.Walk.{visited, cell, visit}
use Rattle.search.specs.Answers.{ended, search_of, entries_of, list_of}
use Rattle.search.specs.Cells.{interleave, chart_number, visits_of}
use Rattle.search.specs.Counts.{stopped_with, said_for, how_many_of}

-- Chain 1 with readings and a tolerance.
abbrev asked : List ℤ → ℕ → Rule
asked = rule_of (record { master = place_of 0 0; a = place_of 30000 0; b = place_of 0 40000; factor = unit_factor })

abbrev window : ℕ → ℕ → ℕ → Window
window e n k = record { corner = place_of e n; k = k }

-- The list of P4, with nine entries: the places, then zeros; and the list of any refusal, with three.
p4_list : list_of 9 (place_of 30000 40000 ∷ place_of 30001 40001 ∷ []) ≡ 30000 ∷ 40000 ∷ 30001 ∷ 40001 ∷ 0 ∷ 0 ∷ 0 ∷ 0 ∷ 0 ∷ []
unfolding list_of entries_of
p4_list = refl

refused_list : list_of 3 [] ≡ 0 ∷ 0 ∷ 0 ∷ []
unfolding list_of entries_of
refused_list = refl

-- Offsets 5 east (101) and 3 north (011) interleave to 011011, the northing bit first.
chart_number_lem : chart_number (window 100 200 3) (place_of 105 203) ≡ 27
unfolding interleave
chart_number_lem = refl

-- P4's window takes one visit and one for each quarter.
p4_visits : visits_of (asked (negsuc 9999 ∷ negsuc 19999 ∷ []) 0) 1 (place_of 30000 40000) ≡ 5
unfolding visits_of within differ reading_of range_of on_ground distance_of root
p4_visits = refl

-- How many places P4's readings allow: several, told at the second after 5 visits, and undecided with one visit less; in P8's
-- window none; in that of the cell (30000, 40000) alone one.
abbrev places : ℕ → ℕ → ℕ → ℕ → Result HowMany Stopped
places e n k allowance = how_many_of (asked (negsuc 9999 ∷ negsuc 19999 ∷ []) 0) (window e n k) allowance

how_many : (places 30000 40000 1 100 ≡ Ok (Several 5))
    × (places 30000 40000 1 4 ≡ stopped_with refusal.Allowance 4)
    × (places 30001 40000 0 100 ≡ Ok (None 1))
    × (places 30000 40000 0 100 ≡ Ok (One (place_of 30000 40000) 1))
unfolding how_many_of said_for search_of ended visit visited cell none_too_large is_window within differ reading_of range_of on_ground distance_of is_sound is_factor in_range same_place root
how_many = (refl, refl, refl, refl)
