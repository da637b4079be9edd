-- The ten P cases: the proof checker computes what the definitions answer to each case, and this is what 01 says.
use mathlib.Core.Path.{◌≡◌, refl}
use lib.Ieee.{of_int, div}
use Rattle.squares.specs.Root.{root}
use Rattle.metres.specs.Metres.{centimetres_of, whole_figures}
use Rattle.chart.specs.Places.{in_range, same_place, distance_of}
use Rattle.chart.specs.Factors.{is_factor, on_ground}
use Rattle.chart.specs.Chains.{is_sound}
use Rattle.chart.specs.Readings.{range_of, reading_of, differ, within, expected_at, figures_of}
use Rattle.search.specs.Windows.{is_window}
use Rattle.search.specs.Questions.{none_too_large}
use Rattle.search.specs.Walk.{visited, cell, visit}
use Rattle.search.specs.Answers.{ended, search_of, search_figures}
use Rattle.demands.specs.Cases.{p_cases, answer_to, answers_to, answers_in}

-- To every case of the table the definitions answer what 01 says.
pub as_01_says : answers_to p_cases ≡ answers_in p_cases
unfolding answers_to answers_in answer_to figures_of expected_at whole_figures centimetres_of div of_int search_figures search_of ended visit visited cell none_too_large is_window within differ reading_of range_of on_ground distance_of is_sound is_factor in_range same_place root
as_01_says = refl
