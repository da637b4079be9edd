-- 01's log of three records as its bytes, with its job, its chain table and a side file, listed by the definitions.
use Prim.Native.Nat.{ℕ}
use mathlib.Core.Path.{◌≡◌, refl}
use mathlib.Core.List.{List, [], ◌∷◌, ◌++◌}
use lib.Ieee.{of_bits}
use Rattle.fields.specs.Fields.{value_of}
use Rattle.metres.specs.Metres.{centimetres_of}
use Rattle.metres.specs.Marks.{seen_from, mark_by, mark_of, is_rounded}
use Rattle.squares.specs.Root.{root}
use Rattle.chart.specs.Places.{in_range, same_place, distance_of}
use Rattle.chart.specs.Factors.{is_factor, on_ground}
use Rattle.chart.specs.Chains.{is_sound}
use Rattle.chart.specs.Readings.{range_of, reading_of, differ, within}
use Rattle.search.specs.Windows.{is_window}
use Rattle.search.specs.Questions.{none_too_large}
use Rattle.search.specs.Walk.{visited, cell, visit}
use Rattle.search.specs.Answers.{ended, search_of}
use Rattle.records.specs.Bytes.{all_zero}
use Rattle.records.specs.LogRecords.{log_record_of, is_place, placed, in_centimetres, log_entry_of}
use Rattle.records.specs.Marks.{numbers_used, is_accepted, marks_of, any_rounded}
use Rattle.records.specs.ChainTables.{chain_count_of, chain_of}
use Rattle.records.specs.Jobs.{formed_job_of, accepted_job, job_of}
use Rattle.text.specs.Texts.{last_digits, digits_of, bytes_in, flag_text}
use Rattle.listing.specs.Answers.{fix_with, fix_by, hold_of, answer_by, answer_of, places_of, says_rounded, only}
use Rattle.listing.specs.Listings.{head_of, places_text, answer_text, lines_from, listing_by, listing_from, listing_of}

-- The window from (30000, 40000) with k 1, tolerance 0, allowance 100.
abbrev job : List ℕ
job =
    0x30 ∷ 0x75 ∷ 0 ∷ 0 ∷ 0x40 ∷ 0x9c ∷ 0 ∷ 0
    ∷ 1 ∷ 0 ∷ 0 ∷ 0 ∷ 0 ∷ 0 ∷ 0 ∷ 0
    ∷ 100 ∷ 0 ∷ 0 ∷ 0 ∷ 0 ∷ 0 ∷ 0 ∷ 0
    ∷ 0 ∷ 0 ∷ 0 ∷ 0 ∷ 0 ∷ 0 ∷ 0 ∷ 0 ∷ []

-- Chain 1: master (0, 0), A (30000, 0), B (0, 40000).
abbrev table : List ℕ
table =
    0 ∷ 0 ∷ 0 ∷ 0 ∷ 0 ∷ 0 ∷ 0 ∷ 0
    ∷ 0x30 ∷ 0x75 ∷ 0 ∷ 0 ∷ 0 ∷ 0 ∷ 0 ∷ 0
    ∷ 0 ∷ 0 ∷ 0 ∷ 0 ∷ 0x40 ∷ 0x9c ∷ 0 ∷ 0 ∷ []

-- Its factor, 1,000,000.
abbrev scale : List ℕ
scale = 0x40 ∷ 0x42 ∷ 0x0f ∷ 0 ∷ []

-- Line 1: chain 1, readings -100.0 m and -200.0 m.
abbrev line_1 : List ℕ
line_1 =
    1 ∷ 1 ∷ 0 ∷ 0 ∷ 1 ∷ 0 ∷ 0 ∷ 0
    ∷ 0 ∷ 0 ∷ 0 ∷ 0 ∷ 0 ∷ 0 ∷ 0x59 ∷ 0xc0
    ∷ 0 ∷ 0 ∷ 0 ∷ 0 ∷ 0 ∷ 0 ∷ 0x69 ∷ 0xc0
    ∷ 0 ∷ 0 ∷ 0 ∷ 0 ∷ 0 ∷ 0 ∷ 0 ∷ 0 ∷ []

-- Line 2: a grid record of 300.01 m and 400.00 m.
abbrev line_2 : List ℕ
line_2 =
    2 ∷ 0 ∷ 0 ∷ 0 ∷ 2 ∷ 0 ∷ 0 ∷ 0
    ∷ 0x5c ∷ 0x8f ∷ 0xc2 ∷ 0xf5 ∷ 0x28 ∷ 0xc0 ∷ 0x72 ∷ 0x40
    ∷ 0 ∷ 0 ∷ 0 ∷ 0 ∷ 0 ∷ 0 ∷ 0x79 ∷ 0x40
    ∷ 0 ∷ 0 ∷ 0 ∷ 0 ∷ 0 ∷ 0 ∷ 0 ∷ 0 ∷ []

-- Line 3: a hold.
abbrev line_3 : List ℕ
line_3 =
    3 ∷ 0 ∷ 0 ∷ 0 ∷ 3 ∷ 0 ∷ 0 ∷ 0
    ∷ 0 ∷ 0 ∷ 0 ∷ 0 ∷ 0 ∷ 0 ∷ 0 ∷ 0
    ∷ 0 ∷ 0 ∷ 0 ∷ 0 ∷ 0 ∷ 0 ∷ 0 ∷ 0
    ∷ 0 ∷ 0 ∷ 0 ∷ 0 ∷ 0 ∷ 0 ∷ 0 ∷ 0 ∷ []

-- The whole listing.
whole_listing : listing_of job table scale (line_1 ++ (line_2 ++ line_3))
    ≡ bytes_in "1 FIX 2 5 30000 40000 30001 40001 0\n2 GRID 1 0 30001 40000 1\n3 HOLD 1 0 30001 40000 1\n"
unfolding listing_of listing_from listing_by lines_from head_of places_text answer_text answer_of answer_by fix_by hold_of fix_with
    places_of says_rounded only marks_of numbers_used is_accepted any_rounded mark_of mark_by seen_from is_rounded bytes_in flag_text digits_of last_digits job_of accepted_job formed_job_of chain_count_of chain_of log_entry_of log_record_of in_centimetres placed
    is_place all_zero value_of centimetres_of of_bits search_of ended visit visited cell none_too_large is_window
    within differ reading_of range_of on_ground distance_of is_sound is_factor in_range same_place root
whole_listing = refl
