-- 01's log of three records as its bytes, and grid records at the limits, computed from the definitions.
use Prim.Native.Nat.{ℕ}
use mathlib.Core.Path.{◌≡◌, refl}
use mathlib.Core.List.{List, [], ◌∷◌, ◌++◌}
use lib.IntN.{negsuc}
use lib.Ieee.{of_bits}
use Rattle.std.specs.Prelude.{Ok, Err}
use Rattle.refusals.specs.declared.Refusal.TheVariants as refusal
use Rattle.fields.specs.Fields.{value_of, bytes_of}
use Rattle.metres.specs.Metres.{centimetres_of}
use Rattle.chart.specs.Places.{in_range}
use Rattle.records.specs.declared.LogEntry.TheVariants as entry
use Rattle.records.specs.Bytes.{all_zero}
use Rattle.records.specs.LogRecords.{log_record_of, is_place, placed, in_centimetres, log_entry_of}

-- Line 1: chain 1, readings -100.0 m and -200.0 m.
abbrev pub line_1 : List ℕ
line_1 =
    1 ∷ 1 ∷ 0 ∷ 0 ∷ 1 ∷ 0 ∷ 0 ∷ 0
    ∷ 0 ∷ 0 ∷ 0 ∷ 0 ∷ 0 ∷ 0 ∷ 0x59 ∷ 0xc0
    ∷ 0 ∷ 0 ∷ 0 ∷ 0 ∷ 0 ∷ 0 ∷ 0x69 ∷ 0xc0
    ∷ 0 ∷ 0 ∷ 0 ∷ 0 ∷ 0 ∷ 0 ∷ 0 ∷ 0 ∷ []

line_1_read : log_entry_of line_1 ≡ Ok (entry.Readings (negsuc 9_999) (negsuc 19_999))
unfolding log_entry_of log_record_of in_centimetres all_zero value_of centimetres_of of_bits
line_1_read = refl

-- Line 2: a grid record of 300.01 m and 400.00 m.
abbrev pub line_2 : List ℕ
line_2 =
    2 ∷ 0 ∷ 0 ∷ 0 ∷ 2 ∷ 0 ∷ 0 ∷ 0
    ∷ 0x5c ∷ 0x8f ∷ 0xc2 ∷ 0xf5 ∷ 0x28 ∷ 0xc0 ∷ 0x72 ∷ 0x40
    ∷ 0 ∷ 0 ∷ 0 ∷ 0 ∷ 0 ∷ 0 ∷ 0x79 ∷ 0x40
    ∷ 0 ∷ 0 ∷ 0 ∷ 0 ∷ 0 ∷ 0 ∷ 0 ∷ 0 ∷ []

line_2_read : log_entry_of line_2 ≡ Ok (entry.Place (record { easting = 30_001; northing = 40_000 }))
unfolding log_entry_of log_record_of in_centimetres placed is_place in_range all_zero value_of centimetres_of of_bits
line_2_read = refl

-- Line 3: a hold.
abbrev pub line_3 : List ℕ
line_3 =
    3 ∷ 0 ∷ 0 ∷ 0 ∷ 3 ∷ 0 ∷ 0 ∷ 0
    ∷ 0 ∷ 0 ∷ 0 ∷ 0 ∷ 0 ∷ 0 ∷ 0 ∷ 0
    ∷ 0 ∷ 0 ∷ 0 ∷ 0 ∷ 0 ∷ 0 ∷ 0 ∷ 0
    ∷ 0 ∷ 0 ∷ 0 ∷ 0 ∷ 0 ∷ 0 ∷ 0 ∷ 0 ∷ []

line_3_read : log_entry_of line_3 ≡ Ok entry.Hold
unfolding log_entry_of log_record_of in_centimetres all_zero
line_3_read = refl

-- A grid record with line number 1, from the bit patterns of its three numbers.
abbrev grid_of : ℕ → ℕ → ℕ → List ℕ
grid_of first second third =
    2 ∷ 0 ∷ 0 ∷ 0 ∷ 1 ∷ 0 ∷ 0 ∷ 0 ∷ (bytes_of 8 first ++ (bytes_of 8 second ++ bytes_of 8 third))

-- An easting of -0.001 m is 0, and one of -0.01 m is out of range.
just_west : log_entry_of (grid_of 0xbf50_624d_d2f1_a9fc 0 0) ≡ Ok (entry.Place (record { easting = 0; northing = 0 }))
unfolding log_entry_of log_record_of in_centimetres placed is_place in_range all_zero bytes_of value_of centimetres_of of_bits
just_west = refl

too_far_west : log_entry_of (grid_of 0xbf84_7ae1_47ae_147b 0 0) ≡ Err refusal.Place
unfolding log_entry_of log_record_of in_centimetres placed is_place all_zero bytes_of value_of centimetres_of of_bits
too_far_west = refl

-- The binary64 number nearest to 1,000,000.005 lies above it and is out of range; the one before gives 100,000,000.
too_far_east : log_entry_of (grid_of 0x412e_8480_028f_5c29 0 0) ≡ Err refusal.Place
unfolding log_entry_of log_record_of in_centimetres placed is_place in_range all_zero bytes_of value_of centimetres_of of_bits
too_far_east = refl

farthest_east : log_entry_of (grid_of 0x412e_8480_028f_5c28 0 0) ≡ Ok (entry.Place (record { easting = 100_000_000; northing = 0 }))
unfolding log_entry_of log_record_of in_centimetres placed is_place in_range all_zero bytes_of value_of centimetres_of of_bits
farthest_east = refl

-- Minus zero in a field that the kind does not use is refused; in one that it uses it is 0.
minus_zero_unused : log_entry_of (grid_of 0 0 0x8000_0000_0000_0000) ≡ Err refusal.Form
unfolding log_entry_of log_record_of in_centimetres all_zero bytes_of
minus_zero_unused = refl

minus_zero_used : log_entry_of (grid_of 0x8000_0000_0000_0000 0x8000_0000_0000_0000 0) ≡ Ok (entry.Place (record { easting = 0; northing = 0 }))
unfolding log_entry_of log_record_of in_centimetres placed is_place in_range all_zero bytes_of value_of centimetres_of of_bits
minus_zero_used = refl
