-- A log record: what its 32 bytes hold, what kind it is, and what it gives in whole centimetres (01, The records).
use Rattle.std.specs.Prelude.{ℕ, Bool, false, cond, ◌&&◌, List, eqb, ℤ, pos, negsuc, nat_abs, length, Option, Some, None, Result, Ok, Err}
use Rattle.std.specs.Option.{option_zip}
use Rattle.refusals.specs.declared.Refusal.{Refusal}
use Rattle.refusals.specs.declared.Refusal.TheVariants as refusal
use Rattle.fields.specs.Fields.{field_at}
use Rattle.metres.specs.Metres.{centimetres_of}
use Rattle.chart.specs.Places.{in_range}
use Rattle.records.specs.declared.RawRecord.{RawRecord}
use Rattle.records.specs.declared.LogRecord.{LogRecord}
use Rattle.records.specs.declared.LogRecord.TheVariants as log
use Rattle.records.specs.declared.LogEntry.{LogEntry}
use Rattle.records.specs.declared.LogEntry.TheVariants as entry
use Rattle.records.specs.Bytes.{byte_at, number_in, are_zero, unless}

-- How many bytes a log record has.
abbrev pub log_bytes : ℕ
log_bytes = 32

-- The fields of a log record as its bytes give them, valid or not.
abbrev pub raw_in : List ℕ → RawRecord
raw_in s =
    record {
      kind = byte_at s 0;
      chain = byte_at s 1;
      byte_2 = byte_at s 2;
      byte_3 = byte_at s 3;
      line = field_at 4 s 4;
      first = number_in s 8;
      second = number_in s 16;
      third = number_in s 24;
    }

-- The same, or refusal 1 for any other number of bytes.
unfoldable pub raw_record_of : List ℕ → Result RawRecord Refusal
raw_record_of s = unless (eqb (length s) log_bytes) (Err refusal.Length) (Ok (raw_in s))

-- The kinds, each with a test that the bytes it does not use are zero. Byte 1 of a hyperbolic record is its chain; a hold uses
-- no number.
abbrev pub is_hyperbolic : List ℕ → Bool
is_hyperbolic s = eqb (byte_at s 0) 1 && (are_zero 2 s 2 && are_zero 8 s 24)

abbrev pub is_grid : List ℕ → Bool
is_grid s = eqb (byte_at s 0) 2 && (are_zero 3 s 1 && are_zero 8 s 24)

abbrev pub is_hold : List ℕ → Bool
is_hold s = eqb (byte_at s 0) 3 && (are_zero 3 s 1 && are_zero 24 s 8)

-- A log record by its kind, its numbers in metres: refusal 1, then 2 for any other kind or a byte that must be zero and is not.
unfoldable pub log_record_of : List ℕ → Result LogRecord Refusal
log_record_of s =
    unless (eqb (length s) log_bytes) (Err refusal.Length)
    (cond (is_hyperbolic s) (Ok (log.Hyperbolic (number_in s 8) (number_in s 16)))
    (cond (is_grid s) (Ok (log.Grid (number_in s 8) (number_in s 16)))
    (cond (is_hold s) (Ok log.Hold)
    (Err refusal.Form))))

-- Two whole numbers are easting and northing of a place in range.
unfoldable pub is_place : ℤ → ℤ → Bool
is_place (pos e) (pos n) = in_range (record { easting = e; northing = n })
is_place (pos e) (negsuc n) = false
is_place (negsuc e) n = false

-- The place of a grid record, tested after rounding: refusal 4 if it is out of range.
unfoldable pub placed : ℤ → ℤ → Result LogEntry Refusal
placed e n = unless (is_place e n) (Err refusal.Place) (Ok (entry.Place (record { easting = nat_abs e; northing = nat_abs n })))

-- The two readings of a hyperbolic record. Whether they are too large for a search is not tested here.
abbrev pub two_readings : ℤ → ℤ → Result LogEntry Refusal
two_readings a b = Ok (entry.Readings a b)

-- Two numbers in whole centimetres, or none if one of them is refused.
abbrev pub pair_of : Option ℤ → Option ℤ → Option (ℤ × ℤ)
pair_of = option_zip

-- What two numbers give, or refusal 3.
abbrev pub with_pair : (ℤ → ℤ → Result LogEntry Refusal) → Option (ℤ × ℤ) → Result LogEntry Refusal
with_pair give (Some p) = give p.0 p.1
with_pair give None = Err refusal.Number

-- A log record in whole centimetres. Both numbers are tested for refusal 3 before the place is tested for 4.
unfoldable pub in_centimetres : Result LogRecord Refusal → Result LogEntry Refusal
in_centimetres (Ok (log.Hyperbolic a b)) = with_pair two_readings (pair_of (centimetres_of a) (centimetres_of b))
in_centimetres (Ok (log.Grid e n)) = with_pair placed (pair_of (centimetres_of e) (centimetres_of n))
in_centimetres (Ok log.Hold) = Ok entry.Hold
in_centimetres (Err why) = Err why

-- From bytes to centimetres: refusals 1, 2, 3, 4 in this order. Whether the record's chain is in a table is not tested here.
unfoldable pub log_entry_of : List ℕ → Result LogEntry Refusal
log_entry_of s = in_centimetres (log_record_of s)
