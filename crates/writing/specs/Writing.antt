-- The writer of log records: which drafts it refuses, and the bytes that it makes from a draft (01, The records).
use Rattle.std.specs.Prelude.{ℕ, ◌≡◌, Bool, not, cond, ◌&&◌, ◌||◌, List, ◌∷◌, ◌++◌, Result, Ok, Err, leb, eqb, ℤ, pos, nat_abs, Float, replicate}
use Rattle.refusals.specs.declared.Refusal.{Refusal}
use Rattle.refusals.specs.declared.Refusal.TheVariants as refusal
use Rattle.fields.specs.Fields.{bytes_of}
use Rattle.metres.specs.Metres.{most_centimetres, metres_of, length_figures, plus_zero}
use Rattle.metres.specs.Patterns.{pattern_of}
use Rattle.records.specs.declared.RawRecord.{RawRecord}
use Rattle.records.specs.declared.LogEntry.{LogEntry}
use Rattle.records.specs.declared.LogEntry.TheVariants as entry
use Rattle.records.specs.Bytes.{unless}
use Rattle.records.specs.LogRecords.{log_bytes, raw_record_of, is_place, log_entry_of}
use Rattle.records.specs.ChainTables.{most_chains, one_to}
use Rattle.writing.specs.declared.Draft.{Draft}
use Rattle.writing.specs.Buffers.{left_in}

-- A kind that is known: 1 hyperbolic, 2 grid, 3 hold.
abbrev pub is_kind : ℕ → Bool
is_kind kind = one_to 3 kind

-- The numbers that the draft's kind uses are not too large to be written. A hold uses none.
abbrev pub numbers_fit : Draft → Bool
numbers_fit d = eqb d.kind 3 || (leb (nat_abs d.x) most_centimetres && leb (nat_abs d.y) most_centimetres)

-- A grid record's place is in range.
abbrev pub place_fits : Draft → Bool
place_fits d = not (eqb d.kind 2) || is_place d.x d.y

-- A hyperbolic record's chain number is 1 to 16.
abbrev pub chain_fits : Draft → Bool
chain_fits d = not (eqb d.kind 1) || one_to most_chains d.chain

-- Whether a draft is written into a buffer of `bytes` bytes, or why not: the first test that it fails.
unfoldable pub refusal_of : ℕ → Draft → Result (Unit {0}) Refusal
refusal_of bytes d =
    unless (eqb bytes log_bytes) (Err refusal.Length)
    (unless (is_kind d.kind) (Err refusal.Form)
    (unless (numbers_fit d) (Err refusal.Number)
    (unless (place_fits d) (Err refusal.Place)
    (unless (chain_fits d) (Err refusal.Chain)
    (Ok tt)))))

-- What a draft's kind does not use is ignored: it counts as 0.
unfoldable pub used_of : Draft → Draft
used_of d =
    record {
      kind = d.kind;
      chain = cond (eqb d.kind 1) d.chain 0;
      line = d.line;
      x = cond (eqb d.kind 3) (pos 0) d.x;
      y = cond (eqb d.kind 3) (pos 0) d.y;
    }

-- A number of centimetres in metres, and its eight bytes. 0 becomes plus zero, whose bytes are all zero.
abbrev pub in_metres : ℤ → Float
in_metres z = (length_figures (metres_of z)).metres

abbrev pub metres_bytes : ℤ → List ℕ
metres_bytes z = bytes_of 8 (pattern_of (in_metres z))

-- The bytes of a record, in their order.
unfoldable pub record_bytes : Draft → List ℕ
record_bytes d =
    d.kind ∷ d.chain ∷ 0 ∷ 0
    ∷ (bytes_of 4 d.line ++ (metres_bytes d.x ++ (metres_bytes d.y ++ replicate 8 0)))

-- What a buffer of `bytes` bytes holds after a draft was written or refused.
unfoldable pub buffer_of : ℕ → Draft → List ℕ
buffer_of bytes d = left_in bytes (refusal_of bytes d) (record_bytes (used_of d))

-- The raw record, and the entry in centimetres, that a draft stands for.
abbrev pub raw_for : Draft → RawRecord
raw_for d =
    record {
      kind = d.kind;
      chain = d.chain;
      byte_2 = 0;
      byte_3 = 0;
      line = d.line;
      first = in_metres d.x;
      second = in_metres d.y;
      third = plus_zero;
    }

unfoldable pub entry_for : Draft → LogEntry
entry_for d =
    cond (eqb d.kind 1) (entry.Readings d.x d.y)
    (cond (eqb d.kind 2) (entry.Place (record { easting = nat_abs d.x; northing = nat_abs d.y }))
    entry.Hold)

-- The bytes s read as the draft says: the same kind, chain number, line number and centimetres.
pub record ReadsAs (d : Draft) (s : List ℕ) : Type 0 where
  pub raw : raw_record_of s ≡ Ok (raw_for d)
  pub entry : log_entry_of s ≡ Ok (entry_for d)
