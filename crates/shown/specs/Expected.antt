-- The readings expected at a place, as text (docs/FORMATS.md, Text; 01, Numbers of refusal: "4 precedes 5").
use Rattle.std.specs.Prelude.{ℕ, suc, Bool, cond, List, [], ◌∷◌, ◌++◌, leb, ℤ, nat_abs, Result, Ok, Err}
use Rattle.refusals.specs.declared.Refusal.{Refusal}
use Rattle.refusals.specs.declared.Refusal.TheVariants as refusal
use Rattle.metres.specs.Metres.{most_centimetres}
use Rattle.metres.specs.Marks.{mark_of, is_rounded}
use Rattle.chart.specs.declared.Chain.{Chain}
use Rattle.chart.specs.declared.Place.{Place}
use Rattle.chart.specs.Places.{in_range}
use Rattle.chart.specs.Readings.{expected_at}
use Rattle.records.specs.Bytes.{unless}
use Rattle.records.specs.ChainTables.{scaled_count_of, chain_of}
use Rattle.writing.specs.Writing.{in_metres, metres_bytes}
use Rattle.text.specs.Texts.{whole_text, hex_of, bytes_in, flag_text}
use Rattle.shown.specs.Fields.{metres_text}

-- The readings for the chain that was named, or why it is refused.
unfoldable pub by_chain : Result Chain Refusal → Place → Result (List ℤ) Refusal
by_chain (Ok c) p = expected_at c p
by_chain (Err why) p = Err why

-- The refusals in their order: 1 for the table and its side file, then 4 for the place, then 5 for the chain. If none applies, the
-- readings.
unfoldable pub by_table : Result ℕ Refusal → List ℕ → List ℕ → ℕ → Place → Result (List ℤ) Refusal
by_table (Err why) table scale chain p = Err why
by_table (Ok n) table scale chain p = unless (in_range p) (Err refusal.Place) (by_chain (chain_of table scale chain) p)

abbrev pub expected_in : List ℕ → List ℕ → ℕ → Place → Result (List ℤ) Refusal
expected_in table scale chain p = by_table (scaled_count_of table scale) table scale chain p

-- Whether the number that is written for a reading is rounded when it is read back (02, A1).
abbrev pub is_rounded_back : ℤ → Bool
is_rounded_back z = is_rounded (mark_of (in_metres z))

-- A reading in metres, the bytes that a log record has for it, and 1 if it is rounded when these are read back, 0 if they are exact;
-- refusal 3 if it is too large to be written.
unfoldable pub written_text : ℤ → List ℕ
written_text z =
    cond (leb (nat_abs z) most_centimetres)
    ((32 ∷ metres_text z) ++ ((32 ∷ hex_of (metres_bytes z)) ++ flag_text (is_rounded_back z)))
    (bytes_in " REFUSED 3")

-- The line of a slave: its letter, and its reading in centimetres, in metres and in bytes, with the flag.
abbrev pub slave_line : ℕ → ℤ → List ℕ
slave_line letter z = letter ∷ ((32 ∷ whole_text z) ++ (written_text z ++ bytes_in "\n"))

-- One line for each reading. The slaves have the letters from `letter` on.
abbrev pub slave_lines : ℕ → List ℤ → List ℕ
slave_lines letter [] = []
slave_lines letter (z ∷ zs) = slave_line letter z ++ slave_lines (suc letter) zs

-- The slaves' lines, from A on.
unfoldable pub expected_text : List ℤ → List ℕ
expected_text readings = slave_lines 65 readings
