-- The writer of chains: which chains it refuses, and the bytes that it makes from a chain (01, The records).
use Rattle.std.specs.Prelude.{ℕ, ◌+◌, Bool, true, ◌&&◌, List, [], ◌∷◌, ◌++◌, Result, Ok, Err, eqb}
use Rattle.refusals.specs.declared.Refusal.{Refusal}
use Rattle.refusals.specs.declared.Refusal.TheVariants as refusal
use Rattle.fields.specs.Fields.{bytes_of, put_at}
use Rattle.chart.specs.declared.Place.{Place}
use Rattle.chart.specs.declared.Chain.{Chain}
use Rattle.chart.specs.Chains.{is_sound}
use Rattle.records.specs.Bytes.{unless}
use Rattle.records.specs.ChainTables.{chain_bytes}
use Rattle.writing.specs.Buffers.{left_in}

-- A place in eight bytes: easting, then northing.
abbrev pub bytes_of_place : Place → List ℕ
bytes_of_place p = bytes_of 4 p.easting ++ bytes_of 4 p.northing

-- s with a place put into the eight bytes from `at` on.
abbrev pub put_place_at : List ℕ → ℕ → Place → List ℕ
put_place_at s at p = put_at 4 (put_at 4 s at p.easting) (at + 4) p.northing

-- A chain in 24 bytes: master, A, B. Its factor is in the side file (specs/FactorWriting.antt).
unfoldable pub bytes_of_chain : Chain → List ℕ
bytes_of_chain c = bytes_of_place c.master ++ (bytes_of_place c.a ++ bytes_of_place c.b)

-- Whether a chain is written into a buffer of `bytes` bytes. If not, it is refused for the buffer, then as a chain that is not
-- sound.
unfoldable pub chain_refusal_of : ℕ → Chain → Result (Unit {0}) Refusal
chain_refusal_of bytes c =
    unless (eqb bytes chain_bytes) (Err refusal.Length)
    (unless (is_sound c) (Err refusal.Chain)
    (Ok tt))

-- What a buffer of `bytes` bytes holds after a chain was written or refused.
unfoldable pub chain_buffer_of : ℕ → Chain → List ℕ
chain_buffer_of bytes c = left_in bytes (chain_refusal_of bytes c) (bytes_of_chain c)

-- Every chain of a list is sound.
unfoldable pub all_sound : List Chain → Bool
all_sound [] = true
all_sound (c ∷ cs) = is_sound c && all_sound cs

-- The table made of chains that are written one after the other, each into a buffer of 24 bytes.
unfoldable pub table_of : List Chain → List ℕ
table_of [] = []
table_of (c ∷ cs) = chain_buffer_of chain_bytes c ++ table_of cs
