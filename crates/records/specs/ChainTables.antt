-- The chain table: 1 to 16 chains of 24 bytes, numbered from 1 by place (01, The records); and its side file, the scale factors of
-- these chains (02, A3).
use Rattle.std.specs.Prelude.{ℕ, ◌+◌, ◌-◌, ◌*◌, ◌/◌, ◌%◌, Bool, ◌&&◌, List, leb, eqb, length, Result, Ok, Err}
use Rattle.refusals.specs.declared.Refusal.{Refusal}
use Rattle.refusals.specs.declared.Refusal.TheVariants as refusal
use Rattle.fields.specs.Fields.{field_at}
use Rattle.chart.specs.declared.Place.{Place}
use Rattle.chart.specs.declared.Chain.{Chain}
use Rattle.chart.specs.Chains.{is_sound}
use Rattle.records.specs.Bytes.{unless}

-- How many bytes a chain has, and how many chains a table may have.
abbrev pub chain_bytes : ℕ
chain_bytes = 24

abbrev pub most_chains : ℕ
most_chains = 16

-- How many bytes a factor has.
abbrev pub factor_bytes : ℕ
factor_bytes = 4

-- n is from 1 to `most`.
abbrev pub one_to : ℕ → ℕ → Bool
one_to most n = leb 1 n && leb n most

-- How many whole chains there are bytes for.
abbrev pub chains_in : List ℕ → ℕ
chains_in s = length s / chain_bytes

-- No byte is left over, and there are 1 to 16 chains.
abbrev pub is_table : List ℕ → Bool
is_table s = eqb (length s % chain_bytes) 0 && one_to most_chains (chains_in s)

-- How many chains a table has, or refusal 1.
unfoldable pub chain_count_of : List ℕ → Result ℕ Refusal
chain_count_of s = unless (is_table s) (Err refusal.Length) (Ok (chains_in s))

-- A side file for this many chains: a factor for each, and no byte more.
abbrev pub is_scale : ℕ → List ℕ → Bool
is_scale chains s = eqb (length s) (factor_bytes * chains)

-- How many chains a table has that its side file fits; refusal 1 for the table, then for the side file.
unfoldable pub scaled_count_of : List ℕ → List ℕ → Result ℕ Refusal
scaled_count_of s scale =
    unless (is_table s) (Err refusal.Length)
    (unless (is_scale (chains_in s) scale) (Err refusal.Length) (Ok (chains_in s)))

-- A place in eight bytes: easting, then northing.
abbrev pub place_at : List ℕ → ℕ → Place
place_at s at = record { easting = field_at 4 s at; northing = field_at 4 s (at + 4) }

-- The chain in the 24 bytes from `at` on, master, A, B, with its factor.
abbrev pub chain_at : List ℕ → ℕ → ℕ → Chain
chain_at s at factor = record { master = place_at s at; a = place_at s (at + 8); b = place_at s (at + 16); factor = factor }

-- The chain in 24 bytes and its factor, sound or not; refusal 1 for any other number of bytes.
unfoldable pub raw_chain_of : List ℕ → ℕ → Result Chain Refusal
raw_chain_of s factor = unless (eqb (length s) chain_bytes) (Err refusal.Length) (Ok (chain_at s 0 factor))

-- The chain with i others before it in a table and its side file.
abbrev pub chain_in : List ℕ → List ℕ → ℕ → Chain
chain_in s scale i = chain_at s (chain_bytes * i) (field_at factor_bytes scale (factor_bytes * i))

-- The chain with a given number: refusal 1 if the bytes are not a table, or the side file does not fit the table; then 5 if the number
-- is not in the table or the chain is not sound. No other chain of the table is checked.
unfoldable pub chain_of : List ℕ → List ℕ → ℕ → Result Chain Refusal
chain_of s scale number =
    unless (is_table s) (Err refusal.Length)
    (unless (is_scale (chains_in s) scale) (Err refusal.Length)
    (unless (one_to (chains_in s) number) (Err refusal.Chain)
    (unless (is_sound (chain_in s scale (number - 1))) (Err refusal.Chain)
    (Ok (chain_in s scale (number - 1))))))
