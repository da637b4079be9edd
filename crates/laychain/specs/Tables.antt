-- The table and its side file as they are made, one chain and its factor for each line.
use Rattle.std.specs.Prelude.{◌≡◌, ℕ, ◌+◌, ◌*◌, ◌≤◌, Bool, true, false, List, length, take, nat_lt, Option, Some, None, Result, Ok, Err}
use Rattle.refusals.specs.declared.Refusal.{Refusal}
use Rattle.refusals.specs.declared.Refusal.TheVariants as refusal
use Rattle.chart.specs.declared.Chain.{Chain}
use Rattle.records.specs.Bytes.{unless}
use Rattle.records.specs.ChainTables.{chain_bytes, most_chains, factor_bytes}
use Rattle.writing.specs.ChainWriting.{chain_refusal_of, chain_buffer_of, all_sound, table_of}
use Rattle.writing.specs.FactorWriting.{factor_buffer_of, scale_of}
use Rattle.text.specs.Puts.{with_text}
use Rattle.laychain.specs.declared.Verdict.{Verdict}
use Rattle.laychain.specs.declared.Verdict.TheVariants as verdict

-- What becomes of a chain, by whether it is written or refused.
unfoldable pub verdict_of : Result (Unit {0}) Refusal → Verdict
verdict_of (Ok written) = verdict.Chain
verdict_of (Err why) = verdict.Refused why

-- What becomes of a line when `before` chains are in the table: a chain is refused with 1 (Length) if the table is full.
unfoldable pub line_verdict : ℕ → Result (Option Chain) Refusal → Verdict
line_verdict before (Ok (Some c)) = verdict_of (unless (nat_lt before most_chains) (Err refusal.Length) (chain_refusal_of chain_bytes c))
line_verdict before (Ok None) = verdict.Passed
line_verdict before (Err why) = verdict.Refused why

-- How many lines with chains there are after it, and whether it is not refused. A line that is passed over changes nothing.
unfoldable pub chains_after : ℕ → Verdict → ℕ
chains_after before verdict.Chain = before + 1
chains_after before verdict.Passed = before
chains_after before (verdict.Refused why) = before + 1

unfoldable pub is_well : Verdict → Bool
is_well verdict.Chain = true
is_well verdict.Passed = true
is_well (verdict.Refused why) = false

-- The table then: if there is room, the chain's bytes, or zeros for a chain that is not sound, after those of the others. Nothing
-- else in it changes.
abbrev pub table_with : List ℕ → ℕ → Result (Option Chain) Refusal → List ℕ
table_with table before (Ok (Some c)) = with_text table (chain_bytes * before) (chain_buffer_of chain_bytes c)
table_with table before (Ok None) = table
table_with table before (Err why) = table

-- The side file then: the factor's bytes, or zeros for one that is not allowed.
abbrev pub scale_with : List ℕ → ℕ → Result (Option Chain) Refusal → List ℕ
scale_with scale before (Ok (Some c)) = with_text scale (factor_bytes * before) (factor_buffer_of factor_bytes c.factor)
scale_with scale before (Ok None) = scale
scale_with scale before (Err why) = scale

-- The table begins with `count` chains, one after the other, each of them sound, and the side file with their factors: those of some
-- lines. Which lines were read depends on the operating system.
pub record HoldsChains (table scale : List ℕ) (count : ℕ) : Type 0 where
  pub few : count ≤ most_chains
  pub chains : List Chain
  pub size : length chains ≡ count
  pub sound : all_sound chains ≡ true
  pub bytes : take (chain_bytes * count) table ≡ table_of chains
  pub factors : take (factor_bytes * count) scale ≡ scale_of chains
