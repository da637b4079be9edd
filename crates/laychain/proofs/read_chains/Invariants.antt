-- `laychain::read_chains`: each line that is accepted puts one chain after the others.
use Rattle.std.proofs.Common.{◌≡◌, ◌*◌, ◌≤◌, true, length}
use Rattle.records.specs.ChainTables.{chain_bytes, most_chains, factor_bytes}
use Rattle.laychain.specs.Tables.{HoldsChains}
use Rattle.laychain.proofs.read_chains.Given as goal

abbrev pub invariant-loop-line : goal.invariant-loop-line
invariant-loop-line g l =
    (l.count ≤ most_chains) × ((length l.table ≡ chain_bytes * most_chains) × ((length l.scale ≡ factor_bytes * most_chains) × ((length l.buffer ≡ length l.initial.buffer) × (l.well ≡ true → HoldsChains l.table l.scale l.count))))
