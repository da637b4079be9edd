-- `layshow::put_chains` puts the lines of all chains, numbered from 1: at each turn those so far are put, and those of the rest
-- follow.
use Prim.Native.Nat.{◌+◌, ◌≤◌}
use mathlib.Core.Path.{◌≡◌}
use lib.ListN.{length}
use Rattle.records.specs.ChainTables.{chain_bytes}
use Rattle.shown.specs.Lines.{chain_line}
use Rattle.layshow.specs.Walks.{chains_room}
use Rattle.layshow.proofs.WalkLaws.{ShownTo}
use Rattle.layshow.proofs.put_chains.Given as goal

abbrev pub invariant-loop-chain : goal.invariant-loop-chain
invariant-loop-chain l =
    (l.chain-iterator.size ≡ chain_bytes)
    × ((l.number + length l.chain-iterator.rest.now ≤ length l.table + 1)
    × ShownTo (chain_line l.scale) chain_bytes l.at (l.at + chains_room) l.table l.initial.out l.chain-iterator.rest.now l.number l.out l.end)
