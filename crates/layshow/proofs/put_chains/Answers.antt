-- `layshow::put_chains` puts the lines of all chains, numbered from 1: at each turn those so far are put, and those of the rest
-- follow.
use Prim.Native.Nat.{ℕ, min}
use mathlib.Core.Path.{◌≡◌, ap, ◌∙◌}
use native.Mathlib.Omega.{arith}
use lib.ListN.{length, length-append}
use Rattle.records.specs.ChainTables.{chain_bytes}
use Rattle.records.proofs.Pieces.{chain_width}
use Rattle.layshow.proofs.WalkLaws.{shown_more, shown_all}
use Rattle.layshow.proofs.put_chains.Goals as goal

pub loop-chain-preserved : goal.loop-chain-preserved
loop-chain-preserved c =
    let loop = c.loop-chain in
    let step = c.in-Some.ensures.steps in
    let x = c.in-Some.chain.now in
    let rest = c.next.new.self.rest.now in
    let fits : length x ≡ min chain_bytes (length loop.chain-iterator.rest.now) = step.1.1 ∙ ap (λ (n : ℕ). min n (length loop.chain-iterator.rest.now)) loop.invariant.0 in (
      step.0 ∙ loop.invariant.0,
      (
        omega (arith, loop.invariant.1.0, ap length step.1.0, length-append x rest, fits, step.1.2),
        shown_more chain_width loop.invariant.1.1 x rest step.1.0 fits step.1.2 c.put_chain-end.ensures,
      ),
    )

pub returns-clause-text : goal.returns-clause-text
returns-clause-text c = shown_all chain_width c.loop-chain.invariant.1.1 c.in-None.ensures.steps.1.0
