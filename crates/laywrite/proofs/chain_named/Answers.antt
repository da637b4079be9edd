-- `laywrite::chain_named` meets its contract.
use Rattle.std.proofs.Common.{eq-eqb, ne_eqb}
use Rattle.laywrite.specs.Waiting.{chain_named}
use Rattle.laywrite.proofs.chain_named.Goals as goal

pub returns-then-d-ne1 : goal.returns-then-d-ne1
unfolding chain_named
returns-then-d-ne1 c = rw (ne_eqb _ _ c.if-d-ne1.true)

pub returns : goal.returns
unfolding chain_named
returns c = rw (eq-eqb _ _ c.if-d-ne1.false)
