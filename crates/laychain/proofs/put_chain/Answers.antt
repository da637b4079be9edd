-- `laychain::put_chain` lends `write_chain` the 24 bytes of the chain's place in the table, if there is one, and puts the factor.
use Rattle.std.proofs.Common.{◌≡◌, ◌+◌, ◌-◌, ◌*◌, length, take, drop, ◌∙◌, arith, length-drop, length-take}
use Rattle.laychain.proofs.TableLaws.{no_place, chain_placed}
use Rattle.laychain.proofs.put_chain.Goals as goal

pub returns-then-before-ge-MOST_CHAINS : goal.returns-then-before-ge-MOST_CHAINS
returns-then-before-ge-MOST_CHAINS c =
    let a = c.args in
    let told = no_place a.table.now a.scale.now a.before a.c c.requires.0 c.requires.1 (omega arith) in
    record { answer = told.0; table = told.1.0; scale = told.1.1 }

pub returns : goal.returns
returns c =
    let a = c.args in
    let part = length (take (24 * a.before + 24 - 24 * a.before) (drop (24 * a.before) a.table.now)) in
    let size : part ≡ 24 = length-take (24 * a.before + 24 - 24 * a.before) (drop (24 * a.before) a.table.now) ∙ omega (arith, length-drop (24 * a.before) a.table.now, c.requires.0) in
    let placed = chain_placed a.table.now a.before a.c part c.write_chain.result c.write_chain.new.buffer c.requires.0 (omega (arith, c.if-before-ge-MOST_CHAINS.false)) size c.write_chain.ensures.answer c.write_chain.ensures.buffer in
    record { answer = c.by_refusal.ensures ∙ placed.0; table = placed.1; scale = c.put_factor.ensures }
