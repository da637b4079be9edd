-- `shown::put_chain` meets its contract: the number, the stations and the factor, or nothing.
use mathlib.Core.Path.{◌≡◌, sym, ap, ◌∙◌}
use native.Mathlib.Omega.{arith}
use Rattle.records.specs.ChainTables.{raw_chain_of}
use Rattle.shown.specs.Lines.{chain_fields, chain_text}
use Rattle.shown.proofs.ShownLaws.{puts_none, puts_as, puts_few, puts_both}
use Rattle.shown.proofs.put_chain.Goals.{After-raw_chain}
use Rattle.shown.proofs.put_chain.Goals as goal

-- The fields of the chain that was read are the chain's text.
read : (c : After-raw_chain) → let a = c.args in chain_fields a.scale.now a.number c.raw_chain.result ≡ chain_text a.scale.now a.number a.s.now
read c =
    let a = c.args in
    ap (chain_fields a.scale.now a.number) (c.raw_chain.ensures ∙ ap (raw_chain_of a.s.now) c.factor_or.ensures)

pub returns-in-Ok : goal.returns-in-Ok
unfolding chain_fields
returns-in-Ok c =
    let a = c.args in
    let text = ap (chain_fields a.scale.now a.number) (sym c.in-Ok.is) ∙ read (goal.at.returns-in-Ok c).After-raw_chain in
    puts_few (puts_as text (puts_both c.put_stations-end.ensures c.put_factor.ensures)) (omega arith)

pub returns-in-Err : goal.returns-in-Err
unfolding chain_fields
returns-in-Err c =
    let a = c.args in
    let text = ap (chain_fields a.scale.now a.number) (sym c.in-Err.is) ∙ read (goal.at.returns-in-Err c).After-raw_chain in
    puts_as text (puts_none a.out.now a.at _)
