-- `shown::put_refused` meets its contract: nothing, or the word, the number and the bytes.
use native.Mathlib.Omega.{arith}
use Rattle.text.specs.Texts.{bytes_in}
use Rattle.shown.proofs.ShownLaws.{puts_none, puts_as, puts_few, puts_put, puts_both, refused_none, refused_some}
use Rattle.shown.proofs.put_refused.Goals as goal

pub returns-then-number-eq0 : goal.returns-then-number-eq0
returns-then-number-eq0 c =
    let a = c.args in
    puts_as (refused_none a.number a.s.now c.if-number-eq0.true) (puts_none a.out.now a.at _)

pub returns : goal.returns
unfolding bytes_in
returns c =
    puts_few
    (puts_as (refused_some c.args.number c.args.s.now c.if-number-eq0.false) (puts_both (puts_put c.put-a.ensures.end c.put-a.ensures.out) (puts_both c.put_figures-b.ensures c.put_hex.ensures)))
    (omega arith)
