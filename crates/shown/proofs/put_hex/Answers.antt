-- `shown::put_hex` meets its contract: nothing, or a space and the bytes.
use mathlib.Core.Path.{sym}
use native.Mathlib.Omega.{arith}
use Rattle.text.proofs.HexLaws.{length_hex}
use Rattle.shown.proofs.ShownLaws.{puts_none, puts_as, puts_few, puts_put, puts_both, hex_none, hex_some}
use Rattle.shown.proofs.put_hex.Goals as goal

pub returns-then-s-eq0 : goal.returns-then-s-eq0
returns-then-s-eq0 c =
    let a = c.args in
    puts_as (sym (hex_none a.s.now c.if-s-eq0.true)) (puts_none a.out.now a.at _)

pub returns : goal.returns
returns c =
    let s = c.args.s.now in
    puts_few
    (puts_as (sym (hex_some s c.if-s-eq0.false)) (puts_both (puts_put c.put-a.ensures.end c.put-a.ensures.out) (puts_put c.put_bytes.ensures.end c.put_bytes.ensures.out)))
    (omega (arith, length_hex s))
