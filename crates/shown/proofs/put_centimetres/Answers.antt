-- `shown::put_centimetres` meets its contract: a space, and the number or the dash.
use mathlib.Core.Path.{sym, ap, ◌∙◌}
use native.Mathlib.Omega.{arith}
use borrow.Author.Rules.{rules}
use lib.ListN.{length}
use lib.Signed.{nat_abs-le}
use mir.Syntax.{w64}
use mir.Val.{SFits}
use mir.ValLaws.{to_z-of_z}
use Rattle.text.specs.Texts.{whole_text, bytes_in}
use Rattle.text.proofs.WholeLaws.{whole_64}
use Rattle.shown.specs.Fields.{whole_or}
use Rattle.shown.proofs.ShownLaws.{puts_as, puts_few, puts_put, puts_both}
use Rattle.shown.proofs.put_centimetres.Goals as goal

pub returns-in-Some : goal.returns-in-Some
unfolding whole_or
returns-in-Some c =
    let z = c.in-Some.z in
    let fits : SFits w64 z = search rules in
    let back = ap whole_text (to_z-of_z w64 z fits) in
    let text = back ∙ ap whole_or (sym c.in-Some.is ∙ c.centimetres.ensures) in
    puts_few (puts_both (puts_put c.put-a.ensures.end c.put-a.ensures.out) (puts_as text (puts_put c.put_whole.ensures.end c.put_whole.ensures.out))) (omega (arith, whole_64 z (nat_abs-le z fits.sfits), ap length back))

pub returns-in-None : goal.returns-in-None
unfolding whole_or bytes_in
returns-in-None c =
    let text = ap whole_or (sym c.in-None.is ∙ c.centimetres.ensures) in
    puts_few (puts_both (puts_put c.put-a.ensures.end c.put-a.ensures.out) (puts_as text (puts_put c.put.ensures.end c.put.ensures.out))) (omega arith)
