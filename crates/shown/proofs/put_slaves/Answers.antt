-- `shown::put_slaves` meets its contract: one line after the other.
use mathlib.Core.Path.{ap, ◌∙◌, sym}
use mathlib.Core.List.{append-nil}
use native.Mathlib.Omega.{arith}
use mir.Syntax.{w64}
use mir.ValLaws.{to_z-of_z}
use Rattle.shown.specs.Expected.{slave_line, expected_text}
use Rattle.shown.proofs.ShownLaws.{puts_as, puts_few, puts_both}
use Rattle.shown.proofs.put_slaves.Goals as goal

pub returns : goal.returns
unfolding expected_text
returns c =
    let b = c.args.b in
    let back-a = to_z-of_z w64 c.args.a c.ranges.a in
    let back-b = to_z-of_z w64 b c.ranges.b in
    puts_few
    (puts_both (puts_as (ap (slave_line 65) back-a) c.put_slave-end.ensures) (puts_as (ap (slave_line 66) back-b ∙ sym (append-nil (slave_line 66 b))) c.put_slave.ensures))
    (omega arith)
