-- `shown::put_slave` meets its contract: its five pieces, one after the other.
use mathlib.Core.Path.{ap}
use native.Mathlib.Omega.{arith}
use lib.IntN.{ℤ}
use lib.ListN.{length}
use lib.Signed.{nat_abs-le}
use mir.Syntax.{w64}
use mir.ValLaws.{to_z-of_z}
use Rattle.text.specs.Texts.{whole_text, bytes_in}
use Rattle.text.proofs.WholeLaws.{whole_64}
use Rattle.shown.specs.Expected.{written_text}
use Rattle.shown.proofs.ShownLaws.{puts_as, puts_few, puts_put, puts_both}
use Rattle.shown.proofs.put_slave.Goals as goal

pub returns : goal.returns
unfolding bytes_in
returns c =
    let z = c.args.z in
    let same = to_z-of_z w64 z c.ranges.z in
    let whole = puts_as (ap whole_text same) (puts_put c.put_whole-c.ensures.end c.put_whole-c.ensures.out) in
    let written = puts_as (ap written_text same) c.put_written-d.ensures in
    puts_few
    (puts_both (puts_put c.put-a.ensures.end c.put-a.ensures.out) (puts_both (puts_both (puts_put c.put-b.ensures.end c.put-b.ensures.out) whole) (puts_both written (puts_put c.put.ensures.end c.put.ensures.out))))
    (omega (arith, whole_64 z (nat_abs-le z c.ranges.z.sfits), ap (λ (y : ℤ). length (whole_text y)) same))
