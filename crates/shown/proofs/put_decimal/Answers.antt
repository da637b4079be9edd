-- `shown::put_decimal` meets its contract: the metres, the point, and two digits.
use Prim.Native.Nat.{◌/◌}
use native.Mathlib.Omega.{arith}
use Rattle.text.specs.Texts.{bytes_in}
use Rattle.text.proofs.Digits.{digits_64}
use Rattle.shown.proofs.ShownLaws.{puts_few, puts_put, puts_both}
use Rattle.shown.proofs.put_decimal.Goals as goal

pub returns : goal.returns
unfolding bytes_in
returns c =
    puts_few
    (puts_both (puts_put c.put_number-a.ensures.end c.put_number-a.ensures.out) (puts_both (puts_put c.put-b.ensures.end c.put-b.ensures.out) (puts_put c.put.ensures.end c.put.ensures.out)))
    (omega (arith, digits_64 (c.args.n / 100) (omega (arith, c.ranges.n.fits))))
