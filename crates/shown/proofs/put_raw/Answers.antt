-- `shown::put_raw` meets its contract: three figures and two numbers of centimetres.
use native.Mathlib.Omega.{arith}
use Rattle.shown.proofs.ShownLaws.{puts_few, puts_both}
use Rattle.shown.proofs.put_raw.Goals as goal

pub returns : goal.returns
returns c =
    puts_few (puts_both c.put_figures-a.ensures (puts_both c.put_centimetres-b.ensures c.put_centimetres.ensures)) (omega arith)
