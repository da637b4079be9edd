-- `shown::put_end` meets its contract.
use native.Mathlib.Omega.{arith}
use Rattle.text.specs.Texts.{bytes_in}
use Rattle.shown.proofs.ShownLaws.{puts_few, puts_put, puts_both}
use Rattle.shown.proofs.put_end.Goals as goal

pub returns : goal.returns
unfolding bytes_in
returns c = puts_few (puts_both c.put_refused-a.ensures (puts_put c.put.ensures.end c.put.ensures.out)) (omega arith)
