-- `shown::put_many` meets its contract: the word, the figures and the newline.
use native.Mathlib.Omega.{arith}
use Rattle.text.specs.Texts.{bytes_in}
use Rattle.shown.proofs.ShownLaws.{puts_few, puts_put, puts_both}
use Rattle.shown.proofs.put_many.Goals as goal

pub returns : goal.returns
unfolding bytes_in
returns c =
    puts_few
    (puts_both (puts_put c.put-a.ensures.end c.put-a.ensures.out) (puts_both c.put_figures-b.ensures (puts_put c.put.ensures.end c.put.ensures.out)))
    (omega (arith, c.requires))
