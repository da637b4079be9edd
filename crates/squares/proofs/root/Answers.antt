-- `squares::root` meets its contract: 0 is its own root, and for any other number `settled` finds the root from the guess.
use mathlib.Core.Path.{sym, ap}
use Rattle.squares.specs.Root.{root}
use Rattle.squares.proofs.root.Goals as goal

pub returns-then-n-eq0 : goal.returns-then-n-eq0
unfolding root
returns-then-n-eq0 c = sym (ap root c.if-n-eq0.true)
