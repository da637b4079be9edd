-- `shown::put_figures` meets its contract: each turn puts one number more.
use Prim.Native.Nat.{◌*◌}
use lib.ListN.{take}
use Rattle.text.specs.Texts.{figures_text}
use Rattle.shown.specs.Rooms.{Puts}
use Rattle.shown.proofs.put_figures.Given as goal

abbrev pub invariant-loop-n : goal.invariant-loop-n
invariant-loop-n l = Puts l.initial.out l.at (figures_text (take l.n-index l.ns)) (21 * l.n-index) l.out l.end
