-- `search::wished` meets its contract: the size goes to `below` if the reading is below 0, and to `above` if it is not.
use mathlib.Core.Path.{ap}
use mir.Syntax.{w64}
use mir.ValLaws.{to_z-of_z}
use Rattle.search.proofs.Asking.{want}
use Rattle.search.proofs.Signs.{below_is, above_is}
use Rattle.search.proofs.wished.Goals as goal

pub returns-then-reading-lt0 : goal.returns-then-reading-lt0
returns-then-reading-lt0 c =
    ap (want c.args.slave) (below_is _ _ _ (to_z-of_z w64 c.args.reading c.ranges.reading) c.if-reading-lt0.true c.size-size.ensures)

pub returns : goal.returns
returns c =
    ap (want c.args.slave) (above_is _ _ _ (to_z-of_z w64 c.args.reading c.ranges.reading) c.if-reading-lt0.false c.size-size.ensures)
