-- `shown::put_word` meets its contract: without room for the line nothing is put.
use mathlib.Core.Path.{sym, ◌∙◌}
use native.Mathlib.Omega.{arith}
use Rattle.shown.proofs.ShownLaws.{puts_put, line_shown, none_shown}
use Rattle.shown.proofs.put_word.Goals as goal

pub returns-then-not-has_line_room : goal.returns-then-not-has_line_room
returns-then-not-has_line_room c =
    none_shown c.args.out.now c.args.count _ (sym c.has_line_room.ensures ∙ c.if-not-has_line_room.true)

pub returns : goal.returns
returns c =
    line_shown c.args.count (sym c.has_line_room.ensures ∙ c.if-not-has_line_room.false) (puts_put c.put.ensures.end c.put.ensures.out) (omega (arith, c.requires))
