-- `search::cell` meets its contract: a cell that matches is listed after the others.
use mathlib.Core.Path.{◌≡◌}
use mathlib.Core.Bool.{true}
use Rattle.search.specs.Questions.{matches}
use Rattle.search.specs.Holding.{rule_by, question_by}
use Rattle.search.proofs.HoldLaws.{listed_holds}
use Rattle.search.proofs.cell.Goals as goal

pub returns : goal.returns
returns c s h =
    let a = c.args in
    let m : matches (rule_by a.h.now) a.p ≡ true = cc in
    listed_holds s a.t a.list.now h (question_by a.h.now) a.p m c.if-h-n.false c.requires.1
