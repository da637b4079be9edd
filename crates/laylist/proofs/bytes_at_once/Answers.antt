-- `laylist::bytes_at_once` meets its contract: it tests the allowance of the job that is read.
use mathlib.Core.Path.{sym, ap, ◌∙◌}
use Rattle.laylist.specs.Walks.{may_take_long, bytes_at_once}
use Rattle.laylist.proofs.WalkLaws.{under_large, under_usual}
use Rattle.laylist.proofs.bytes_at_once.Goals as goal

pub returns-in_default : goal.returns-in_default
unfolding may_take_long
returns-in_default c = ap bytes_at_once (sym c.in_default.is ∙ c.job_of.ensures)

pub returns-then-j-gt-USUAL_ALLOWANCE : goal.returns-then-j-gt-USUAL_ALLOWANCE
returns-then-j-gt-USUAL_ALLOWANCE c =
    under_large _ c.if-j-gt-USUAL_ALLOWANCE.true ∙ ap bytes_at_once (sym c.in-Ok.is ∙ c.job_of.ensures)

pub returns : goal.returns
returns c =
    under_usual _ c.if-j-gt-USUAL_ALLOWANCE.false ∙ ap bytes_at_once (sym c.in-Ok.is ∙ c.job_of.ensures)
