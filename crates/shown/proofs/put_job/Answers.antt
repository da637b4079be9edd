-- `shown::put_job` meets its contract: the fields of the job, or nothing.
use mathlib.Core.Path.{sym, ap, ◌∙◌}
use native.Mathlib.Omega.{arith}
use Rattle.shown.specs.Lines.{job_fields}
use Rattle.shown.proofs.ShownLaws.{puts_none, puts_as, puts_few}
use Rattle.shown.proofs.put_job.Goals as goal

pub returns-in-Ok : goal.returns-in-Ok
unfolding job_fields
returns-in-Ok c = puts_few (puts_as (ap job_fields (sym c.in-Ok.is ∙ c.raw_job.ensures)) c.put_figures.ensures) (omega arith)

pub returns-in-Err : goal.returns-in-Err
unfolding job_fields
returns-in-Err c = puts_as (ap job_fields (sym c.in-Err.is ∙ c.raw_job.ensures)) (puts_none c.args.out.now c.args.at _)
