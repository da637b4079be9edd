-- `layshow::put_job` puts the line of a job into its room.
use native.Mathlib.Omega.{arith}
use Rattle.shown.proofs.Fitting.{text_fits}
use Rattle.layshow.proofs.LineLaws.{line_put}
use Rattle.layshow.proofs.put_job.Goals as goal

pub after-requires : goal.after-requires
after-requires c =
    omega (arith, text_fits _ _ c.job.ensures.answer c.job.ensures.out, c.job.auto.out)

pub returns : goal.returns
returns c =
    line_put c.args.out.now c.args.at _ c.requires _ c.job.ensures.answer c.job.ensures.out c.job.auto.out c.after.ensures
