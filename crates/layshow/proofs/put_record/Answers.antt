-- `layshow::put_record` puts the line of a record into its room.
use native.Mathlib.Omega.{arith}
use Rattle.shown.proofs.Fitting.{text_fits}
use Rattle.layshow.proofs.LineLaws.{line_put}
use Rattle.layshow.proofs.put_record.Goals as goal

pub after-requires : goal.after-requires
after-requires c =
    omega (arith, text_fits _ _ c.record.ensures.answer c.record.ensures.out, c.record.auto.out)

pub returns : goal.returns
returns c =
    line_put c.args.out.now c.args.at _ c.requires _ c.record.ensures.answer c.record.ensures.out c.record.auto.out c.after.ensures
