-- `layshow::put_scale` puts the line of a side file into its room.
use native.Mathlib.Omega.{arith}
use Rattle.shown.proofs.Fitting.{text_fits}
use Rattle.layshow.proofs.LineLaws.{line_put}
use Rattle.layshow.proofs.put_scale.Goals as goal

pub after-requires : goal.after-requires
after-requires c =
    omega (arith, text_fits _ _ c.scale.ensures.answer c.scale.ensures.out, c.scale.auto.out)

pub returns : goal.returns
returns c =
    line_put c.args.out.now c.args.at _ c.requires _ c.scale.ensures.answer c.scale.ensures.out c.scale.auto.out c.after.ensures
