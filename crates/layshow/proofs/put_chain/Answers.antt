-- `layshow::put_chain` puts the line of a chain into its room.
use native.Mathlib.Omega.{arith}
use Rattle.shown.proofs.Fitting.{text_fits}
use Rattle.layshow.proofs.LineLaws.{line_put}
use Rattle.layshow.proofs.put_chain.Goals as goal

pub after-requires : goal.after-requires
after-requires c =
    omega (arith, text_fits _ _ c.chain.ensures.answer c.chain.ensures.out, c.chain.auto.out)

pub returns : goal.returns
returns c =
    line_put c.args.out.now c.args.at _ c.requires _ c.chain.ensures.answer c.chain.ensures.out c.chain.auto.out c.after.ensures
