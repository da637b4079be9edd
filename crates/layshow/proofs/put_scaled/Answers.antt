-- `layshow::put_scaled` puts the chains with their factors, or without them and then the line of the side file.
use mathlib.Core.Bool.{Bool}
use mathlib.Core.Path.{sym, ap}
use Rattle.text.proofs.PutLaws.{put_as, put_then}
use Rattle.layshow.specs.Walks.{scaled_lines}
use Rattle.layshow.proofs.put_scaled.Goals as goal

pub returns-then-fits : goal.returns-then-fits
unfolding scaled_lines
returns-then-fits c =
    let a = c.args in
    put_as (ap (λ (t : Bool). scaled_lines t a.table.now a.scale.now) (sym c.if-fits.true)) c.put_chains.ensures.text

pub returns : goal.returns
unfolding scaled_lines
returns c =
    let a = c.args in
    put_as (ap (λ (t : Bool). scaled_lines t a.table.now a.scale.now) (sym c.if-fits.false)) (put_then c.put_chains-end.ensures.text c.put_scale.ensures.put)
