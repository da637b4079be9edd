-- `chart::less` meets its contract: both ranges are small, so the signed difference is the exact one.
use mathlib.Core.Path.{◌∙◌}
use mir.Syntax.{w64}
use mir.ValLaws.{to_z-of_z}
use Rattle.chart.proofs.Differences.{difference, difference_fits}
use Rattle.chart.proofs.less.Goals as goal

pub overflow_sub-result : goal.overflow_sub-result
overflow_sub-result c = difference_fits c.args.a c.args.b c.requires.0 c.requires.1

pub returns : goal.returns
returns c = to_z-of_z w64 _ (overflow_sub-result c) ∙ difference c.args.a c.args.b c.requires.0 c.requires.1
