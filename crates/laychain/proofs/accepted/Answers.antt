-- `laychain::accepted` is true if no line before was refused, and this one is not.
use Rattle.std.proofs.Common.{◌&&◌, sym, ap, ◌∙◌}
use mathlib.Core.Bool.{and-true, and-false}
use Rattle.laychain.specs.declared.Verdict.{Verdict}
use Rattle.laychain.specs.Tables.{is_well}
use Rattle.laychain.proofs.accepted.Goals as goal

pub returns-in-Chain : goal.returns-in-Chain
unfolding is_well
returns-in-Chain c = sym (ap (λ (v : Verdict). c.args.well && is_well v) c.in-Chain.is ∙ and-true c.args.well)

pub returns-in-Passed : goal.returns-in-Passed
unfolding is_well
returns-in-Passed c = sym (ap (λ (v : Verdict). c.args.well && is_well v) c.in-Passed.is ∙ and-true c.args.well)

pub returns-in-Refused : goal.returns-in-Refused
unfolding is_well
returns-in-Refused c = sym (ap (λ (v : Verdict). c.args.well && is_well v) c.in-Refused.is ∙ and-false c.args.well)
