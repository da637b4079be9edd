-- `laywrite::ended` answers according to what comes next.
use Rattle.std.proofs.Common.{sym, ap, ◌∙◌}
use Rattle.files.specs.declared.Input.{Input}
use Rattle.laywrite.specs.Waiting.{ended_by}
use Rattle.laywrite.proofs.WaitLaws.{not_kept}
use Rattle.laywrite.proofs.ended.Goals as goal

pub returns-in-Cut : goal.returns-in-Cut
unfolding ended_by
returns-in-Cut g c =
    let a = c.args in
    c.cut.ensures ∙ sym (ap (λ (i : Input). ended_by i a.records a.keyboard) c.in-Cut.is)

pub returns-in-End : goal.returns-in-End
unfolding ended_by
returns-in-End g c =
    let a = c.args in
    c.kept.ensures ∙ sym (ap (λ (i : Input). ended_by i a.records a.keyboard) c.in-End.is)

pub returns-in_default : goal.returns-in_default
returns-in_default g c =
    let a = c.args in
    c.kept-in_default.ensures ∙ not_kept a.input a.records a.keyboard c.in_default.not-Cut c.in_default.not-End
