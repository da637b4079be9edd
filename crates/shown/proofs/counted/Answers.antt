-- `shown::counted` meets its contract: after table and side file the answer is that of the question by the job.
use mathlib.Core.Path.{ap₂, ◌∙◌}
use mathlib.Core.List.{[], ◌∷◌}
use borrow.Author.Rules.{rules}
use lib.IntN.{ℤ}
use mir.Syntax.{w64}
use mir.ValLaws.{to_z-of_z}
use Rattle.records.specs.Jobs.{many_by}
use Rattle.records.proofs.JobLaws.{many_refused}
use Rattle.shown.specs.Counted.{many_in}
use Rattle.shown.proofs.counted.Goals as goal

pub returns : goal.returns
unfolding many_in
returns c =
    let asked =
    c.many_by.ensures
    ∙ many_refused _ _ _
    ∙ ap₂ (λ (x y : ℤ). many_by c.formed_job-formed.result c.chain_or_none-c.result (x ∷ y ∷ [])) (to_z-of_z w64 c.args.a c.ranges.a) (to_z-of_z w64 c.args.b c.ranges.b)
    in
    search rules
