-- `shown::is_rounded_back` meets its contract: the number is made as it is written, and read with its mark.
use mathlib.Core.Path.{ap, ◌∙◌}
use mir.Syntax.{w64}
use mir.ValLaws.{to_z-of_z}
use Rattle.metres.specs.declared.MarkedWhole.{MarkedWhole}
use Rattle.metres.specs.declared.LengthFigures.{LengthFigures}
use Rattle.metres.specs.Metres.{metres_of, length_figures}
use Rattle.metres.specs.Marks.{mark_of, marked_of, is_rounded}
use Rattle.shown.proofs.is_rounded_back.Goals as goal

pub returns : goal.returns
unfolding marked_of
returns c =
    let z = to_z-of_z w64 c.args.z c.ranges.z in
    let number = c.length_figures-f.ensures ∙ ap length_figures (c.metres.ensures.answer ∙ ap metres_of z) in
    c.is_rounded.ensures
    ∙ ap (λ (m : MarkedWhole). is_rounded m.mark) c.marked.ensures
    ∙ ap (λ (f : LengthFigures). is_rounded (mark_of f.metres)) number
