-- `metres::is_rounded` meets its contract, mark by mark.
use mathlib.Core.Path.{◌≡◌, refl, ◌∙◌}
use mathlib.Core.Bool.{not}
use denote.Enum.Bare.{sameb}
use Rattle.metres.specs.contracts.Mark.{the_type}
use Rattle.metres.specs.declared.Mark.{Mark}
use Rattle.metres.specs.declared.Mark.TheVariants.{Equal, Below, Above}
use Rattle.metres.specs.Marks.{is_rounded}
use Rattle.metres.proofs.is_rounded.Goals as goal

differs : (mark : Mark) → not (sameb the_type mark Equal) ≡ is_rounded mark
unfolding is_rounded
differs Equal = refl
differs Below = refl
differs Above = refl

pub returns : goal.returns
returns c = c.ne.ensures ∙ differs c.args.mark
