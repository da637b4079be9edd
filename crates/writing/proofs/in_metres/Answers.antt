-- `writing::in_metres` meets its contract: plus zero stands where there are no metres.
use mathlib.Core.Path.{◌≡◌, refl, ap, ◌∙◌}
use lib.Ieee.{Float, binary64, of_bits}
use mir.Syntax.{w64}
use mir.ValLaws.{to_z-of_z}
use Rattle.std.specs.Prelude.{Option, Some, None}
use Rattle.std.specs.Option.{unwrap_or}
use Rattle.metres.specs.Metres.{length_figures}
use Rattle.writing.specs.Writing.{in_metres}
use Rattle.writing.proofs.in_metres.Goals as goal

or_zero : (l : Option Float) → unwrap_or l (of_bits binary64 0) ≡ (length_figures l).metres
unfolding length_figures of_bits
or_zero (Some x) = refl
or_zero None = refl

pub returns : goal.returns
returns c =
    c.unwrap_or.ensures ∙ or_zero c.metres.result ∙ ap (λ (l : Option Float). (length_figures l).metres) c.metres.ensures.answer
    ∙ ap in_metres (to_z-of_z w64 c.args.c c.ranges.c)
