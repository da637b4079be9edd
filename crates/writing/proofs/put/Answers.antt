-- `writing::put` meets its contract: each field is put into zeros, and together they are the record.
use Prim.Native.Nat.{ℕ}
use mathlib.Core.Path.{ap, ap₂, ◌∙◌}
use mathlib.Core.List.{List}
use lib.Ieee.{Float}
use lib.ListN.{set}
use mir.Syntax.{w64}
use mir.ValLaws.{to_z-of_z}
use Rattle.fields.specs.Fields.{put_at}
use Rattle.metres.specs.Patterns.{put_number_at}
use Rattle.writing.specs.Writing.{in_metres}
use Rattle.writing.proofs.WriteLaws.{put_together}
use Rattle.writing.proofs.put.Goals as goal

pub returns : goal.returns
returns c =
    let d = c.args.d in
    let x = c.in_metres-x.ensures ∙ ap in_metres (to_z-of_z w64 d.x (record { sfits = c.struct_told-1.given.1.1.1.0.1 })) in
    let y = c.in_metres-y.ensures ∙ ap in_metres (to_z-of_z w64 d.y (record { sfits = c.struct_told-2-1.given.1.1.1.1.0.1 })) in
    let to-line = c.put_four.ensures.buffer ∙ ap (λ (s : List ℕ). put_at 4 (set (set s 0 d.kind) 1 d.chain) 4 d.line) c.requires.0 in
    let to-first = c.put_number.ensures.buffer ∙ ap₂ (λ (s : List ℕ) (f : Float). put_number_at s 8 f) to-line x in
    c.put_number-2.ensures.buffer ∙ ap₂ (λ (s : List ℕ) (f : Float). put_number_at s 16 f) to-first y ∙ put_together d
