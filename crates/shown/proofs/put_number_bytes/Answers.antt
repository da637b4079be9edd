-- `shown::put_number_bytes` meets its contract: a number put into eight bytes leaves exactly its own bytes there.
use mathlib.Core.Path.{ap, ◌∙◌}
use native.Mathlib.Omega.{arith}
use mir.Syntax.{w64}
use mir.ValLaws.{to_z-of_z}
use Rattle.fields.specs.Fields.{bytes_of}
use Rattle.fields.proofs.FieldLaws.{length_bytes}
use Rattle.metres.specs.declared.LengthFigures.{LengthFigures}
use Rattle.metres.specs.Metres.{metres_of, length_figures}
use Rattle.metres.specs.Patterns.{pattern_of}
use Rattle.writing.specs.Writing.{in_metres, metres_bytes}
use Rattle.text.specs.Texts.{hex_of}
use Rattle.text.proofs.HexLaws.{length_hex}
use lib.ListN.{length}
use Rattle.shown.proofs.ShownLaws.{puts_as, puts_few, puts_put, put_filled}
use Rattle.shown.proofs.put_number_bytes.Goals as goal

pub returns : goal.returns
returns c =
    let z = c.args.z in
    let metres = c.length_figures-f.ensures ∙ ap length_figures (c.metres.ensures.answer ∙ ap metres_of (to_z-of_z w64 z c.ranges.z)) in
    let text = ap hex_of (c.put_number.ensures.buffer ∙ put_filled 8 _ _ (omega arith) ∙ ap (λ (f : LengthFigures). bytes_of 8 (pattern_of f.metres)) metres) in
    puts_few (puts_as text (puts_put c.put_bytes.ensures.end c.put_bytes.ensures.out)) (omega (arith, ap length text, length_hex (metres_bytes z), length_bytes 8 (pattern_of (in_metres z))))
