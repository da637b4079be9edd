-- `shown::put_written` meets its contract: the metres, the bytes and the flag, or that the reading cannot be written.
use mathlib.Core.Path.{◌≡◌, ap, ◌∙◌}
use native.Mathlib.Omega.{arith}
use lib.IntN.{ℤ, nat_abs}
use mir.Syntax.{w64}
use mir.Val.{to_z, of_z}
use mir.ValLaws.{to_z-of_z}
use Rattle.writing.specs.Writing.{metres_bytes}
use Rattle.text.specs.Texts.{hex_of, bytes_in, flag_text}
use Rattle.text.proofs.PutLaws.{flag_length}
use Rattle.shown.specs.Fields.{metres_text}
use Rattle.shown.specs.Expected.{is_rounded_back}
use Rattle.shown.proofs.ShownLaws.{puts_as, puts_few, puts_put, puts_both, written_refused, written_told}
use Rattle.shown.proofs.put_written.Goals.{Start}
use Rattle.shown.proofs.put_written.Goals as goal

-- Read back from its 64 bits, the argument is the same.
same : (c : Start) → to_z w64 (of_z w64 c.args.z) ≡ c.args.z
same c = to_z-of_z w64 c.args.z c.ranges.z

pub returns-then-size-gt-MOST_CENTIMETRES : goal.returns-then-size-gt-MOST_CENTIMETRES
unfolding bytes_in
returns-then-size-gt-MOST_CENTIMETRES c =
    let n = c.size.ensures ∙ ap nat_abs (same (goal.at.returns-then-size-gt-MOST_CENTIMETRES c).Start) in
    let text = written_refused c.args.z (omega (arith, n, c.if-size-gt-MOST_CENTIMETRES.true)) in
    puts_few (puts_as text (puts_put c.put.ensures.end c.put.ensures.out)) (omega arith)

pub returns : goal.returns
unfolding bytes_in
returns c =
    let z = c.args.z in
    let back = same (goal.at.returns c).Start in
    let n = c.size.ensures ∙ ap nat_abs back in
    let text = written_told z (omega (arith, n, c.if-size-gt-MOST_CENTIMETRES.false)) in
    let shown = puts_as (ap metres_text back) c.put_metres-b.ensures in
    let written = puts_as (ap (λ (y : ℤ). hex_of (metres_bytes y)) back) c.put_number_bytes-d.ensures in
    let last = puts_as (ap flag_text (c.is_rounded_back.ensures ∙ ap is_rounded_back back)) (puts_put c.put_flag.ensures.end c.put_flag.ensures.out) in
    puts_few
    (puts_as text (puts_both (puts_both (puts_put c.put-a.ensures.end c.put-a.ensures.out) shown) (puts_both (puts_both (puts_put c.put-c.ensures.end c.put-c.ensures.out) written) last)))
    (omega (arith, flag_length c.is_rounded_back.result))
