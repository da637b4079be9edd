-- `fields::four_at` meets its contract: the four bytes after `at` are those of the field, and if they are not there the field is outside.
use native.Mathlib.Omega.{arith}
use mathlib.Core.Path.{sym, ap, ◌∙◌}
use Rattle.std.specs.Prelude.{Some}
use Rattle.fields.proofs.Words.{none_past, some_first, first_long, value_four}
use Rattle.fields.proofs.four_at.Goals as goal

pub returns-in_err-get : goal.returns-in_err-get
returns-in_err-get c = c.from_residual.ensures ∙ sym (none_past 4 c.args.s.now c.args.at (omega (arith, c.in_err-get.ensures.lookup.0)))

pub returns-in_err-bytes : goal.returns-in_err-bytes
returns-in_err-bytes c = c.from_residual-in_err-bytes.ensures ∙ sym (none_past 4 c.args.s.now c.args.at (omega (arith, c.in_err-bytes.ensures.cases, c.in_ok-get.ensures.lookup.0)))

pub returns : goal.returns
returns c =
    let tail = c.in_ok-get.ensures.lookup.0 in
    let first = c.in_ok-bytes.ensures.cases in
    ap Some (c.from_le_bytes.ensures ∙ value_four c.in_ok-bytes.bytes.now (first_long 4 c.in_ok-get.field-0.now c.in_ok-bytes.bytes.now first))
    ∙ sym (some_first 4 c.args.s.now c.args.at c.in_ok-get.field-0.now c.in_ok-bytes.bytes.now tail.0 tail.2 first)
