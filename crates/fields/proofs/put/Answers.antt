-- `fields::put` meets its contract: nothing changes if the bytes do not lie inside the slice, and else they take their place in it.
use mathlib.Core.Path.{sym, ◌∙◌}
use Rattle.fields.proofs.Words.{bytes_put, none_put}
use Rattle.fields.proofs.put.Goals as goal

pub returns-then-not-lies_inside-clause-buffer : goal.returns-then-not-lies_inside-clause-buffer
returns-then-not-lies_inside-clause-buffer c width n e =
    none_put width n c.args.at c.args.s.now c.args.bytes.now e (sym c.lies_inside.ensures ∙ c.if-not-lies_inside.true)

pub returns-clause-buffer : goal.returns-clause-buffer
returns-clause-buffer c width n e =
    bytes_put width n c.args.at c.args.s.now c.args.bytes.now _ e (sym c.lies_inside.ensures ∙ c.if-not-lies_inside.false) c.copy_from_slice.ensures.after
