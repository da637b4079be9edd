-- `shown::put_record` meets its contract: the fields of the record, or nothing.
use mathlib.Core.Path.{sym, ap, ◌∙◌}
use Rattle.shown.specs.Lines.{raw_fields}
use Rattle.shown.proofs.ShownLaws.{puts_none, puts_as}
use Rattle.shown.proofs.put_record.Goals as goal

pub returns-in-Ok : goal.returns-in-Ok
unfolding raw_fields
returns-in-Ok c = puts_as (ap raw_fields (sym c.in-Ok.is ∙ c.raw_record.ensures)) c.put_raw.ensures

pub returns-in-Err : goal.returns-in-Err
unfolding raw_fields
returns-in-Err c = puts_as (ap raw_fields (sym c.in-Err.is ∙ c.raw_record.ensures)) (puts_none c.args.out.now c.args.at _)
