-- What the private functions of this crate promise each other about a log record. No public contract uses it.
use Rattle.std.specs.Prelude.{cond, Result}
use Rattle.refusals.specs.declared.Refusal.{Refusal}
use Rattle.metres.specs.declared.Mark.{Mark}
use Rattle.metres.specs.declared.Mark.TheVariants.{Equal}
use Rattle.records.specs.declared.LogEntry.{LogEntry}
use Rattle.records.specs.declared.MarkedEntry.{MarkedEntry}
use Rattle.records.specs.Marks.{is_accepted}

-- The entry of a record with the marks of its two numbers, if it is accepted.
unfoldable pub marked_as : Result LogEntry Refusal → Mark → Mark → MarkedEntry
marked_as e x y = record { entry = e; first = cond (is_accepted e) x Equal; second = cond (is_accepted e) y Equal }
