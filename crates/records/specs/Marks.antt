-- How the numbers of a log record were rounded on the way to centimetres (02, A1).
use Rattle.std.specs.Prelude.{ℕ, Bool, true, false, cond, ◌||◌, List, [], ◌∷◌, map, Float, get_or, Result, Ok, Err}
use Rattle.refusals.specs.declared.Refusal.{Refusal}
use Rattle.metres.specs.declared.Mark.{Mark}
use Rattle.metres.specs.declared.Mark.TheVariants.{Equal}
use Rattle.metres.specs.Marks.{mark_of, is_rounded}
use Rattle.records.specs.declared.LogRecord.{LogRecord}
use Rattle.records.specs.declared.LogRecord.TheVariants as log
use Rattle.records.specs.declared.LogEntry.{LogEntry}
use Rattle.records.specs.declared.MarkedEntry.{MarkedEntry}
use Rattle.records.specs.LogRecords.{log_record_of, in_centimetres}

-- The numbers that a record uses, in metres.
unfoldable pub numbers_used : Result LogRecord Refusal → List Float
numbers_used (Ok (log.Hyperbolic a b)) = a ∷ b ∷ []
numbers_used (Ok (log.Grid e n)) = e ∷ n ∷ []
numbers_used (Ok log.Hold) = []
numbers_used (Err why) = []

-- Whether a record is accepted by itself.
unfoldable pub is_accepted : Result LogEntry Refusal → Bool
is_accepted (Ok e) = true
is_accepted (Err why) = false

-- The marks of these numbers, in their order. A record that is refused has none.
unfoldable pub marks_of : Result LogRecord Refusal → List Mark
marks_of r = cond (is_accepted (in_centimetres r)) (map mark_of (numbers_used r)) []

-- Something was lost: one of the numbers with these marks was rounded.
unfoldable pub any_rounded : List Mark → Bool
any_rounded [] = false
any_rounded (m ∷ ms) = is_rounded m || any_rounded ms

-- The same of the bytes of a record.
abbrev pub is_rounded_in : List ℕ → Bool
is_rounded_in s = any_rounded (marks_of (log_record_of s))

-- A log record in whole centimetres, with the marks of its two numbers: `Equal` where there is none.
unfoldable pub with_marks_of : Result LogRecord Refusal → MarkedEntry
with_marks_of r = record { entry = in_centimetres r; first = get_or (marks_of r) 0 Equal; second = get_or (marks_of r) 1 Equal }

unfoldable pub marked_entry_of : List ℕ → MarkedEntry
marked_entry_of s = with_marks_of (log_record_of s)
