-- `laywrite::each_line`: after each line, what waits are records of accepted drafts.
use Rattle.std.proofs.Common.{◌≡◌, length}
use Rattle.records.specs.LogRecords.{log_bytes}
use Rattle.laywrite.specs.Waiting.{HoldRecords}
use Rattle.laywrite.proofs.each_line.Given as goal

abbrev pub invariant-loop-line : goal.invariant-loop-line
invariant-loop-line g l = HoldRecords l.out l.records × ((length l.out ≡ length l.initial.out) × ((length l.buffer ≡ length l.initial.buffer) × (length l.bytes ≡ log_bytes)))
