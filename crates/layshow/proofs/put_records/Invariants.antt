-- `layshow::put_records` puts the lines of all records, in their order: at each turn those so far are put, and those of the rest
-- follow.
use Prim.Native.Nat.{ℕ}
use mathlib.Core.Path.{◌≡◌}
use lib.ListN.{length}
use Rattle.records.specs.LogRecords.{log_bytes}
use Rattle.layshow.specs.Walks.{record_line_at}
use Rattle.layshow.proofs.WalkLaws.{ShownTo}
use Rattle.layshow.proofs.put_records.Given as goal

abbrev pub invariant-loop-record : goal.invariant-loop-record
invariant-loop-record l =
    (l.record-iterator.size ≡ log_bytes)
    × ((number : ℕ) × ShownTo record_line_at log_bytes 0 (length l.initial.out) l.log l.initial.out l.record-iterator.rest.now number l.out l.end)
