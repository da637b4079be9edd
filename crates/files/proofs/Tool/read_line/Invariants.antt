-- What is before `kept` stays. A read of no bytes ends the loop, and any other leaves fewer to read.
use Rattle.std.proofs.Common.{◌-◌, ◌≡◌, ◌≤◌, length, take}
use Rattle.files.proofs.Tool.read_line.Given as goal

abbrev pub invariant-loop-end : goal.invariant-loop-end
invariant-loop-end g l =
    (l.kept ≤ l.end) × ((l.end ≤ length l.buffer) × ((length l.buffer ≡ length l.initial.buffer) × (take l.kept l.buffer ≡ take l.kept l.initial.buffer)))

abbrev pub decreases-loop-end : goal.decreases-loop-end
decreases-loop-end g l = length l.initial.buffer - l.end
