-- The arguments before `i` are the words of the line up to `end`.
use Rattle.std.proofs.Common.{◌-◌, ◌≤◌, length, take}
use Rattle.files.specs.Answers.{AreWords}
use Rattle.files.proofs.joining.joined.Given as goal

abbrev pub invariant-loop-i : goal.invariant-loop-i
invariant-loop-i g l =
    (l.i - 1 ≤ l.count - 1) × ((l.end ≤ length l.line) × AreWords (l.i - 1) (take l.end l.line))
