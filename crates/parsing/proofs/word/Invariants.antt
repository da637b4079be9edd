-- `parsing::word` meets its contract: each turn of the loop passes one word.
use Prim.Native.Nat.{◌+◌, ◌-◌, ◌≤◌}
use mathlib.Core.Path.{◌≡◌}
use lib.ListN.{length, drop}
use Rattle.parsing.specs.Words.{word_at, start_at}
use Rattle.parsing.proofs.word.Given as goal

abbrev pub invariant-loop-passed : goal.invariant-loop-passed
invariant-loop-passed l = (l.at ≤ length l.s) × ((word_at (l.i - l._passed) (drop l.at l.s) ≡ word_at l.i l.s) × (l.at + start_at (l.i - l._passed) (drop l.at l.s) ≡ start_at l.i l.s))
