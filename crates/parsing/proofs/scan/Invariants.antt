-- `parsing::scan` meets its contract: each turn of the loop passes one byte.
use Prim.Native.Nat.{ℕ, ◌+◌}
use mathlib.Core.Path.{◌≡◌}
use mathlib.Core.Bool.{Bool}
use lib.ListN.{drop}
use Rattle.parsing.specs.Words.{run}
use Rattle.parsing.specs.Scanning.{Tests}
use Rattle.parsing.proofs.scan.Given as goal

abbrev pub invariant-loop-i : goal.invariant-loop-i
invariant-loop-i g l = (test : ℕ → Bool) → Tests (goal.F-post g l.such) test → l.i + run test (drop l.i l.s) ≡ l.from + run test (drop l.from l.s)
