-- `parsing::value_from` meets its contract: each turn of the loop takes one more digit, until the number has more than 64 bits.
use Prim.Native.Nat.{◌^◌, ◌<◌}
use mathlib.Core.Path.{◌≡◌}
use lib.ListN.{drop}
use Rattle.text.specs.Texts.{numeral_from}
use Rattle.parsing.proofs.value_from.Given as goal

abbrev pub invariant-loop-b : goal.invariant-loop-b
invariant-loop-b l = (l.n < 2 ^ 64) × (numeral_from l.n (drop l.b-index l.w) ≡ numeral_from l.before l.w)
