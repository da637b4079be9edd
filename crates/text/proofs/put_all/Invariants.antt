-- `text::put_all` meets its contract: each turn puts one byte more of the text.
use Prim.Native.Nat.{◌+◌}
use lib.ListN.{take}
use Rattle.text.specs.Puts.{Put}
use Rattle.text.proofs.put_all.Given as goal

abbrev pub invariant-loop-i : goal.invariant-loop-i
invariant-loop-i l = Put l.initial.out l.at (take l.i l.s) l.out (l.at + l.i)
