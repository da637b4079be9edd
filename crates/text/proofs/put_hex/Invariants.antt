-- `text::put_hex` meets its contract: each turn puts the digits of one more byte.
use lib.ListN.{take}
use Rattle.text.specs.Texts.{hex_of}
use Rattle.text.specs.Puts.{Put}
use Rattle.text.proofs.put_hex.Given as goal

abbrev pub invariant-loop-b : goal.invariant-loop-b
invariant-loop-b l = Put l.initial.out l.at (hex_of (take l.b-index l.s)) l.out l.end
