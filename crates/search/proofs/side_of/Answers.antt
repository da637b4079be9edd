-- `search::side_of` meets its contract: 1 is shifted up by k bits, and no bit is lost.
use mathlib.Core.Path.{◌∙◌}
use native.Mathlib.Omega.{arith}
use native.Mathlib.Nat.{one-mul}
use lib.Dec.{lit<}
use lib.Pow.{shl_exact}
use Rattle.search.proofs.side_of.Goals as goal

pub returns : goal.returns
returns c = shl_exact {a = 1} 1 c.args.k 32 (lit< tt) (omega arith) ∙ one-mul _
