-- `records::eight_zero` meets its contract: a number of eight bytes is 0 exactly if all of them are.
use Prim.Native.Nat.{ℕ}
use mathlib.Core.Path.{ap, ◌∙◌}
use lib.Dec.{eqb}
use Rattle.records.proofs.ByteLaws.{zero_field}
use Rattle.records.proofs.eight_zero.Goals as goal

pub returns : goal.returns
returns c = ap (λ (n : ℕ). eqb n 0) c.eight.ensures ∙ zero_field 8 c.args.s.now c.args.at
