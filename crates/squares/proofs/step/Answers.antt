-- `squares::step` meets its contract: the sum fits since the quotient is near the guess, and the result is not below the root.
use Prim.Native.Nat.{◌+◌, ◌/◌, ◌≤◌}
use mathlib.Core.Path.{refl}
use native.Mathlib.Omega.{arith}
use Rattle.squares.proofs.Newton.{step_above, quotient_near, not_zero}
use Rattle.squares.proofs.step.Goals.{Start}
use Rattle.squares.proofs.step.Goals as goal

pub nonzero_div-result : goal.nonzero_div-result
nonzero_div-result c = not_zero c.args.n c.args.r c.requires.0 c.requires.1

near : (c : Start) → c.args.n / c.args.r ≤ c.args.r + 2
near c = quotient_near c.args.n c.args.r (nonzero_div-result c) c.requires.1

pub overflow_add-result : goal.overflow_add-result
overflow_add-result c = omega (arith, near c)

pub returns : goal.returns
returns c = (refl, step_above c.args.n c.args.r (nonzero_div-result c), omega (arith, near c))
