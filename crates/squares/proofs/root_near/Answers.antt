-- `squares::root_near` meets its contract: a step from any number but 0 lands at the root or above it, and `settled` goes on there.
use Prim.Native.Nat.{◌%◌, ◌^◌}
use mathlib.Core.Path.{sym, ap, ◌∙◌}
use native.Mathlib.Omega.{arith}
use Rattle.squares.specs.Root.{root}
use Rattle.squares.proofs.Newton.{step_above, quotient_halved}
use Rattle.squares.proofs.root_near.Goals as goal

pub returns-then-n-eq0 : goal.returns-then-n-eq0
unfolding root
returns-then-n-eq0 c = c.if-n-eq0.true ∙ sym (ap root c.if-n-eq0.true)

pub overflow_add-r : goal.overflow_add-r
overflow_add-r c =
    let a = c.args in
    omega (arith, quotient_halved a.n (a.near % 4294967296) (2 ^ 63) (omega arith) (omega arith))

pub settled-requires : goal.settled-requires
settled-requires c = (omega arith, step_above _ _ (omega arith))
