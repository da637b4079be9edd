-- `squares::settled` meets its contract. The guess stays at or above the root and goes down while its square is too large;
-- once the square is not too large, the guess satisfies the law of the root.
use native.Mathlib.Omega.{arith}
use native.Mathlib.Nat.{mul-le-mul}
use Rattle.squares.proofs.RootLaws.{root_unique}
use Rattle.squares.proofs.Newton.{step_falls}
use Rattle.squares.proofs.settled.Goals as goal

pub overflow_mul-r : goal.overflow_mul-r
overflow_mul-r c = omega (arith, mul-le-mul c.loop-r.invariant.1 c.loop-r.invariant.1)

pub step-r-requires : goal.step-r-requires
step-r-requires c = omega arith

pub loop-r-smaller : goal.loop-r-smaller
loop-r-smaller c =
    let n = c.args.n in
    omega (arith, c.step-r.ensures.0, step_falls n c.loop-r.r c.loop-r-test.true)

pub loop-r-preserved : goal.loop-r-preserved
loop-r-preserved c = (c.step-r.ensures.1, omega (arith, loop-r-smaller c))

pub returns : goal.returns
returns c = root_unique _ _ (record { low = c.loop-r-test.false; high = c.loop-r.invariant.0 })
