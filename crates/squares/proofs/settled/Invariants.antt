-- `squares::settled` meets its contract. The guess stays at or above the root and goes down while its square is too large;
-- once the square is not too large, the guess satisfies the law of the root.
use Prim.Native.Nat.{ℕ, ◌+◌, ◌*◌, ◌≤◌, ◌<◌}
use Rattle.squares.proofs.settled.Given as goal

-- The guess is not below the root, and its square fits in 64 bits.
abbrev Near : ℕ → ℕ → Type 0
Near n r = (n < (r + 1) * (r + 1)) × (r ≤ 4294967295)

abbrev pub invariant-loop-r : goal.invariant-loop-r
invariant-loop-r l = Near l.n l.r

abbrev pub decreases-loop-r : goal.decreases-loop-r
decreases-loop-r l = l.r
