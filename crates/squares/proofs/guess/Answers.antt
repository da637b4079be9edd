-- `squares::guess` meets its contract. s is half the number of binary digits of n, so n / 2 ^ s is below 2 ^ (s + 1) and nothing
-- wraps; the mean of this quotient and 2 ^ s is Newton's step from 2 ^ s.
use Prim.Native.Nat.{ℕ, ◌+◌, ◌-◌, ◌*◌, ◌/◌, ◌%◌, ◌^◌, ◌≤◌, ◌<◌}
use mathlib.Core.Path.{◌≡◌, ◌∙◌, subst⁻¹}
use native.Mathlib.Omega.{arith}
use native.Mathlib.Nat.{one-mul, lt_of_lt_of_le}
use lib.Pow.{shr_lt, pow_pos, pow_mono, shl_exact}
use lib.Count.{count_leading_zeros, leading_le, leading_length}
use Rattle.squares.proofs.Newton.{step_above}
use Rattle.squares.proofs.guess.Goals as goal

abbrev half : ℕ → ℕ
half n = (64 - count_leading_zeros 64 n) / 2

quotient_small : (n : ℕ) → n < 2 ^ 64 → n / 2 ^ half n < 2 ^ 33
quotient_small n h =
    let digits = leading_length 64 n h in
    let s : ℕ = half n in
    let even : digits.0 ≤ (s + 1) + s = omega (arith, digits.1) in
    lt_of_lt_of_le (shr_lt (s + 1) s (lt_of_lt_of_le digits.2 (pow_mono even))) (pow_mono {j = 33} (omega arith))

power_small : (n : ℕ) → 2 ^ half n ≤ 2 ^ 32
power_small n = pow_mono {j = 32} (omega arith)

shifted : (n : ℕ) → 1 * 2 ^ half n % 2 ^ 64 ≡ 2 ^ half n
shifted n = shl_exact 1 (half n) 64 (omega arith) (omega arith) ∙ one-mul (2 ^ half n)

pub overflow_sub-s : goal.overflow_sub-s
overflow_sub-s c = leading_le 64 c.args.n

pub overflow_add-result : goal.overflow_add-result
overflow_add-result c = omega (arith, shifted c.args.n, power_small c.args.n, quotient_small c.args.n c.ranges.n.fits)

pub returns : goal.returns
returns c =
    let n = c.args.n in
    let p : ℕ = 2 ^ half n in
    subst⁻¹
    (λ (x : ℕ). (n < ((x + n / p) / 2 + 1) * ((x + n / p) / 2 + 1)) × ((x + n / p) / 2 ≤ 2 ^ 33))
    (shifted n)
    (step_above n p (pow_pos (half n)), omega (arith, power_small n, quotient_small n c.ranges.n.fits))
