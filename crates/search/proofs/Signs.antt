-- A reading from its size and its sign.
use Prim.Native.Nat.{ℕ}
use mathlib.Core.Path.{◌≡◌, ◌∙◌}
use mathlib.Core.Bool.{true, false, true≢false}
use native.Mathlib.Omega.{arith}
use borrow.Author.Tests.{ltb-true}
use lib.IntN.{ℤ, pos, negsuc, nat_abs, sub_ℕ}
use lib.Signed.{lt_z}
use Rattle.chart.proofs.Differing.{nothing_less, all_less}

-- A number below 0 is its size less than 0, and any other is its size.
pub below_is : (x z : ℤ) (n : ℕ) → x ≡ z → lt_z x (pos 0) ≡ true → n ≡ nat_abs x → sub_ℕ 0 n ≡ z
below_is (pos m) z n same less size = absurd (omega (arith, ltb-true m 0 less))
below_is (negsuc m) z n same less size = rw size (all_less m ∙ same)

pub above_is : (x z : ℤ) (n : ℕ) → x ≡ z → lt_z x (pos 0) ≡ false → n ≡ nat_abs x → sub_ℕ n 0 ≡ z
above_is (pos m) z n same less size = rw size (nothing_less m ∙ same)
above_is (negsuc m) z n same less size = absurd (true≢false less)
