-- A number of 63 bits and its negative, among the signed numbers of 64 bits.
use Prim.Native.Nat.{ℕ, zero, suc, ◌<◌, ◌^◌}
use mathlib.Core.Path.{◌≡◌, ap, ◌∙◌, subst⁻¹}
use native.Mathlib.Omega.{arith}
use lib.Dec.{lit<}
use lib.IntN.{ℤ, pos, neg_ℤ, ◌-ℤ◌, +ℤ_idl}
use mir.Syntax.{w64}
use mir.Val.{SFits, to_z}
use mir.ValLaws.{to_z_pos}

-- 0 minus the number is its negative, which fits.
pub minus_is : (n : ℕ) → n < 2 ^ 63 → pos 0 -ℤ to_z w64 n ≡ neg_ℤ (pos n)
minus_is n small = ap (λ (z : ℤ). pos 0 -ℤ z) (to_z_pos w64 n (omega (arith, small))) ∙ +ℤ_idl (neg_ℤ (pos n))

pub minus-fits : (n : ℕ) → n < 2 ^ 63 → SFits w64 (pos 0 -ℤ to_z w64 n)
minus-fits n small = subst⁻¹ (SFits w64) (minus_is n small) (go n small)
  where
    go : (n : ℕ) → n < 2 ^ 63 → SFits w64 (neg_ℤ (pos n))
    go zero h = record { sfits = lit< tt }
    go (suc n) h = record { sfits = omega arith }
