-- From exactly 100 times a number of metres to its centimetres, or to the refusal. Equal fractions round to the same number.
use Prim.Native.Nat.{ℕ, ◌*◌, ◌^◌}
use mathlib.Core.Path.{◌≡◌, refl, sym, ap, ap₂, ◌∙◌}
use mathlib.Core.Bool.{Bool}
use native.Mathlib.Nat.{mul_assoc}
use lib.Pow.{pow_pos}
use lib.IntN.{ℤ}
use lib.Ieee.{Float, nan, inf, fin, up, down}
use lib.Ieee.Exact.{HasValue}
use lib.Ieee.Fits.{down_pos}
use lib.Ieee.Nearest.{closest, closest_same}
use Rattle.std.specs.Prelude.{Some, None}
use Rattle.metres.specs.declared.hundredfold.Hundredfold.{Hundredfold}
use Rattle.metres.specs.Metres.{signed, hundredfold, centimetres_of}
use Rattle.metres.specs.Hundredfolds.{IsHundredfold}
use Rattle.metres.proofs.Answers.{given, refused}

-- A number whose hundredfold is refused is refused.
pub of_refused : (x : Float) → IsHundredfold x None → None ≡ centimetres_of x
unfolding centimetres_of
of_refused nan h = refl
of_refused (inf s) h = refl
of_refused (fin s m e) h = sym (refused s m e h)

-- A number with an exact hundredfold has the centimetres that this rounds to.
pub of_exact : (x : Float) (h : Hundredfold) → IsHundredfold x (Some h) → Some (signed h.minus (closest h.parts (2 ^ h.halvings))) ≡ centimetres_of x
of_exact nan h is = absurd is
of_exact (inf s) h is = absurd is
of_exact (fin s m e) h is =
    sym
    (given s m e is.readable
    ∙ ap₂ (λ (t : Bool) (n : ℕ). Some (signed t n)) (sym is.sign)
    (closest_same (hundredfold m e) (down e) h.parts (2 ^ h.halvings) (down_pos e) (pow_pos h.halvings) is.exact))

-- The hundredfold of a number that is n / d.
pub hundredfold_value : (t s : Bool) (m n d : ℕ) (e : ℤ) → HasValue (fin t m e) s n d → hundredfold m e * d ≡ 100 * n * down e
hundredfold_value t s m n d e v = mul_assoc 100 (m * up e) d ∙ ap (λ (y : ℕ). 100 * y) v.1 ∙ sym (mul_assoc 100 n (down e))
