-- A number is exact if and only if it is a whole number of quarters of a metre: 100 times it is a whole number, 25 is odd, and its
-- denominator is a power of 2.
use Prim.Native.Nat.{ℕ, zero, suc, ◌+◌, ◌*◌, ◌/◌, ◌%◌, ◌^◌, ◌<◌}
use mathlib.Core.Path.{◌≡◌, refl, sym, ap, ◌∙◌, subst}
use mathlib.Core.Logic.{◌↔◌}
use mathlib.Core.Bool.{Bool, true}
use native.Mathlib.Nat.{mul_assoc, mul_left_comm, pow-succ', div-add-mod', mod-lt}
use native.Mathlib.Omega.{arith}
use lib.IntN.{ℤ, pos, negsuc, nat_abs, ◌*ℤ◌}
use lib.Ieee.{fin, up, down}
use lib.Ieee.Fits.{down_pos}
use Rattle.std.specs.Prelude.{Option, Some, None}
use Rattle.metres.specs.declared.Mark.TheVariants.{Equal}
use Rattle.metres.specs.Metres.{signed, hundredfold, centimetres_of}
use Rattle.metres.specs.Nearest.{MayAnswer}
use Rattle.metres.specs.Marks.{as_parts, exact_parts, mark_of}
use Rattle.metres.proofs.Rounding.{Near, less_than_half}
use Rattle.metres.proofs.Answers.{times, size_signed, from_near, answers, answers_only}
use Rattle.metres.proofs.MarkLaws.{mark_says}

doubled : (w j : ℕ) → w * 2 ^ suc j ≡ 2 * (w * 2 ^ j)
doubled w j = ap (λ (p : ℕ). w * p) (pow-succ' 2 j) ∙ mul_left_comm w 2 (2 ^ j)

-- No number is odd and even.
odd_or_even : (q p : ℕ) → 2 * q + 1 ≡ 2 * p → ⊥
odd_or_even q zero h = omega arith
odd_or_even zero (suc p) h = omega arith
odd_or_even (suc q) (suc p) h = odd_or_even q p (omega arith)

-- If 25 times a number is even, the number is.
even_factor : (a p : ℕ) → 25 * a ≡ 2 * p → a ≡ 2 * (a / 2)
even_factor a p h = go (a % 2) refl
  where
    go : (r : ℕ) → a % 2 ≡ r → a ≡ 2 * (a / 2)
    go zero e = omega (arith, div-add-mod' a 2)
    go (suc zero) e = absurd (odd_or_even (25 * (a / 2) + 12) p (omega (arith, h, div-add-mod' a 2)))
    go (suc (suc r)) e =
        let small : a % 2 < 2 = mod-lt a (omega arith) in
        absurd (omega arith)

-- If 25 times a number is a multiple of a power of 2, the number is.
odd_factor : (j a w : ℕ) → 25 * a ≡ w * 2 ^ j → (k : ℕ) × (a ≡ k * 2 ^ j)
odd_factor zero a w h = (a, omega arith)
odd_factor (suc j) a w h =
    let even = even_factor a (w * 2 ^ j) (h ∙ doubled w j) in
    let rest = odd_factor j (a / 2) w (omega (arith, h, doubled w j, even)) in
    (rest.0, omega (arith, even, rest.1, doubled rest.0 j))

-- A denominator is a power of 2.
quarters_of : (a w : ℕ) (e : ℤ) → 25 * a ≡ w * down e → (k : ℕ) × (a ≡ k * down e)
quarters_of a w (pos n) h = (a, omega arith)
quarters_of a w (negsuc n) h = odd_factor (suc n) a w h

size_times : (z : ℤ) (d : ℕ) → nat_abs (z *ℤ pos d) ≡ nat_abs z * d
size_times (pos n) d = refl
size_times (negsuc n) d = size_signed true (suc n * d)

-- An exact number is a whole number of quarters.
to_quarters : (s : Bool) (m : ℕ) (e z : ℤ) → exact_parts s m e ≡ as_parts e z → (k : ℕ) × (4 * (m * up e) ≡ k * down e)
to_quarters s m e z h =
    let size : hundredfold m e ≡ nat_abs z * down e = sym (size_signed s (hundredfold m e)) ∙ ap nat_abs h ∙ size_times z (down e) in
    quarters_of (4 * (m * up e)) (nat_abs z) e (omega (arith, size))

-- A whole number k of quarters has 25 k centimetres, exactly.
near_itself : (b n : ℕ) → 0 < b → Near (n * b) b n
near_itself b n some = less_than_half (n * b) b n (omega arith)

value : Option ℤ → ℤ
value (Some z) = z
value None = pos 0

from_quarters : (s : Bool) (m : ℕ) (e z : ℤ) (k : ℕ) → centimetres_of (fin s m e) ≡ Some z → 4 * (m * up e) ≡ k * down e → exact_parts s m e ≡ as_parts e z
unfolding value
from_quarters s m e z k h q =
    let n = 25 * k in
    let exact : hundredfold m e ≡ n * down e = omega (arith, q, mul_assoc 25 k (down e)) in
    let readable = (subst (MayAnswer (fin s m e)) h (answers (fin s m e))).0 in
    let near = subst (λ (y : ℕ). Near y (down e) n) (sym exact) (near_itself (down e) n (down_pos e)) in
    let same : signed s n ≡ z = ap value (answers_only (fin s m e) (Some (signed s n)) (readable, from_near s m e n near) ∙ h) in
    ap (signed s) exact ∙ sym (times s n (down e)) ∙ ap (as_parts e) same

pub quarters : (s : Bool) (m : ℕ) (e z : ℤ) → centimetres_of (fin s m e) ≡ Some z →
    (mark_of (fin s m e) ≡ Equal) ↔ ((k : ℕ) × (4 * (m * up e) ≡ k * down e))
quarters s m e z h =
    let says = mark_says (fin s m e) (Some z) h Equal in
    ((λ q. to_quarters s m e z (says.0 q)), (λ q. says.1 (from_quarters s m e z q.0 h q.1)))
