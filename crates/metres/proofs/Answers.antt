-- `centimetres_of` gives an answer that `MayAnswer` allows, and no other answer is allowed.
-- A number and its centimetres have the same sign, so the sizes decide; if the signs differ, the centimetres are 0.
use Prim.Native.Nat.{ℕ, zero, suc, ◌+◌, ◌-◌, ◌*◌, ◌%◌, ◌≤◌, ◌<◌}
use mathlib.Core.Path.{◌≡◌, refl, sym, ap, ◌∙◌, subst, subst⁻¹}
use mathlib.Core.Bool.{Bool, true, false, cond}
use native.Mathlib.Nat.{zero-mul, suc-mul}
use native.Mathlib.Omega.{arith}
use lib.Dec.{ltb}
use lib.IntN.{ℤ, pos, negsuc, nat_abs, sub_ℕ, ◌-ℤ◌, ◌*ℤ◌}
use lib.Ieee.{Float, nan, inf, fin, up, down}
use lib.Ieee.Fits.{down_pos}
use lib.Ieee.Nearest.{closest}
use borrow.Author.Tests.{ltb-true, ltb-false, leb-true, leb-false, le-leb, lt-leb}
use Rattle.std.specs.Prelude.{Option, Some, None}
use Rattle.metres.specs.Metres.{most_metres, signed, is_readable, hundredfold, centimetres_of}
use Rattle.metres.specs.Nearest.{off, IsNearest, MayAnswer}
use Rattle.metres.proofs.Rounding.{Near, closest_near, near_only}

-- How far two sizes with signs lie apart.
abbrev gap : Bool → Bool → ℕ → ℕ → ℕ
gap false false x y = (x - y) + (y - x)
gap true true x y = (x - y) + (y - x)
gap false true x y = x + y
gap true false x y = x + y

size_sub : (x y : ℕ) → nat_abs (sub_ℕ x y) ≡ (x - y) + (y - x)
size_sub x y = go (ltb x y) refl
  where
    go : (t : Bool) → ltb x y ≡ t → nat_abs (cond t (negsuc (y - suc x)) (pos (x - y))) ≡ (x - y) + (y - x)
    go true e = omega (arith, ltb-true x y e)
    go false e = omega (arith, ltb-false x y e)

size_less : (t s : Bool) (x y : ℕ) → nat_abs (signed t x -ℤ signed s y) ≡ gap t s x y
size_less false false x zero = omega arith
size_less false false x (suc y) = size_sub x (suc y)
size_less true true zero zero = refl
size_less true true zero (suc y) = omega arith
size_less true true (suc x) zero = size_sub 0 (suc x) ∙ omega arith
size_less true true (suc x) (suc y) = size_sub (suc y) (suc x) ∙ omega arith
size_less false true x zero = refl
size_less false true x (suc y) = refl
size_less true false zero zero = refl
size_less true false zero (suc y) = size_sub 0 (suc y) ∙ omega arith
size_less true false (suc x) zero = size_sub 0 (suc x) ∙ omega arith
size_less true false (suc x) (suc y) = omega arith

pub times : (t : Bool) (n b : ℕ) → signed t n *ℤ pos b ≡ signed t (n * b)
times false n b = refl
times true zero b = rw (zero-mul b)
times true (suc n) b = refl

pub size_signed : (t : Bool) (n : ℕ) → nat_abs (signed t n) ≡ n
size_signed false n = refl
size_signed true zero = refl
size_signed true (suc n) = refl

off_is : (t s : Bool) (n m : ℕ) (e : ℤ) → off s m e (signed t n) ≡ gap t s (n * down e) (hundredfold m e)
off_is t s n m e = ap (λ (y : ℤ). nat_abs (y -ℤ signed s (hundredfold m e))) (times t n (down e)) ∙ size_less t s (n * down e) (hundredfold m e)

-- With the same sign, a number is nearest exactly if its size is near.
gap_same : (s : Bool) (x y : ℕ) → gap s s x y ≡ (x - y) + (y - x)
gap_same true x y = refl
gap_same false x y = refl

module _ (s : Bool) (m : ℕ) (e : ℤ) (n : ℕ) where
  off_same : off s m e (signed s n) ≡ (n * down e - hundredfold m e) + (hundredfold m e - n * down e)
  off_same = off_is s s n m e ∙ gap_same s (n * down e) (hundredfold m e)

  pub from_near : Near (hundredfold m e) (down e) n → IsNearest s m e (signed s n)
  from_near h = record {
    near = subst⁻¹ (λ (d : ℕ). 2 * d ≤ down e) off_same h.near;
    tie = λ t. ap (λ (k : ℕ). k % 2) (size_signed s n) ∙ h.tie (ap (λ (d : ℕ). 2 * d) (sym off_same) ∙ t);
  }

  to_near : IsNearest s m e (signed s n) → Near (hundredfold m e) (down e) n
  to_near h = record {
    near = subst (λ (d : ℕ). 2 * d ≤ down e) off_same h.near;
    tie = λ t. ap (λ (k : ℕ). k % 2) (sym (size_signed s n)) ∙ h.tie (ap (λ (d : ℕ). 2 * d) off_same ∙ t);
  }

  same_sign : IsNearest s m e (signed s n) → signed s n ≡ signed s (closest (hundredfold m e) (down e))
  same_sign h = ap (signed s) (near_only (hundredfold m e) (down e) n (down_pos e) (to_near h))

-- With the other sign, any size but 0 is more than a half off.
too_far : (a b n d : ℕ) → 0 < b → d ≡ suc n * b + a → 2 * d ≤ b → ⊥
too_far a b n d p is h = omega (arith, suc-mul n b)

only_nearest : (s t : Bool) (m : ℕ) (e : ℤ) (n : ℕ) → IsNearest s m e (signed t n) → signed t n ≡ signed s (closest (hundredfold m e) (down e))
only_nearest false false m e n h = same_sign false m e n h
only_nearest true true m e n h = same_sign true m e n h
only_nearest false true m e zero h = same_sign false m e zero h
only_nearest true false m e zero h = same_sign true m e zero h
only_nearest false true m e (suc n) h = absurd (too_far (hundredfold m e) (down e) n (off false m e (negsuc n)) (down_pos e) (off_is true false (suc n) m e) h.near)
only_nearest true false m e (suc n) h = absurd (too_far (hundredfold m e) (down e) n (off true m e (pos (suc n))) (down_pos e) (off_is false true (suc n) m e) h.near)

-- What a finite number gives, within the limit and beyond it.
module _ (s : Bool) (m : ℕ) (e : ℤ) where
  pub given : m * up e ≤ most_metres * down e → centimetres_of (fin s m e) ≡ Some (signed s (closest (hundredfold m e) (down e)))
  unfolding centimetres_of
  given h = rw (le-leb (m * up e) (most_metres * down e) h)

  pub refused : most_metres * down e < m * up e → centimetres_of (fin s m e) ≡ None
  unfolding centimetres_of
  refused h = rw (lt-leb (m * up e) (most_metres * down e) h)

-- What `centimetres_of` answers is allowed: the nearest whole number of centimetres, a tie going to the even one, or the refusal.
pub answers : (x : Float) → MayAnswer x (centimetres_of x)
unfolding centimetres_of
answers nan = tt
answers (inf s) = tt
answers (fin s m e) = go (is_readable m e) refl
  where
    go : (t : Bool) → is_readable m e ≡ t → MayAnswer (fin s m e) (cond t (Some (signed s (closest (hundredfold m e) (down e)))) None)
    go true h = (leb-true (m * up e) (most_metres * down e) h, from_near s m e (closest (hundredfold m e) (down e)) (closest_near (hundredfold m e) (down e) (down_pos e)))
    go false h = leb-false (m * up e) (most_metres * down e) h

-- And nothing else is allowed.
pub answers_only : (x : Float) (w : Option ℤ) → MayAnswer x w → w ≡ centimetres_of x
unfolding centimetres_of
answers_only nan None h = refl
answers_only nan (Some z) h = absurd h
answers_only (inf s) None h = refl
answers_only (inf s) (Some z) h = absurd h
answers_only (fin s m e) None h = sym (refused s m e h)
answers_only (fin s m e) (Some (pos n)) h = ap Some (only_nearest s false m e n h.1) ∙ sym (given s m e h.0)
answers_only (fin s m e) (Some (negsuc n)) h = ap Some (only_nearest s true m e (suc n) h.1) ∙ sym (given s m e h.0)
