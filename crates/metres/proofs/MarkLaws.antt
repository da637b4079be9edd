-- The mark of a number: `mark_of` gives one that `MayMark` allows, and no other is allowed. And where the centimetres and the hundredfold
-- are counted in other parts, the mark is the same.
use Prim.Native.Nat.{ℕ, zero, suc, ◌*◌, ◌^◌, ◌<◌}
use mathlib.Core.Path.{◌≡◌, refl, sym, ap, ap₂, ◌∙◌, subst, subst⁻¹}
use mathlib.Core.Logic.{◌↔◌}
use mathlib.Core.Bool.{Bool, true, false, cond}
use native.Mathlib.Nat.{mul_right_comm, mul-lt-mul_of_pos_right, lt_of_mul-lt-mul_right, le_antisymm, le_of_lt, le_refl}
use native.Mathlib.Omega.{arith}
use lib.Pow.{pow_pos}
use lib.Dec.{T, ltb, leb-suc-suc}
use lib.IntN.{ℤ, pos, negsuc}
use lib.Signed.{lt_z, ◌<ℤ◌, lt_z_yes}
use lib.Ieee.{Float, nan, inf, fin, down}
use lib.Ieee.Fits.{down_pos}
use lib.Ieee.Nearest.{closest}
use borrow.Author.Tests.{ltb-true, ltb-false, lt-ltb, le-ltb}
use Rattle.std.specs.Prelude.{Option, Some, None}
use Rattle.metres.specs.declared.Mark.{Mark}
use Rattle.metres.specs.declared.Mark.TheVariants.{Equal, Below, Above}
use Rattle.metres.specs.declared.hundredfold.Hundredfold.{Hundredfold}
use Rattle.metres.specs.Metres.{signed, hundredfold, centimetres_of}
use Rattle.metres.specs.Marks.{as_parts, exact_parts, Lies, MayMark, seen_from, mark_by, mark_of, marked_of}
use Rattle.metres.specs.Hundredfolds.{IsHundredfold, nearest_to}
use Rattle.metres.proofs.Answers.{times}
use Rattle.metres.proofs.Exact.{of_refused, of_exact}

-- Two whole numbers neither of which is the smaller are equal.
neither : (z x : ℤ) → lt_z x z ≡ false → lt_z z x ≡ false → x ≡ z
neither (pos z) (pos x) h k = ap pos (le_antisymm (ltb-false z x k) (ltb-false x z h))
neither (pos z) (negsuc x) h k = absurd (subst T h tt)
neither (negsuc z) (pos x) h k = absurd (subst T k tt)
neither (negsuc z) (negsuc x) h k = ap negsuc (le_antisymm (ltb-false z x h) (ltb-false x z k))

-- What `seen_from` answers is true.
pub seen_true : (z x : ℤ) → Lies (seen_from z x) z x
unfolding seen_from
seen_true z x = go (lt_z x z) (lt_z z x) refl refl
  where
    go : (t u : Bool) → lt_z x z ≡ t → lt_z z x ≡ u → Lies (cond t Below (cond u Above Equal)) z x
    go true u h k = lt_z_yes (subst⁻¹ T h tt)
    go false true h k = lt_z_yes (subst⁻¹ T k tt)
    go false false h k = neither z x h k

-- And nothing else is.
less : {z x : ℤ} → z <ℤ x → lt_z z x ≡ true
less {z} {x} h = go (lt_z z x) h.lt
  where
    go : (t : Bool) → T t → t ≡ true
    go true u = refl
    go false u = absurd u

not_both : (z x : ℤ) → lt_z z x ≡ true → lt_z x z ≡ false
not_both (pos z) (pos x) h = le-ltb x z (le_of_lt (ltb-true z x h))
not_both (pos z) (negsuc x) h = absurd (subst⁻¹ T h tt)
not_both (negsuc z) (pos x) h = refl
not_both (negsuc z) (negsuc x) h = le-ltb z x (le_of_lt (ltb-true x z h))

not_itself : (z : ℤ) → lt_z z z ≡ false
not_itself (pos z) = le-ltb z z (le_refl z)
not_itself (negsuc z) = le-ltb z z (le_refl z)

pub seen_only : (mark : Mark) (z x : ℤ) → Lies mark z x → mark ≡ seen_from z x
unfolding seen_from
seen_only Equal z x h = subst⁻¹ (λ (y : ℤ). Equal ≡ cond (lt_z y z) Below (cond (lt_z z y) Above Equal)) h (rw (not_itself z))
seen_only Below z x h = rw (less h)
seen_only Above z x h = rw (not_both z x (less h), less h)

-- The mark beside an answer in centimetres is allowed, and no other is.
pub mark_allowed : (x : Float) (w : Option ℤ) → MayMark x w (mark_by x w)
unfolding mark_by
mark_allowed x None = refl
mark_allowed nan (Some z) = refl
mark_allowed (inf s) (Some z) = refl
mark_allowed (fin s m e) (Some z) = seen_true (as_parts e z) (exact_parts s m e)

pub mark_only : (x : Float) (w : Option ℤ) (mark : Mark) → MayMark x w mark → mark ≡ mark_by x w
unfolding mark_by
mark_only x None mark h = h
mark_only nan (Some z) mark h = h
mark_only (inf s) (Some z) mark h = h
mark_only (fin s m e) (Some z) mark h = seen_only mark (as_parts e z) (exact_parts s m e) h

-- So a number with the answer w has exactly the mark that is allowed beside w.
pub mark_says : (x : Float) (w : Option ℤ) → centimetres_of x ≡ w → (mark : Mark) → (mark_of x ≡ mark) ↔ MayMark x w mark
unfolding mark_of
mark_says x w h mark = (
  (λ e. subst (MayMark x w) (sym (ap (mark_by x) h) ∙ e) (mark_allowed x w)),
  (λ m. ap (mark_by x) h ∙ sym (mark_only x w mark m)),
)

-- Of two sizes with the same sign: below zero the larger size is the smaller number.
pub seen_minus : (from size : ℕ) → seen_from (signed true from) (signed true size) ≡ seen_from (pos size) (pos from)
unfolding seen_from
seen_minus from size = ap₂ (λ (t u : Bool). cond t Below (cond u Above Equal)) (turned size from) (turned from size)
  where
    turned : (a b : ℕ) → lt_z (signed true a) (signed true b) ≡ ltb b a
    turned zero zero = refl
    turned zero (suc b) = sym (le-ltb (suc b) 0 (omega arith))
    turned (suc a) zero = sym (lt-ltb 0 (suc a) (omega arith))
    turned (suc a) (suc b) = sym (leb-suc-suc (suc b) a)

-- Numbers in other parts, of which as many make one: the same of two is the smaller.
ltb_same : (a b c d : ℕ) → (a < b → c < d) → (c < d → a < b) → ltb a b ≡ ltb c d
ltb_same a b c d to from = go (ltb a b) (ltb c d) refl refl
  where
    go : (t u : Bool) → ltb a b ≡ t → ltb c d ≡ u → t ≡ u
    go true true h k = refl
    go false false h k = refl
    go true false h k =
        let l = to (ltb-true a b h) in
        let m = ltb-false c d k in
        absurd (omega arith)
    go false true h k =
        let l = from (ltb-true c d k) in
        let m = ltb-false a b h in
        absurd (omega arith)

module _ (d p : ℕ) (some : 0 < d) (some-parts : 0 < p) where
  smaller : (a b x y : ℕ) → a * p ≡ x * d → b * p ≡ y * d → ltb a b ≡ ltb x y
  smaller a b x y f g =
      ltb_same a b x y
      (λ h. lt_of_mul-lt-mul_right d (subst⁻¹ (λ (u : ℕ). u < y * d) (sym f) (subst (λ (u : ℕ). a * p < u) g (mul-lt-mul_of_pos_right h some-parts))))
      (λ h. lt_of_mul-lt-mul_right p (subst⁻¹ (λ (u : ℕ). u < b * p) f (subst⁻¹ (λ (u : ℕ). x * d < u) g (mul-lt-mul_of_pos_right h some))))

  same_mark : (a b x y : ℕ) → a * p ≡ x * d → b * p ≡ y * d → seen_from (pos b) (pos a) ≡ seen_from (pos y) (pos x)
  unfolding seen_from
  same_mark a b x y f g = ap₂ (λ (t u : Bool). cond t Below (cond u Above Equal)) (smaller a b x y f g) (smaller b a y x g f)

  same_signed : (s : Bool) (a b x y : ℕ) → a * p ≡ x * d → b * p ≡ y * d → seen_from (signed s b) (signed s a) ≡ seen_from (signed s y) (signed s x)
  same_signed false a b x y f g = same_mark a b x y f g
  same_signed true a b x y f g = seen_minus b a ∙ same_mark b a y x g f ∙ sym (seen_minus y x)

-- A number that is refused, and one with an exact hundredfold: its centimetres and its mark.
pub marked_refused : (x : Float) → IsHundredfold x None → record { whole = None; mark = Equal } ≡ marked_of x
unfolding marked_of mark_of mark_by
marked_refused x h = ap (λ (w : Option ℤ). record { whole = w; mark = mark_by x w }) (of_refused x h)

pub marked_exact : (x : Float) (h : Hundredfold) → IsHundredfold x (Some h) → nearest_to h ≡ marked_of x
unfolding marked_of mark_of mark_by
marked_exact nan h is = absurd is
marked_exact (inf s) h is = absurd is
marked_exact (fin s m e) h is =
    let n = closest h.parts (2 ^ h.halvings) in
    let other-parts = same_signed (down e) (2 ^ h.halvings) (down_pos e) (pow_pos h.halvings) h.minus (hundredfold m e) (n * down e) h.parts (n * 2 ^ h.halvings) is.exact (mul_right_comm n (down e) (2 ^ h.halvings)) in
    let mark = sym other-parts ∙ ap₂ seen_from (sym (times h.minus n (down e))) (ap (λ (t : Bool). signed t (hundredfold m e)) is.sign) in
    ap (λ (k : Mark). record { whole = Some (signed h.minus n); mark = k }) mark
    ∙ ap (λ (w : Option ℤ). record { whole = w; mark = mark_by (fin s m e) w }) (of_exact (fin s m e) h is)
