-- Bytes that must be zero: each of a list, some of them and then the bytes after them, and as a number, which is 0 exactly if all are.
use Prim.Native.Nat.{ℕ, zero, suc, ◌+◌, ◌*◌}
use mathlib.Core.Path.{◌≡◌, refl, sym, ap, ◌∙◌}
use mathlib.Core.Bool.{Bool, true, ◌&&◌, and_assoc}
use mathlib.Core.List.{List, [], ◌∷◌}
use native.Mathlib.Omega.{arith}
use native.Mathlib.Nat.{zero-add, suc-add}
use lib.Dec.{eqb}
use lib.ListN.{take, drop}
use lib.Seq.{drop-drop}
use borrow.Author.Tests.{ne_eqb}
use Rattle.std.specs.List.{list_all}
use Rattle.fields.specs.Fields.{value_of, field_at}
use Rattle.records.specs.Bytes.{all_zero, are_zero}

-- The test of the library on each byte is the definition.
pub every_zero : (bs : List ℕ) → list_all (λ b. eqb b 0) bs ≡ all_zero bs
unfolding all_zero
every_zero [] = refl
every_zero (b ∷ bs) = ap (λ (t : Bool). eqb b 0 && t) (every_zero bs)

split_take : (m n : ℕ) (bs : List ℕ) → all_zero (take (m + n) bs) ≡ (all_zero (take m bs) && all_zero (take n (drop m bs)))
unfolding all_zero
split_take zero n bs = rw zero-add
split_take (suc m) n [] = rw suc-add (none n)
  where
    none : (n : ℕ) → true ≡ all_zero (take n [])
    none zero = refl
    none (suc n) = refl
split_take (suc m) n (b ∷ bs) =
    rw suc-add (ap (λ (t : Bool). eqb b 0 && t) (split_take m n bs) ∙ sym (and_assoc (eqb b 0) (all_zero (take m bs)) (all_zero (take n (drop m bs)))))

-- Some bytes, and the bytes after them.
zero_split : (m n : ℕ) (s : List ℕ) (at : ℕ) → are_zero (m + n) s at ≡ (are_zero m s at && are_zero n s (at + m))
zero_split m n s at =
    split_take m n (drop at s)
    ∙ ap (λ (bs : List ℕ). are_zero m s at && all_zero (take n bs)) (drop-drop m at s)

-- The numbers of a hold are the two that a kind may use and the last one.
pub hold_split : (s : List ℕ) → are_zero 24 s 8 ≡ (are_zero 8 s 8 && (are_zero 8 s 16 && are_zero 8 s 24))
hold_split s = zero_split 8 16 s 8 ∙ ap (λ (t : Bool). are_zero 8 s 8 && t) (zero_split 8 8 s 16)

zero_sum : (b v : ℕ) → eqb (b + 256 * v) 0 ≡ (eqb b 0 && eqb v 0)
zero_sum zero zero = refl
zero_sum zero (suc v) = ne_eqb (zero + 256 * suc v) 0 (λ e. omega arith) ∙ sym (ne_eqb (suc v) 0 (λ e. omega arith))
zero_sum (suc b) v = ne_eqb (suc b + 256 * v) 0 (λ e. omega arith) ∙ ap (λ (t : Bool). t && eqb v 0) (sym (ne_eqb (suc b) 0 (λ e. omega arith)))

zero_value : (bs : List ℕ) → eqb (value_of bs) 0 ≡ all_zero bs
unfolding value_of all_zero
zero_value [] = refl
zero_value (b ∷ bs) = zero_sum b (value_of bs) ∙ ap (λ (t : Bool). eqb b 0 && t) (zero_value bs)

-- A field is 0 exactly if all its bytes are.
pub zero_field : (width : ℕ) (s : List ℕ) (at : ℕ) → eqb (field_at width s at) 0 ≡ are_zero width s at
zero_field width s at = zero_value (take width (drop at s))
