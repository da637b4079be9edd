-- Laws of fields, for every width: bytes to number and number to bytes undo each other, a field grows by one byte, and what is
-- put is read back. The conversions are proved by recursion on the width: the lowest byte, then the rest.
use Prim.Native.Nat.{ℕ, zero, suc, ◌+◌, ◌*◌, ◌/◌, ◌%◌, ◌^◌, ◌≤◌, ◌<◌}
use mathlib.Core.Path.{◌≡◌, refl, ap, ap₂, ◌∙◌}
use mathlib.Core.Bool.{Bool, true, false}
use mathlib.Core.List.{List, [], ◌∷◌, ◌++◌}
use native.Mathlib.Omega.{arith}
use native.Mathlib.Nat.{pow-suc}
use lib.Dec.{leb}
use lib.ListN.{length, get_or, take, drop, length-append, length-drop}
use lib.Seq.{drop-cons, drop_at, take_at, length-take-le}
use borrow.Author.Tests.{leb-true, le-leb}
use Rattle.fields.specs.Fields.{value_of, bytes_of, Bytes, inside, field_at, filled, answer_at, put_at}

-- A number turned into bytes and back is the same number, if the width can hold it.
pub value_bytes : (width n : ℕ) → n < 256 ^ width → value_of (bytes_of width n) ≡ n
unfolding value_of bytes_of
value_bytes zero n h = omega arith
value_bytes (suc width) n h = omega (arith, value_bytes width (n / 256) (omega (arith, pow-suc 256 width)))

-- Bytes turned into a number and back are the same bytes.
pub bytes_value : (bs : List ℕ) → Bytes bs → bytes_of (length bs) (value_of bs) ≡ bs
unfolding value_of bytes_of
bytes_value [] h = refl
bytes_value (b ∷ bs) h =
    let small : b < 256 = h 0 in
    let low : (b + 256 * value_of bs) % 256 ≡ b = omega arith in
    let high : (b + 256 * value_of bs) / 256 ≡ value_of bs = omega arith in
    ap₂ ◌∷◌ low (ap (bytes_of (length bs)) high ∙ bytes_value bs (λ i. h (suc i)))

-- A number takes `width` bytes.
pub length_bytes : (width n : ℕ) → length (bytes_of width n) ≡ width
unfolding bytes_of
length_bytes zero n = refl
length_bytes (suc width) n = ap suc (length_bytes width (n / 256))

-- A field one byte longer: its lowest byte plus 256 times the rest.
pub field_cons : (s : List ℕ) (at width : ℕ) → at < length s → field_at (suc width) s at ≡ get_or s at 0 + 256 * field_at width s (suc at)
unfolding value_of
field_cons s at width h = rw (drop-cons s at 0)

-- What reading and putting give, for a field inside the slice and for one outside it.
pub answer_inside : {A : Type 0} (width : ℕ) (value : ℕ → A) (outside : A) (s : List ℕ) (at : ℕ) → inside width s at ≡ true → answer_at width value outside s at ≡ value (field_at width s at)
unfolding answer_at
answer_inside width value outside s at e = rw e

pub answer_outside : {A : Type 0} (width : ℕ) (value : ℕ → A) (outside : A) (s : List ℕ) (at : ℕ) → inside width s at ≡ false → answer_at width value outside s at ≡ outside
unfolding answer_at
answer_outside width value outside s at e = rw e

pub put_inside : (width : ℕ) (s : List ℕ) (at n : ℕ) → inside width s at ≡ true → put_at width s at n ≡ filled width s at n
unfolding put_at
put_inside width s at n e = rw e

pub put_outside : (width : ℕ) (s : List ℕ) (at n : ℕ) → inside width s at ≡ false → put_at width s at n ≡ s
unfolding put_at
put_outside width s at n e = rw e

-- What is put into a field is read from it, if the width can hold it.
pub put_read : (width : ℕ) (s : List ℕ) (at n : ℕ) → at + width ≤ length s → n < 256 ^ width → field_at width (put_at width s at n) at ≡ n
put_read width s at n fits small =
    let front : length (take at s) ≡ at = length-take-le at s (omega arith) in
    rw (put_inside width s at n (le-leb (at + width) (length s) fits), drop_at (take at s) (bytes_of width n ++ drop (at + width) s) at front, take_at (bytes_of width n) (drop (at + width) s) width (length_bytes width n))
    (value_bytes width n small)

-- Putting a number does not change the length.
pub put_length : (width : ℕ) (s : List ℕ) (at n : ℕ) → length (put_at width s at n) ≡ length s
put_length width s at n = go (inside width s at) refl
  where
    go : (t : Bool) → inside width s at ≡ t → length (put_at width s at n) ≡ length s
    go true e =
        let fits : at + width ≤ length s = leb-true (at + width) (length s) e in
        let rest = bytes_of width n ++ drop (at + width) s in
        rw (put_inside width s at n e)
        (omega (arith, length-append (take at s) rest, length-take-le at s (omega arith), length-append (bytes_of width n) (drop (at + width) s), length_bytes width n, length-drop (at + width) s))
    go false e = ap length (put_outside width s at n e)

-- What reading answers at a place where a number was put.
pub put_answer : {A : Type 0} (width : ℕ) (value : ℕ → A) (outside : A) (s : List ℕ) (at n : ℕ) → inside width s at ≡ true → n < 256 ^ width → answer_at width value outside (put_at width s at n) at ≡ value n
put_answer width value outside s at n e small =
    answer_inside width value outside (put_at width s at n) at (ap (leb (at + width)) (put_length width s at n) ∙ e)
    ∙ ap value (put_read width s at n (leb-true (at + width) (length s) e) small)
