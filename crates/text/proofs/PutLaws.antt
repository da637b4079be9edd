-- Text put into a buffer: nothing, one byte, and one text after the other; and what a function that puts a text promises.
use Prim.Native.Nat.{ℕ, ◌+◌, ◌^◌, ◌≤◌, ◌<◌}
use mathlib.Core.Path.{◌≡◌, refl, sym, ap, ap₂, ◌∙◌, subst, subst⁻¹}
use mathlib.Core.Bool.{Bool, true, false}
use mathlib.Core.List.{List, [], ◌∷◌, ◌++◌, append_assoc}
use native.Mathlib.Omega.{arith}
use native.Mathlib.Numerals.{add-one}
use borrow.Author.Tests.{le-leb, lt-leb, leb-true, leb-false}
use lib.ListN.{length, get_or, take, drop, set, take-append-drop, length-append, length-drop}
use lib.Seq.{length-take-le, take_at, drop-append-add, drop-drop, set_split, take-suc}
use Rattle.text.specs.Texts.{digits_of, flag_text, bytes_in}
use Rattle.text.specs.Puts.{room_for, end_after, with_text, Put}
use Rattle.text.proofs.Digits.{digits_32}

-- How many bytes there are up to the end of a text that was put.
front : (o : List ℕ) (at : ℕ) (x : List ℕ) → at + length x ≤ length o → length (take at o ++ x) ≡ at + length x
front o at x h = length-append (take at o) x ∙ ap (λ (n : ℕ). n + length x) (length-take-le at o (omega arith))

-- A buffer keeps its length.
pub put_length : {o : List ℕ} {at : ℕ} {x o' : List ℕ} {end : ℕ} → Put o at x o' end → length o' ≡ length o
put_length {o} {at} {x} {o'} {end} p =
    let rest = drop (at + length x) o in
    ap length (p.now_is ∙ sym (append_assoc (take at o) x rest))
    ∙ omega (arith, length-append (take at o ++ x) rest, front o at x p.fits, length-drop (at + length x) o, p.fits)

-- What the buffer then holds up to the end of the text.
pub put_front : {o : List ℕ} {at : ℕ} {x o' : List ℕ} {end : ℕ} → Put o at x o' end → take end o' ≡ take at o ++ x
put_front {o} {at} {x} {o'} {end} p =
    let rest = drop (at + length x) o in
    ap (take end) (p.now_is ∙ sym (append_assoc (take at o) x rest))
    ∙ take_at (take at o ++ x) rest end (front o at x p.fits ∙ sym p.end_is)

-- Putting one text and then another after it is putting both together.
pub put_then : {o : List ℕ} {at : ℕ} {x o' : List ℕ} {end : ℕ} {y o'' : List ℕ} {end' : ℕ} → Put o at x o' end → Put o' end y o'' end' → Put o at (x ++ y) o'' end'
put_then {o} {at} {x} {o'} {end} {y} {o''} {end'} p q =
    let rest = drop (at + length x) o in
    let whole : o' ≡ (take at o ++ x) ++ rest = p.now_is ∙ sym (append_assoc (take at o) x rest) in
    let size : length (take at o ++ x) ≡ end = front o at x p.fits ∙ sym p.end_is in
    let both : at + length x + length y ≡ at + length (x ++ y) = omega (arith, length-append x y) in
    let behind : drop (end + length y) o' ≡ drop (at + length (x ++ y)) o =
    ap₂ (λ (n : ℕ) (l : List ℕ). drop (n + length y) l) (sym size) whole
    ∙ drop-append-add (take at o ++ x) rest (length y)
    ∙ drop-drop (length y) (at + length x) o
    ∙ ap (λ (n : ℕ). drop n o) both in
    let tail = drop (at + length (x ++ y)) o in
    record {
      fits = omega (arith, q.fits, put_length p, p.end_is, length-append x y);
      end_is = omega (arith, q.end_is, p.end_is, length-append x y);
      now_is =
          q.now_is
          ∙ ap₂ (λ (f r : List ℕ). f ++ (y ++ r)) (put_front p) behind
          ∙ append_assoc (take at o) x (y ++ tail)
          ∙ ap (λ (z : List ℕ). take at o ++ z) (sym (append_assoc x y tail));
    }

-- If each of two texts is put when there is room for it, both are put when there is room for both.
pub put_both : {o : List ℕ} {at : ℕ} {x o' : List ℕ} {end : ℕ} {y o'' : List ℕ} {end' : ℕ} →
    (at + length x ≤ length o → Put o at x o' end) → (end + length y ≤ length o' → Put o' end y o'' end') →
    at + length (x ++ y) ≤ length o → Put o at (x ++ y) o'' end'
put_both {o} {at} {x} {o'} {end} {y} first second room =
    let p = first (omega (arith, length-append x y)) in
    put_then p (second (omega (arith, p.end_is, put_length p, length-append x y)))

-- A text of at most `most` bytes ends at most `most` bytes after `at`.
pub end_within : {o : List ℕ} {at : ℕ} {x o' : List ℕ} {end most : ℕ} → Put o at x o' end → length x ≤ most → end ≤ at + most
end_within p h = omega (arith, p.end_is, h)

-- Room for ten bytes is room for a number of 32 bits.
pub room_32 : (at room : ℕ) {n : ℕ} → n < 2 ^ 32 → at + 10 ≤ room → at + length (digits_of n) ≤ room
room_32 at room {n} small h = omega (arith, digits_32 n small, h)

-- What `put_flag` puts has two bytes.
pub flag_length : (so : Bool) → length (flag_text so) ≡ 2
unfolding flag_text bytes_in
flag_length true = refl
flag_length false = refl

-- Putting no text.
pub put_none : (o : List ℕ) (at : ℕ) → at ≤ length o → Put o at [] o at
put_none o at h =
    let here : at ≡ at + 0 = omega arith in
    record {
      fits = omega arith;
      end_is = here;
      now_is = sym (take-append-drop at o) ∙ ap (λ (n : ℕ). take at o ++ drop n o) here;
    }

-- Putting one byte.
pub put_one : (o : List ℕ) (at b : ℕ) → at < length o → Put o at (b ∷ []) (set o at b) (at + 1)
put_one o at b h =
    record {
      fits = omega arith;
      end_is = refl;
      now_is = set_split o at b h ∙ ap (λ (n : ℕ). take at o ++ b ∷ drop n o) (sym (add-one at));
    }

-- One byte more of a text that is put byte by byte.
pub put_more : (o : List ℕ) (at : ℕ) (s o' : List ℕ) (i : ℕ) → i < length s → Put o at (take i s) o' (at + i) → at + i < length o' → Put o at (take (i + 1) s) (set o' (at + i) (get_or s i 0)) (at + (i + 1))
put_more o at s o' i h p room =
    let all : take (i + 1) s ≡ take i s ++ (get_or s i 0 ∷ []) = ap (λ (n : ℕ). take n s) (add-one i) ∙ take-suc s i 0 h in
    let behind : at + i + 1 ≡ at + (i + 1) = omega arith in
    subst (λ (n : ℕ). Put o at (take (i + 1) s) (set o' (at + i) (get_or s i 0)) n) behind
    (subst⁻¹ (λ (x : List ℕ). Put o at x (set o' (at + i) (get_or s i 0)) (at + i + 1)) all (put_then p (put_one o' (at + i) (get_or s i 0) room)))

-- If a text was put, so was any equal text.
pub put_as : {o : List ℕ} {at : ℕ} {x y o' : List ℕ} {end : ℕ} → x ≡ y → Put o at x o' end → Put o at y o' end
put_as {o} {at} {x} {y} {o'} {end} e p = subst (λ (z : List ℕ). Put o at z o' end) e p

-- What a function that puts a text promises about its answer and its buffer.
abbrev pub Promised : List ℕ → ℕ → List ℕ → List ℕ → ℕ → Type 0
Promised o at x o' end = (end ≡ end_after (length o) at x) × (o' ≡ with_text o at x)

-- If there is room for the text, this promise says that the text was put.
pub put_from : {o : List ℕ} {at : ℕ} {x o' : List ℕ} {end : ℕ} → Promised o at x o' end → at + length x ≤ length o → Put o at x o' end
unfolding end_after with_text
put_from {o} {at} {x} {o'} {end} p h =
    let room : room_for (length o) at x ≡ true = le-leb (at + length x) (length o) h in
    record { fits = h; end_is = rw room at p.0; now_is = rw room at p.1 }

pub put_promised : {o : List ℕ} {at : ℕ} {x o' : List ℕ} {end : ℕ} → Put o at x o' end → Promised o at x o' end
unfolding end_after with_text
put_promised {o} {at} {x} {o'} {end} p =
    let room : room_for (length o) at x ≡ true = le-leb (at + length x) (length o) p.fits in
    (rw room p.end_is, rw room p.now_is)

-- If there is no room for it, the promise says that nothing changed.
pub nothing_promised : (o : List ℕ) (at : ℕ) (x : List ℕ) → length o < at + length x → Promised o at x o at
unfolding end_after with_text
nothing_promised o at x h =
    let none : room_for (length o) at x ≡ false = lt-leb (at + length x) (length o) h in
    (rw none, rw none)

-- The buffer keeps its length, whether or not there is room.
pub with_length : (o : List ℕ) (at : ℕ) (x : List ℕ) → length (with_text o at x) ≡ length o
with_length o at x = go (room_for (length o) at x) refl
  where
    go : (b : Bool) → room_for (length o) at x ≡ b → length (with_text o at x) ≡ length o
    go true e = put_length (put_from {o = o} {at = at} {x = x} (refl, refl) (leb-true (at + length x) (length o) e))
    go false e = ap length (sym (nothing_promised o at x (leb-false (at + length x) (length o) e)).1)

-- A text that starts inside the buffer ends inside it, whether or not there is room.
pub ends_inside : (bytes at : ℕ) (x : List ℕ) → at ≤ bytes → end_after bytes at x ≤ bytes
unfolding end_after
ends_inside bytes at x h = go (room_for bytes at x) refl
  where
    go : (b : Bool) → room_for bytes at x ≡ b → end_after bytes at x ≤ bytes
    go true e = rw (e) (leb-true (at + length x) bytes e)
    go false e = rw (e) h
