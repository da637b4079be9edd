-- What the library gives where it reads and writes whole numbers, in the words of this crate's definitions.
use Prim.Native.Nat.{ℕ, zero, suc, ◌+◌, ◌-◌, ◌*◌, ◌/◌, ◌%◌, ◌^◌, ◌≤◌, ◌<◌}
use mathlib.Core.Path.{◌≡◌, refl, sym, ap, ap₂, ◌∙◌}
use mathlib.Core.Bool.{Bool, true, false}
use mathlib.Core.List.{List, [], ◌∷◌, ◌++◌}
use native.Mathlib.Omega.{arith}
use native.Mathlib.Nat.{div-div-eq-div-mul, pow-suc}
use borrow.Author.Tests.{le-leb, lt-leb}
use lib.ListN.{length, get_or, take, drop, length-drop}
use Rattle.std.proofs.lemmas.List.{take_all, length-take, drop-drop}
use borrow.Rule.Slice.PartMut.{put_mid}
use Rattle.std.specs.Prelude.{Option, Some, None}
use Rattle.std.specs.Array.{IsFirstChunk}
use Rattle.std.specs.List.{slice_range, slice_index}
use Rattle.std.specs.Int.{bytes_low_first, byte_at}
use Rattle.fields.specs.Fields.{value_of, bytes_of, inside, field_at, answer_at, put_at}
use Rattle.fields.proofs.FieldLaws.{answer_inside, answer_outside, field_cons, length_bytes, put_inside, put_outside}

-- A field that ends past the end of the slice is not read.
pub none_past : (width : ℕ) (s : List ℕ) (at : ℕ) → length s < at + width → answer_at width Some None s at ≡ None
none_past width s at short = answer_outside width Some None s at (lt-leb (at + width) (length s) short)

-- The first bytes of what follows `at` are those of the field.
pub some_first : (width : ℕ) (s : List ℕ) (at : ℕ) (tail bytes : List ℕ) → at ≤ length s → tail ≡ slice_range s at (length s) → IsFirstChunk tail bytes width → answer_at width Some None s at ≡ Some (value_of bytes)
some_first width s at tail bytes begins e chunk =
    let whole : tail ≡ drop at s = e ∙ take_all (length s - at) (drop at s) (omega (arith, length-drop at s)) in
    let fits : at + width ≤ length s = omega (arith, chunk.enough, ap length whole, length-drop at s) in
    answer_inside width Some None s at (le-leb (at + width) (length s) fits)
    ∙ ap (λ b. Some (value_of b)) (ap (take width) (sym whole) ∙ sym chunk.same)

-- There are as many of them as were asked for.
pub first_long : (width : ℕ) (tail bytes : List ℕ) → IsFirstChunk tail bytes width → length bytes ≡ width
first_long width tail bytes chunk = omega (arith, ap length chunk.same, length-take width tail, chunk.enough)

-- A field without bytes.
value_none : (s : List ℕ) (at : ℕ) → field_at 0 s at ≡ 0
unfolding value_of
value_none s at = refl

-- The number of four bytes, and of eight.
pub value_four : (s : List ℕ) → length s ≡ 4 → slice_index s 0 + slice_index s 1 * 256 + slice_index s 2 * 65536 + slice_index s 3 * 16777216 ≡ value_of s
value_four s e =
    omega (arith, ap value_of (take_all 4 s (omega (arith, e))), field_cons s 0 3 (omega (arith, e)), field_cons s 1 2 (omega (arith, e)), field_cons s 2 1 (omega (arith, e)), field_cons s 3 0 (omega (arith, e)), value_none s 4)

pub value_eight : (s : List ℕ) → length s ≡ 8 →
    slice_index s 0 + slice_index s 1 * 256 + slice_index s 2 * 65536 + slice_index s 3 * 16777216
    + slice_index s 4 * 4294967296 + slice_index s 5 * 1099511627776 + slice_index s 6 * 281474976710656 + slice_index s 7 * 72057594037927936 ≡ value_of s
value_eight s e =
    omega (arith, value_rest s e, field_cons s 4 3 (omega (arith, e)), field_cons s 5 2 (omega (arith, e)), field_cons s 6 1 (omega (arith, e)), field_cons s 7 0 (omega (arith, e)), value_none s 8)
  where
    value_rest : (s : List ℕ) → length s ≡ 8 → value_of s ≡ get_or s 0 0 + 256 * get_or s 1 0 + 65536 * get_or s 2 0 + 16777216 * get_or s 3 0 + 4294967296 * field_at 4 s 4
    value_rest s e =
        omega (arith, ap value_of (take_all 8 s (omega (arith, e))), field_cons s 0 7 (omega (arith, e)), field_cons s 1 6 (omega (arith, e)), field_cons s 2 5 (omega (arith, e)), field_cons s 3 4 (omega (arith, e)))

-- The bytes of a number from byte i on are those of what is left after i divisions by 256.
low_first : (width i n : ℕ) → bytes_low_first i width n ≡ bytes_of width (n / 256 ^ i)
unfolding bytes_of
low_first zero i n = refl
low_first (suc width) i n =
    let less : n / 256 ^ suc i ≡ n / 256 ^ i / 256 = ap (λ p. n / p) (pow-suc 256 i) ∙ sym (div-div-eq-div-mul n (256 ^ i) 256) in
    ap₂ ◌∷◌ (byte i) (low_first width (suc i) n ∙ ap (bytes_of width) less)
  where
    byte : (i : ℕ) → byte_at i n ≡ n / 256 ^ i % 256
    byte zero = ap (λ m. m % 256) (let e : n ≡ n / 1 = omega arith in e)
    byte (suc i) = refl

-- The bytes of a number.
pub number_bytes : (width n : ℕ) → bytes_low_first 0 width n ≡ bytes_of width n
number_bytes width n = low_first width 0 n ∙ ap (bytes_of width) (let e : n / 1 ≡ n = omega arith in e)

-- What a slice holds once they are copied into it, or are not since they do not lie inside.
pub bytes_put : (width n at : ℕ) (s bytes new : List ℕ) → bytes ≡ bytes_of width n → inside (length bytes) s at ≡ true → new ≡ bytes → put_mid at (at + length bytes - at) s new ≡ put_at width s at n
bytes_put width n at s bytes new e there same =
    let long : length bytes ≡ width = ap length e ∙ length_bytes width n in
    ap₂ (λ b m. take at s ++ (b ++ m)) (same ∙ e) (drop-drop (at + length bytes - at) at s ∙ ap (λ m. drop m s) (omega (arith, long)))
    ∙ sym (put_inside width s at n (ap (λ w. inside w s at) (sym long) ∙ there))

pub none_put : (width n at : ℕ) (s bytes : List ℕ) → bytes ≡ bytes_of width n → inside (length bytes) s at ≡ false → s ≡ put_at width s at n
none_put width n at s bytes e outside =
    sym (put_outside width s at n (ap (λ w. inside w s at) (sym (ap length e ∙ length_bytes width n)) ∙ outside))
