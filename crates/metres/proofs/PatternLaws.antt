-- Numbers and their patterns of 64 bits: each gives back the other, plus zero has the pattern 0 and no other number has it, and
-- what is put into eight bytes is read there again.
use Prim.Native.Nat.{ℕ, ◌^◌, ◌<◌}
use mathlib.Core.Path.{◌≡◌, refl, sym, ap, ◌∙◌, subst}
use mathlib.Core.Bool.{Bool, true, false, not, false≢true}
use mathlib.Core.List.{List}
use lib.Dec.{T, eqb}
use lib.Ieee.{Float, nan, inf, fin, binary64, fits, is_nan, of_bits, to_bits}
use lib.Ieee.Bits.{of_bits-to_bits, to_bits-lt, to_bits-of_bits}
use borrow.Author.Tests.{ne_eqb}
use Rattle.std.specs.Prelude.{Some, None, option_map}
use Rattle.fields.proofs.FieldLaws.{put_answer}
use Rattle.metres.specs.Metres.{plus_zero}
use Rattle.metres.specs.Patterns.{number_of, pattern_of, is_plus_zero, number_at, put_number_at, ReadsThere}

-- There is only one NaN.
pub only_nan : (x : Float) → is_nan x ≡ true → x ≡ nan
unfolding is_nan
only_nan nan h = refl
only_nan (inf s) h = absurd (false≢true h)
only_nan (fin s m e) h = absurd (false≢true h)

-- A number that binary64 holds, NaN included, comes back from its pattern.
pub number_back : (x : Float) → T (fits binary64 x) → number_of (pattern_of x) ≡ x
number_back x held = of_bits-to_bits binary64 x held

-- A pattern comes back from its number, unless it is one of NaN.
pub pattern_back : (pattern : ℕ) → pattern < 2 ^ 64 → is_nan (number_of pattern) ≡ false → pattern_of (number_of pattern) ≡ pattern
pattern_back pattern small h = to_bits-of_bits binary64 pattern small (subst (λ (t : Bool). T (not t)) (sym h) tt)

-- The pattern 0 is that of plus zero.
pub zero_pattern : of_bits binary64 0 ≡ plus_zero
unfolding of_bits
zero_pattern = refl

nan_pattern : eqb (pattern_of nan) 0 ≡ false
unfolding to_bits
nan_pattern = refl

zero_no_nan : is_nan (number_of 0) ≡ false
unfolding is_nan of_bits
zero_no_nan = refl

-- The number of eight bytes is plus zero exactly if all the bytes are zero.
pub plus_zero_bytes : (pattern : ℕ) → pattern < 2 ^ 64 → is_plus_zero (number_of pattern) ≡ eqb pattern 0
unfolding is_plus_zero
plus_zero_bytes pattern small = go (is_nan (number_of pattern)) refl
  where
    go : (t : Bool) → is_nan (number_of pattern) ≡ t → eqb (pattern_of (number_of pattern)) 0 ≡ eqb pattern 0
    go false h = ap (λ (p : ℕ). eqb p 0) (pattern_back pattern small h)
    go true h =
        ap (λ (x : Float). eqb (pattern_of x) 0) (only_nan (number_of pattern) h)
        ∙ nan_pattern
        ∙ sym (ne_eqb pattern 0 (λ z. false≢true (sym zero_no_nan ∙ ap (λ (p : ℕ). is_nan (number_of p)) (sym z) ∙ h)))

-- A number that was put is read there again.
pub put_number_read : (s : List ℕ) (at : ℕ) (x : Float) → T (fits binary64 x) → ReadsThere s (put_number_at s at x) at x
unfolding number_at
put_number_read s at x held h =
    ap (option_map number_of) (put_answer 8 Some None s at (pattern_of x) h (to_bits-lt binary64 x held)) ∙ ap Some (number_back x held)
