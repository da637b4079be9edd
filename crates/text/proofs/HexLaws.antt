-- Bytes in hexadecimal: two digits each; the digits of two lists joined are the digits of the first, then those of the second.
use Prim.Native.Nat.{ℕ, ◌+◌, ◌*◌, ◌/◌, ◌%◌, ◌<◌}
use mathlib.Core.Path.{◌≡◌, refl, sym, ap, ◌∙◌}
use mathlib.Core.List.{List, [], ◌∷◌, ◌++◌}
use native.Mathlib.Omega.{arith}
use native.Mathlib.Numerals.{add-one}
use lib.ListN.{length, get_or, take}
use lib.Seq.{take-suc}
use Rattle.text.specs.Texts.{hex_digit, hex_of}

pub length_hex : (s : List ℕ) → length (hex_of s) ≡ 2 * length s
unfolding hex_of
length_hex [] = refl
length_hex (b ∷ s) = omega (arith, length_hex s)

pub hex_behind : (s t : List ℕ) → hex_of s ++ hex_of t ≡ hex_of (s ++ t)
unfolding hex_of
hex_behind [] t = refl
hex_behind (b ∷ s) t = ap (λ (x : List ℕ). hex_digit (b / 16) ∷ hex_digit (b % 16) ∷ x) (hex_behind s t)

-- The digits of the first `i` bytes, then those of the next byte.
pub hex_more : (s : List ℕ) (i : ℕ) → i < length s → hex_of (take i s) ++ hex_of (get_or s i 0 ∷ []) ≡ hex_of (take (i + 1) s)
hex_more s i h =
    hex_behind (take i s) (get_or s i 0 ∷ [])
    ∙ ap hex_of (sym (ap (λ (n : ℕ). take n s) (add-one i) ∙ take-suc s i 0 h))
