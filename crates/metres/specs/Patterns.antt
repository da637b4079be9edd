-- A binary64 number in eight bytes (01, The work and its edges: "Numbers in files are IEEE 754 binary64").
use Rattle.std.specs.Prelude.{ℕ, ◌≡◌, Bool, true, List, eqb, Float, Option, Some, option_map}
use Rattle.std.specs.Float.{binary64}
use Rattle.std.specs.Float.Ieee.{of_bits, to_bits}
use Rattle.fields.specs.Fields.{inside, eight_at, put_at}

-- The number of a pattern of 64 bits. All patterns of NaN, whatever their sign and payload, are the one `nan`.
abbrev pub number_of : ℕ → Float
number_of = of_bits binary64

-- The pattern of a number. That of `nan` is 7FF8000000000000.
abbrev pub pattern_of : Float → ℕ
pattern_of = to_bits binary64

-- A number whose eight bytes are all zero: plus zero, and not minus zero (01, The records).
unfoldable pub is_plus_zero : Float → Bool
is_plus_zero x = eqb (pattern_of x) 0

-- The number in the eight bytes of s from `at` on, `None` if they are not all inside s.
unfoldable pub number_at : List ℕ → ℕ → Option Float
number_at s at = option_map number_of (eight_at s at)

-- s after a number is put at `at`.
abbrev pub put_number_at : List ℕ → ℕ → Float → List ℕ
put_number_at s at x = put_at 8 s at (pattern_of x)

-- If x was put at `at`, inside s, it is read there again from `after`.
abbrev pub ReadsThere : List ℕ → List ℕ → ℕ → Float → Type 0
ReadsThere s after at x = inside 8 s at ≡ true → number_at after at ≡ Some x
