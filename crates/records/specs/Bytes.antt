-- What the definitions of records share: a byte, a number, bytes that must be zero, pieces of bytes, and a test that refuses.
use Rattle.std.specs.Prelude.{ℕ, ◌+◌, ◌-◌, ◌/◌, min, Bool, true, false, ◌&&◌, List, [], ◌∷◌, eqb, Float, length, get_or, take, drop}
use Rattle.fields.specs.Fields.{field_at}
use Rattle.metres.specs.Patterns.{number_of}

-- The byte at `at`, 0 past the end.
abbrev pub byte_at : List ℕ → ℕ → ℕ
byte_at s at = get_or s at 0

-- The binary64 number in the eight bytes from `at` on.
abbrev pub number_in : List ℕ → ℕ → Float
number_in s at = number_of (field_at 8 s at)

-- Every byte is zero.
unfoldable pub all_zero : List ℕ → Bool
all_zero [] = true
all_zero (b ∷ bs) = eqb b 0 && all_zero bs

-- The `count` bytes of s from `at` on are all zero. This tests bytes, not numbers: the bytes of minus zero are not all zero.
abbrev pub are_zero : ℕ → List ℕ → ℕ → Bool
are_zero count s at = all_zero (take count (drop at s))

-- How many pieces of `width` bytes s has, counting a short last one.
abbrev pub pieces_in : ℕ → List ℕ → ℕ
pieces_in width s = (length s + (width - 1)) / width

-- Where the piece of `width` bytes that begins after `done` bytes ends, in a text of `all` bytes. The last piece may be short.
abbrev pub piece_end : ℕ → ℕ → ℕ → ℕ
piece_end done width all = min (done + width) all

-- If a test fails, the answer is its refusal; if it passes, the rest answers (01, Numbers of refusal: "the first failure
-- answers").
abbrev pub unless : {A : Type 0} → Bool → A → A → A
unless true refused rest = rest
unless false refused rest = refused
