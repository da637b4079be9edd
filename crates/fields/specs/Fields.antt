-- Numbers of any width in bytes, the lowest byte first (01, The records: "little-endian").
use Rattle.std.specs.Prelude.{ℕ, zero, suc, ◌+◌, ◌*◌, ◌/◌, ◌%◌, ◌<◌, Bool, cond, List, [], ◌∷◌, ◌++◌, leb, length, get_or, take, drop, Option, Some, None}

-- The number that some bytes stand for.
unfoldable pub value_of : List ℕ → ℕ
value_of [] = 0
value_of (b ∷ bs) = b + 256 * value_of bs

-- The number n as `width` bytes. What does not fit into them is left out.
unfoldable pub bytes_of : ℕ → ℕ → List ℕ
bytes_of zero n = []
bytes_of (suc width) n = n % 256 ∷ bytes_of width (n / 256)

-- Every entry is a byte.
abbrev pub Bytes : List ℕ → Type 0
Bytes s = (i : ℕ) → get_or s i 0 < 256

-- `width` bytes from `at` on lie inside a slice of `bytes` bytes.
abbrev pub lies_inside : ℕ → ℕ → ℕ → Bool
lies_inside bytes at width = leb (at + width) bytes

-- A field of `width` bytes, from `at` on, lies inside s.
abbrev pub inside : ℕ → List ℕ → ℕ → Bool
inside width s at = lies_inside (length s) at width

-- The number in such a field.
abbrev pub field_at : ℕ → List ℕ → ℕ → ℕ
field_at width s at = value_of (take width (drop at s))

-- s with the number n put into such a field, and nothing else changed.
abbrev pub filled : ℕ → List ℕ → ℕ → ℕ → List ℕ
filled width s at n = take at s ++ (bytes_of width n ++ drop (at + width) s)

-- s after n is put at `at`: filled if the field is inside s, and s itself if it is not.
unfoldable pub put_at : ℕ → List ℕ → ℕ → ℕ → List ℕ
put_at width s at n = cond (inside width s at) (filled width s at n) s

-- What reading a field answers: `value` of the number in it if the field is inside s, and `outside` if it is not.
unfoldable pub answer_at : {A : Type 0} → ℕ → (ℕ → A) → A → List ℕ → ℕ → A
answer_at width value outside s at = cond (inside width s at) (value (field_at width s at)) outside

-- What reading four bytes answers, and what reading eight.
abbrev pub four_at : List ℕ → ℕ → Option ℕ
four_at = answer_at 4 Some None

abbrev pub eight_at : List ℕ → ℕ → Option ℕ
eight_at = answer_at 8 Some None
