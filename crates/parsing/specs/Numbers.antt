-- Numbers, lengths and readings as words (docs/FORMATS.md, Text).
use Rattle.std.specs.Prelude.{ℕ, ◌+◌, ◌-◌, ◌*◌, ◌^◌, min, Bool, cond, ◌&&◌, ◌||◌, List, leb, ltb, eqb, ℤ, length, get_or, take, drop}
use Rattle.metres.specs.Metres.{signed}
use Rattle.text.specs.Texts.{numeral}
use Rattle.parsing.specs.Words.{are_all, word_at}

-- A decimal digit.
abbrev pub is_digit : ℕ → Bool
is_digit b = leb 48 b && leb b 57

-- A number: one digit or more, and nothing else. Its value is `numeral`.
abbrev pub is_number : List ℕ → Bool
is_number w = are_all is_digit w

-- Whether a number fits in `bits` bits.
abbrev pub fits : ℕ → ℕ → Bool
fits bits n = ltb n (2 ^ bits)

-- Metres: a number, a point, and exactly two digits. These are the part before the point, and the one after it.
abbrev pub before_point : List ℕ → List ℕ
before_point w = take (length w - 3) w

abbrev pub after_point : List ℕ → List ℕ
after_point w = drop (length w - 2) w

abbrev pub is_metres : List ℕ → Bool
is_metres w = is_number (before_point w) && (eqb (get_or w (length w - 3) 0) 46 && is_number (after_point w))

-- A length is a number of centimetres, or metres; and this is how many centimetres it says.
abbrev pub is_length : List ℕ → Bool
is_length w = is_number w || is_metres w

unfoldable pub centimetres_in : List ℕ → ℕ
centimetres_in w = cond (is_metres w) (100 * numeral (before_point w) + numeral (after_point w)) (numeral w)

-- A reading is a length that may have a minus sign before it.
abbrev pub is_below : List ℕ → Bool
is_below w = eqb (get_or w 0 0) 45

abbrev pub size_in : List ℕ → List ℕ
size_in w = drop (cond (is_below w) 1 0) w

abbrev pub is_reading : List ℕ → Bool
is_reading w = is_length (size_in w)

-- The number in the word i of a line, counted from 0, whatever its size; and the length.
abbrev pub value_at : List ℕ → ℕ → ℕ
value_at s i = numeral (word_at i s)

abbrev pub length_at : List ℕ → ℕ → ℕ
length_at s i = centimetres_in (word_at i s)

-- A number in a field of `bits` bits: a larger number counts as the greatest that the field holds. The later tests refuse that
-- one exactly if they would refuse the number itself (proofs/Fields.antt).
abbrev pub held : ℕ → ℕ → ℕ
held bits n = min n (2 ^ bits - 1)

-- The reading in the word i of a line: its size, the reading, and the reading as a field of 64 bits with a sign holds it.
abbrev pub size_at : List ℕ → ℕ → ℕ
size_at s i = centimetres_in (size_in (word_at i s))

abbrev pub reading_at : List ℕ → ℕ → ℤ
reading_at s i = signed (is_below (word_at i s)) (size_at s i)

abbrev pub held_reading : List ℕ → ℕ → ℤ
held_reading s i = signed (is_below (word_at i s)) (held 63 (size_at s i))
