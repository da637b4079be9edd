-- Text as bytes in ASCII: numbers in decimal, bytes in hexadecimal, and quoted words (01, The program; docs/FORMATS.md, Text).
use Rattle.std.specs.Prelude.{ℕ, zero, suc, ◌+◌, ◌-◌, ◌*◌, ◌/◌, ◌%◌, Bool, true, false, cond, List, [], ◌∷◌, ◌++◌, leb, ltb, ℤ, pos, negsuc}
use Prim.Native.Char.{code}
use Prim.Native.String.{String, [] as ε, ◌∷◌ as ◌∷ˢ◌}
use Rattle.fields.specs.Choices.{where_so}

-- The last digits of `n`: at most as many as the first argument says, and none before the first digit of `n`.
unfoldable pub last_digits : ℕ → ℕ → List ℕ
last_digits zero n = []
last_digits (suc most) n = where_so (leb 10 n) [] (λ _. last_digits most (n / 10)) ++ ((48 + n % 10) ∷ [])

-- A number in decimal without spare zeros: `n + 1` digits always suffice.
unfoldable pub digits_of : ℕ → List ℕ
digits_of n = last_digits (suc n) n

-- A space, then a number.
abbrev pub spaced : ℕ → List ℕ
spaced n = 32 ∷ digits_of n

-- Numbers, each with a space before it.
unfoldable pub figures_text : List ℕ → List ℕ
figures_text [] = []
figures_text (n ∷ ns) = spaced n ++ figures_text ns

-- A whole number in decimal, with a minus sign if it is below 0.
unfoldable pub whole_text : ℤ → List ℕ
whole_text (pos n) = digits_of n
whole_text (negsuc n) = 45 ∷ digits_of (suc n)

-- The value of decimal digits that follow others, where `before` is the value of those others.
unfoldable pub numeral_from : ℕ → List ℕ → ℕ
numeral_from before [] = before
numeral_from before (b ∷ bs) = numeral_from (10 * before + (b - 48)) bs

unfoldable pub numeral : List ℕ → ℕ
numeral bs = numeral_from 0 bs

-- A number below 16 as a digit: 0 to 9, then a to f.
unfoldable pub hex_digit : ℕ → ℕ
hex_digit n = cond (ltb n 10) (48 + n) (87 + n)

-- Bytes in hexadecimal: two digits for each byte, the high half first.
unfoldable pub hex_of : List ℕ → List ℕ
hex_of [] = []
hex_of (b ∷ bs) = hex_digit (b / 16) ∷ hex_digit (b % 16) ∷ hex_of bs

-- The bytes of a quoted text.
unfoldable pub bytes_in : String → List ℕ
bytes_in ε = []
bytes_in (c ∷ˢ s) = code c ∷ bytes_in s

-- A space, then 1 if something is so, 0 if not.
unfoldable pub flag_text : Bool → List ℕ
flag_text true = bytes_in " 1"
flag_text false = bytes_in " 0"
