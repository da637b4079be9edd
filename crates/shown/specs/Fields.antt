-- The fields of the lines that show records and expected readings (docs/FORMATS.md, Text).
use Rattle.std.specs.Prelude.{ℕ, ◌+◌, ◌/◌, ◌%◌, cond, List, [], ◌∷◌, ◌++◌, eqb, ℤ, pos, negsuc, nat_abs, Float, Option, Some, None}
use Rattle.text.specs.Texts.{digits_of, spaced, whole_text, hex_of, bytes_in}
use Rattle.metres.specs.Metres.{centimetres_of}

-- A number of metres in whole centimetres, or a dash if it is refused.
unfoldable pub whole_or : Option ℤ → List ℕ
whole_or (Some z) = whole_text z
whole_or None = bytes_in "-"

abbrev pub centimetres_text : Float → List ℕ
centimetres_text x = 32 ∷ whole_or (centimetres_of x)

-- Centimetres written as metres with two decimals.
unfoldable pub sign_text : ℤ → List ℕ
sign_text (pos n) = []
sign_text (negsuc n) = bytes_in "-"

abbrev pub decimal_text : ℕ → List ℕ
decimal_text n = digits_of (n / 100) ++ (bytes_in "." ++ ((48 + n / 10 % 10) ∷ (48 + n % 10) ∷ []))

abbrev pub metres_text : ℤ → List ℕ
metres_text z = sign_text z ++ decimal_text (nat_abs z)

-- A space, then bytes in hexadecimal; nothing if there are no bytes.
unfoldable pub hex_text : List ℕ → List ℕ
hex_text [] = []
hex_text (b ∷ bs) = 32 ∷ hex_of (b ∷ bs)

-- What follows the fields of a record that is refused: the number of the refusal and the record's bytes. 0 is no refusal.
unfoldable pub refused_text : ℕ → List ℕ → List ℕ
refused_text number s = cond (eqb number 0) [] (bytes_in " REFUSED" ++ (spaced number ++ hex_text s))
