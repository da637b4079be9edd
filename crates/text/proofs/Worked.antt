-- Texts computed by the definitions: the least and the greatest whole number of 64 bits, -5 and 0, and bytes in hexadecimal.
use mathlib.Core.Path.{◌≡◌, refl}
use mathlib.Core.List.{[], ◌∷◌}
use lib.IntN.{pos, negsuc}
use Rattle.text.specs.Texts.{last_digits, digits_of, whole_text, hex_digit, hex_of, bytes_in}

least : whole_text (negsuc 9_223_372_036_854_775_807) ≡ bytes_in "-9223372036854775808"
unfolding whole_text digits_of last_digits bytes_in
least = refl

below : whole_text (negsuc 4) ≡ bytes_in "-5"
unfolding whole_text digits_of last_digits bytes_in
below = refl

nought : whole_text (pos 0) ≡ bytes_in "0"
unfolding whole_text digits_of last_digits bytes_in
nought = refl

most : whole_text (pos 9_223_372_036_854_775_807) ≡ bytes_in "9223372036854775807"
unfolding whole_text digits_of last_digits bytes_in
most = refl

in_hexadecimal : hex_of (0 ∷ 89 ∷ 192 ∷ 255 ∷ []) ≡ bytes_in "0059c0ff"
unfolding hex_of hex_digit bytes_in
in_hexadecimal = refl
