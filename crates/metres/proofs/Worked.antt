-- Numbers at the limits, computed from the definitions. 01's P cases are in `demands`.
use mathlib.Core.Path.{◌≡◌, refl}
use mathlib.Core.Bool.{true, false}
use lib.IntN.{pos, negsuc}
use lib.Ieee.{nan, inf, of_bits, to_bits}
use Rattle.std.specs.Prelude.{Some}
use Rattle.metres.specs.Metres.{centimetres_of, metres_of, whole_figures, length_figures, plus_zero}
use Rattle.metres.specs.declared.Mark.TheVariants as mark
use Rattle.metres.specs.Marks.{seen_from, mark_by, mark_of}
use Rattle.metres.specs.Patterns.{number_of, is_plus_zero}

-- The binary64 numbers next to 0.005 lie on both sides of it: the upper gives 1, the lower 0.
above_half : centimetres_of (number_of 0x3f74_7ae1_47ae_147b) ≡ Some (pos 1)
unfolding centimetres_of of_bits
above_half = refl

below_half : centimetres_of (number_of 0x3f74_7ae1_47ae_147a) ≡ Some (pos 0)
unfolding centimetres_of of_bits
below_half = refl

-- So 100 times the upper lies below its 1, and 100 times the lower above its 0. A product that is rounded to 53 binary digits would be
-- one half for the upper, and make it 0.
above_half_mark : mark_of (number_of 0x3f74_7ae1_47ae_147b) ≡ mark.Below
unfolding mark_of mark_by seen_from centimetres_of of_bits
above_half_mark = refl

below_half_mark : mark_of (number_of 0x3f74_7ae1_47ae_147a) ≡ mark.Above
unfolding mark_of mark_by seen_from centimetres_of of_bits
below_half_mark = refl

-- 0.25 is exact; 0.01 is a little more than a hundredth, -0.125 lies below its -12, and minus zero is exact.
quarter_mark : mark_of (number_of 0x3fd0_0000_0000_0000) ≡ mark.Equal
unfolding mark_of mark_by seen_from centimetres_of of_bits
quarter_mark = refl

hundredth_mark : mark_of (number_of 0x3f84_7ae1_47ae_147b) ≡ mark.Above
unfolding mark_of mark_by seen_from centimetres_of of_bits
hundredth_mark = refl

tie_mark : mark_of (number_of 0xbfc0_0000_0000_0000) ≡ mark.Below
unfolding mark_of mark_by seen_from centimetres_of of_bits
tie_mark = refl

minus_zero_mark : mark_of (number_of 0x8000_0000_0000_0000) ≡ mark.Equal
unfolding mark_of mark_by seen_from centimetres_of of_bits
minus_zero_mark = refl

-- 10,000,000 is read; the next number is refused, with 3 and 0, and so are NaN and minus infinity.
largest : centimetres_of (number_of 0x4163_12d0_0000_0000) ≡ Some (pos 1_000_000_000)
unfolding centimetres_of of_bits
largest = refl

too_large : whole_figures (centimetres_of (number_of 0x4163_12d0_0000_0001)) ≡ record { refusal = 3; centimetres = pos 0 }
unfolding whole_figures centimetres_of of_bits
too_large = refl

no_number : whole_figures (centimetres_of nan) ≡ record { refusal = 3; centimetres = pos 0 }
unfolding whole_figures centimetres_of
no_number = refl

no_end : whole_figures (centimetres_of (inf true)) ≡ record { refusal = 3; centimetres = pos 0 }
unfolding whole_figures centimetres_of
no_end = refl

-- Minus zero gives 0, and it is not plus zero.
minus_zero : centimetres_of (number_of 0x8000_0000_0000_0000) ≡ Some (pos 0)
unfolding centimetres_of of_bits
minus_zero = refl

minus_zero_told : is_plus_zero (number_of 0x8000_0000_0000_0000) ≡ false
unfolding is_plus_zero of_bits to_bits
minus_zero_told = refl

plus_zero_told : is_plus_zero plus_zero ≡ true
unfolding is_plus_zero to_bits
plus_zero_told = refl

-- 0 centimetres in metres are plus zero.
none_in_metres : metres_of (pos 0) ≡ Some plus_zero
unfolding metres_of
none_in_metres = refl

-- One centimetre in metres; and -1,000,000,001, the first number beyond the limit, is refused with 3 and plus zero.
one_hundredth : metres_of (pos 1) ≡ Some (number_of 0x3f84_7ae1_47ae_147b)
unfolding metres_of of_bits
one_hundredth = refl

too_many : length_figures (metres_of (negsuc 1_000_000_000)) ≡ record { refusal = 3; metres = plus_zero }
unfolding length_figures metres_of
too_many = refl
