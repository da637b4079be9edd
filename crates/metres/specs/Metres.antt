-- Metres to whole centimetres and back (01, Metres to centimetres and back).
-- A finite number is `fin s m e`: m times 2 ^ e, which is the fraction m * up e / down e, below zero if s is true.
use Rattle.std.specs.Prelude.{ℕ, ◌*◌, ◌≤◌, ◌≡◌, Bool, true, false, cond, leb, ℤ, pos, neg_ℤ, nat_abs, Float, Option, Some, None}
use Rattle.std.specs.Float.{nan, inf, fin, binary64}
use Rattle.std.specs.Float.Ieee.{up, down, of_int, div}
use Rattle.std.specs.Float.Ieee.Nearest.{closest}
use Rattle.metres.specs.declared.WholeFigures.{WholeFigures}
use Rattle.metres.specs.declared.LengthFigures.{LengthFigures}

-- The largest size that is read, in metres, and the largest that is written, in centimetres.
abbrev pub most_metres : ℕ
most_metres = 10_000_000

abbrev pub most_centimetres : ℕ
most_centimetres = 1_000_000_000

-- A size with its sign. Minus zero gives 0.
abbrev pub signed : Bool → ℕ → ℤ
signed false n = pos n
signed true n = neg_ℤ (pos n)

-- The size is at most 10,000,000 metres. The exact size is tested, before any rounding.
abbrev pub is_readable : ℕ → ℤ → Bool
is_readable m e = leb (m * up e) (most_metres * down e)

-- Exactly 100 times the size is hundredfold m e / down e.
abbrev pub hundredfold : ℕ → ℤ → ℕ
hundredfold m e = 100 * (m * up e)

-- Metres in whole centimetres, or no answer (refusal 3). `closest a b` is the whole number nearest to a / b, a tie going to the
-- even one; Nearest.antt says without it what an answer must be.
unfoldable pub centimetres_of : Float → Option ℤ
centimetres_of nan = None
centimetres_of (inf s) = None
centimetres_of (fin s m e) =
    cond (is_readable m e) (Some (signed s (closest (hundredfold m e) (down e)))) None

-- Centimetres divided by 100. Both numbers are binary64 exactly, and the quotient is rounded once.
unfoldable pub hundredth_of : ℤ → Float
unfolding div of_int
hundredth_of z = div binary64 (of_int binary64 z) (of_int binary64 (pos 100))

-- Whole centimetres in metres, or no answer (refusal 3).
unfoldable pub metres_of : ℤ → Option Float
unfolding hundredth_of
metres_of z = cond (leb (nat_abs z) most_centimetres) (Some (hundredth_of z)) None

-- Both answers in figures: the number of the refusal, 0 for none, and the centimetres, 0 on a refusal, or the metres, plus
-- zero on a refusal.
unfoldable pub whole_figures : Option ℤ → WholeFigures
whole_figures (Some z) = record { refusal = 0; centimetres = z }
whole_figures None = record { refusal = 3; centimetres = pos 0 }

abbrev pub plus_zero : Float
plus_zero = fin false 0 (pos 0)

unfoldable pub length_figures : Option Float → LengthFigures
length_figures (Some x) = record { refusal = 0; metres = x }
length_figures None = record { refusal = 3; metres = plus_zero }

-- Read again, the metres give back the centimetres z that they were made from, if z is within the limit.
abbrev pub ReadsBack : ℤ → Option Float → Type 0
ReadsBack z l = nat_abs z ≤ most_centimetres → centimetres_of (length_figures l).metres ≡ Some z
