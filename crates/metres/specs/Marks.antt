-- How a number of metres was rounded: where exactly 100 times the number lies, as seen from its whole centimetres (02, A1).
use Rattle.std.specs.Prelude.{ℕ, ◌≡◌, Bool, true, false, cond, ℤ, pos, ◌*ℤ◌, ◌<ℤ◌, Float, Option, Some, None}
use Rattle.std.specs.Int.Signed.{lt_z}
use Rattle.std.specs.Float.{nan, inf, fin}
use Rattle.std.specs.Float.Ieee.{down}
use Rattle.metres.specs.declared.Mark.{Mark}
use Rattle.metres.specs.declared.Mark.TheVariants.{Equal, Below, Above}
use Rattle.metres.specs.declared.MarkedWhole.{MarkedWhole}
use Rattle.metres.specs.Metres.{signed, hundredfold, centimetres_of}

-- z centimetres, and exactly 100 times the number: both in parts of which down e make one centimetre.
abbrev pub as_parts : ℤ → ℤ → ℤ
as_parts e z = z *ℤ pos (down e)

abbrev pub exact_parts : Bool → ℕ → ℤ → ℤ
exact_parts s m e = signed s (hundredfold m e)

-- What a mark says of a whole number x, as seen from z.
abbrev pub Lies : Mark → ℤ → ℤ → Type 0
Lies Equal z x = x ≡ z
Lies Below z x = x <ℤ z
Lies Above z x = z <ℤ x

-- Which mark a number may have beside its answer in centimetres: what the mark says is true. Beside a refusal, and so beside that of
-- NaN and the infinities, it is `Equal`.
abbrev pub MayMark : Float → Option ℤ → Mark → Type 0
MayMark x None mark = mark ≡ Equal
MayMark nan (Some z) mark = mark ≡ Equal
MayMark (inf s) (Some z) mark = mark ≡ Equal
MayMark (fin s m e) (Some z) mark = Lies mark (as_parts e z) (exact_parts s m e)

-- The mark as a function: where x lies, as seen from z.
unfoldable pub seen_from : ℤ → ℤ → Mark
seen_from z x = cond (lt_z x z) Below (cond (lt_z z x) Above Equal)

-- The mark of a number, beside its answer in centimetres; and from the number alone.
unfoldable pub mark_by : Float → Option ℤ → Mark
mark_by x None = Equal
mark_by nan (Some z) = Equal
mark_by (inf s) (Some z) = Equal
mark_by (fin s m e) (Some z) = seen_from (as_parts e z) (exact_parts s m e)

unfoldable pub mark_of : Float → Mark
mark_of x = mark_by x (centimetres_of x)

-- A number in whole centimetres, with its mark.
unfoldable pub marked_of : Float → MarkedWhole
marked_of x = record { whole = centimetres_of x; mark = mark_of x }

-- Something was lost: the number is not exactly its centimetres.
unfoldable pub is_rounded : Mark → Bool
is_rounded Equal = false
is_rounded Below = true
is_rounded Above = true
