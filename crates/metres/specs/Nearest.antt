-- What an answer in centimetres must be, without a method of finding it (01, Metres to centimetres and back).
use Rattle.std.specs.Prelude.{ℕ, ◌*◌, ◌%◌, ◌≤◌, ◌<◌, ◌≡◌, Bool, ℤ, pos, nat_abs, ◌-ℤ◌, ◌*ℤ◌, Float, Option, Some, None}
use Rattle.std.specs.Float.{nan, inf, fin}
use Rattle.std.specs.Float.Ieee.{up, down}
use Rattle.metres.specs.Metres.{most_metres, signed, hundredfold}

-- How far z centimetres are from exactly 100 times the number, in parts of which down e make one centimetre.
abbrev pub off : Bool → ℕ → ℤ → ℤ → ℕ
off s m e z = nat_abs (z *ℤ pos (down e) -ℤ signed s (hundredfold m e))

-- z is the nearest whole number, a tie going to the even one: at most a half off, and even if exactly a half off.
pub record IsNearest (s : Bool) (m : ℕ) (e z : ℤ) : Type 0 where
  pub near : 2 * off s m e z ≤ down e
  pub tie : 2 * off s m e z ≡ down e → nat_abs z % 2 ≡ 0

-- What may be answered for a number of metres. `Unit` holds always, `⊥` never.
abbrev pub MayAnswer : Float → Option ℤ → Type 0
MayAnswer nan None = Unit
MayAnswer nan (Some z) = ⊥
MayAnswer (inf s) None = Unit
MayAnswer (inf s) (Some z) = ⊥
MayAnswer (fin s m e) None = most_metres * down e < m * up e
MayAnswer (fin s m e) (Some z) = (m * up e ≤ most_metres * down e) × IsNearest s m e z
