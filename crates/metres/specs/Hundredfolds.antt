-- The step between a number of metres and its centimetres: exactly 100 times the number, before it is rounded. No public contract
-- refers to it.
use Rattle.std.specs.Prelude.{ℕ, ◌*◌, ◌^◌, ◌≤◌, ◌<◌, ◌≡◌, Bool, ℤ, Float, Option, Some, None}
use Rattle.std.specs.Float.Ieee.Nearest.{closest}
use Rattle.std.specs.Float.{nan, inf, fin}
use Rattle.std.specs.Float.Ieee.{up, down}
use Rattle.metres.specs.declared.hundredfold.Hundredfold.{Hundredfold}
use Rattle.metres.specs.declared.MarkedWhole.{MarkedWhole}
use Rattle.metres.specs.Metres.{most_metres, signed, hundredfold}
use Rattle.metres.specs.Marks.{seen_from}

-- The hundredfold of a finite number is parts / 2 ^ halvings, with its sign kept apart. Nothing of the number is lost. That there are
-- fewer than 2 ^ 60 parts is kept by the type.
pub record IsExact (s : Bool) (m : ℕ) (e : ℤ) (minus : Bool) (parts halvings : ℕ) : Type 0 where
  pub readable : m * up e ≤ most_metres * down e
  pub sign : minus ≡ s
  pub exact : hundredfold m e * 2 ^ halvings ≡ parts * down e

-- A right answer for a number: its exact hundredfold, or `None` if the number must be refused.
abbrev pub IsHundredfold : Float → Option Hundredfold → Type 0
IsHundredfold nan None = Unit
IsHundredfold nan (Some h) = ⊥
IsHundredfold (inf s) None = Unit
IsHundredfold (inf s) (Some h) = ⊥
IsHundredfold (fin s m e) None = most_metres * down e < m * up e
IsHundredfold (fin s m e) (Some h) = IsExact s m e h.minus h.parts h.halvings

-- What an exact hundredfold becomes: the nearest whole number of centimetres, and where the hundredfold lies as seen from it. The
-- centimetres, too, are counted in parts for this.
abbrev pub nearest_to : Hundredfold → MarkedWhole
nearest_to h =
    let n = closest h.parts (2 ^ h.halvings) in
    record { whole = Some (signed h.minus n); mark = seen_from (signed h.minus (n * 2 ^ h.halvings)) (signed h.minus h.parts) }
