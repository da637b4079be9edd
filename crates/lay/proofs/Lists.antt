-- A list of two readings, entry by entry.
use mathlib.Core.Path.{◌≡◌, refl}
use mathlib.Core.List.{List, [], ◌∷◌}
use native.Mathlib.Omega.{arith}
use lib.IntN.{ℤ, pos}
use lib.ListN.{length, get_or}

-- A list of two readings is its first and its second entry.
pub two_read : (l : List ℤ) → length l ≡ 2 → get_or l 0 (pos 0) ∷ get_or l 1 (pos 0) ∷ [] ≡ l
two_read [] h = absurd (omega (arith, h))
two_read (a ∷ []) h = absurd (omega (arith, h))
two_read (a ∷ b ∷ []) h = refl
two_read (a ∷ b ∷ c ∷ l) h = absurd (omega (arith, h))
