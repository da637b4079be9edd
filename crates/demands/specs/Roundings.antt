-- Terms in which demand 2 speaks of roundings (02, A1).
use Rattle.std.specs.Prelude.{ℕ, ◌-◌, ◌≡◌, List, [], ◌∷◌, Float, length, drop}
use Rattle.metres.specs.declared.Mark.TheVariants.{Equal}
use Rattle.metres.specs.Marks.{mark_of}
use Rattle.listing.specs.Answers.{RecordAnswer, Fix, Grid, Hold, Refused}

-- Each of these numbers is exact.
unfoldable pub EachExact : List Float → Type 0
EachExact [] = Unit {0}
EachExact (x ∷ xs) = (mark_of x ≡ Equal) × EachExact xs

-- An answer that is printed as `FIX` or `GRID`.
unfoldable pub IsOwn : RecordAnswer → Type 0
IsOwn (Fix visits places rounded) = Unit
IsOwn (Grid p rounded) = Unit
IsOwn (Hold p rounded) = ⊥
IsOwn (Refused refusal visits) = ⊥

-- The last n bytes of a text.
abbrev pub last_bytes : ℕ → List ℕ → List ℕ
last_bytes n text = drop (length text - n) text
