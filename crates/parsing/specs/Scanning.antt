-- What the private functions that scan a line promise each other. No public contract uses it.
use Rattle.std.specs.Prelude.{ℕ, ◌-◌, ◌<◌, ◌≡◌, ◌^◌, min, Bool, cond, Option, Some, None}
use Rattle.parsing.specs.Numbers.{fits}

-- What a closure answers, `post`, is for every byte what the test says.
abbrev pub Tests : (ℕ → Bool → Type 0) → (ℕ → Bool) → Type 0
Tests post test = (b : ℕ) → b < 256 → (passes : Bool) → post b passes → passes ≡ test b

-- A number of at most 64 bits, or none for a larger one.
abbrev pub sized_of : ℕ → Option ℕ
sized_of n = cond (fits 64 n) (Some n) None

-- The number in a field that holds at most `most`, or `bits` bits: a larger number counts as the greatest that it holds.
unfoldable pub held_to : ℕ → Option ℕ → ℕ
held_to most (Some n) = min n most
held_to most None = most

abbrev pub held_in : ℕ → Option ℕ → ℕ
held_in bits n = held_to (2 ^ bits - 1) n
