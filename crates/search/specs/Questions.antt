-- What a search is asked, and the two tests at a cell: matching and dropping, each over the list of slaves.
use Rattle.std.specs.Prelude.{ℕ, suc, ◌+◌, ◌*◌, ◌/◌, ◌^◌, Bool, true, ◌&&◌, List, [], ◌∷◌, leb, ℤ, nat_abs}
use Rattle.chart.specs.declared.Place.{Place}
use Rattle.chart.specs.declared.Chain.{Chain}
use Rattle.chart.specs.Readings.{Wanted, wanted_of, within}
use Rattle.search.specs.Windows.{north_east}

-- The rule: a chain, the reading wanted for each of its slaves, and the tolerance in centimetres.
pub record Rule : Type 0 where
  pub chain : Chain
  pub wanted : List Wanted
  pub tolerance : ℕ

-- The limits: how many visits are allowed, and how many places the list has room for.
pub record Limits : Type 0 where
  pub allowance : ℕ
  pub room : ℕ

-- A question has both. What matches, which squares are dropped and how many visits they take depends on the rule alone; where a
-- walk ends depends on the limits too.
pub record Question : Type 0 where
  pub rule : Rule
  pub limits : Limits

-- The rule for a chain, with one reading for each slave.
abbrev pub rule_of : Chain → List ℤ → ℕ → Rule
rule_of c readings tolerance = record { chain = c; wanted = wanted_of c readings; tolerance = tolerance }

-- The limits for a list of `entries` entries. Two entries are a place; half a place is no room (01, Numbers of refusal).
abbrev pub limits_of : ℕ → ℕ → Limits
limits_of allowance entries = record { allowance = allowance; room = entries / 2 }

abbrev pub question_of : Chain → List ℤ → ℕ → ℕ → ℕ → Question
question_of c readings tolerance allowance entries =
    record { rule = rule_of c readings tolerance; limits = limits_of allowance entries }

-- How large a wanted reading may be in size, and a tolerance (01, Numbers of refusal; The records).
abbrev pub most_reading : ℕ
most_reading = 1_000_000_000

abbrev pub most_tolerance : ℕ
most_tolerance = 100_000

-- No wanted reading is too large in size (01, Numbers of refusal).
unfoldable pub none_too_large : List Wanted → Bool
none_too_large [] = true
none_too_large (w ∷ ws) = leb (nat_abs w.reading) most_reading && none_too_large ws

-- The cell p matches: each of its readings differs from the wanted one by at most t (01, Distance and reading).
abbrev pub matches : Rule → Place → Bool
matches rule p = within rule.tolerance rule.chain rule.wanted p

-- The square of side s = 2^(k + 1) at p is not dropped: at the cell s/2 east and s/2 north of p no reading differs from the
-- wanted one by more than t + 2s + 4 (01, The search and its count; 02, A3).
abbrev pub is_kept : Rule → ℕ → Place → Bool
is_kept rule k p = within (rule.tolerance + 2 * 2 ^ suc k + 4) rule.chain rule.wanted (north_east (2 ^ k) p)
