-- What demand 3 assumes about a search, and what it requires of the list.
use Rattle.std.specs.Prelude.{ℕ, ◌≤◌, ◌≡◌, true, List, [], ◌∷◌, ℤ, nat_abs}
use Rattle.chart.specs.declared.Place.{Place}
use Rattle.chart.specs.declared.Chain.{Chain}
use Rattle.chart.specs.Readings.{reading_of, differ, Wanted}
use Rattle.search.specs.declared.Window.{Window}
use Rattle.search.specs.Windows.{IsCellIn}
use Rattle.search.specs.Questions.{Question, matches}
use Rattle.search.specs.Answers.{Accepted}
use Rattle.search.specs.Cells.{chart_number, Rises, IsListed, AmpleRoom, AmpleAllowance}

-- A sound chain, its readings, a window and a tolerance, all within their limits; room for every matching cell; and an
-- allowance for every visit that the rule counts.
pub record Enough (q : Question) (w : Window) : Type 0 where
  pub accepted : Accepted q.rule w
  pub room : AmpleRoom q w
  pub allowance : AmpleAllowance q w

-- Each reading is at most 1,000,000,000 in size.
unfoldable pub EachSmall : List ℤ → Type 0
EachSmall [] = Unit {0}
EachSmall (r ∷ rs) = (nat_abs r ≤ 1_000_000_000) × EachSmall rs

-- At a place each slave's reading differs from the wanted one by at most t.
unfoldable pub EachWithin : ℕ → Chain → List Wanted → Place → Type 0
EachWithin t c [] o = Unit {0}
EachWithin t c (w ∷ ws) o = (differ (reading_of c w.slave o) w.reading ≤ t) × EachWithin t c ws o

-- No place is in the list twice.
unfoldable pub EachOnce : List Place → Type 0
EachOnce [] = Unit {0}
EachOnce (p ∷ ps) = (IsListed p ps → ⊥) × EachOnce ps

-- The list holds every matching cell of the window and no other, each once, in chart order: by rising interleaved numbers.
pub record IsTheList (q : Question) (w : Window) (places : List Place) : Type 0 where
  pub every : (o : Place) → IsCellIn w o → matches q.rule o ≡ true → IsListed o places
  pub no_other : (o : Place) → IsListed o places → IsCellIn w o × (matches q.rule o ≡ true)
  pub once : EachOnce places
  pub in_order : Rises (chart_number w) places
