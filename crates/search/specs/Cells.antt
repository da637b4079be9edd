-- What a search must find, said without a walk: the matching cells in chart order, and how many visits it takes
-- (01, The search and its count).
use Rattle.std.specs.Prelude.{ℕ, zero, suc, ◌+◌, ◌-◌, ◌*◌, ◌/◌, ◌%◌, ◌^◌, ◌≤◌, ◌<◌, ◌≡◌, Bool, true, false, cond, ltb, length}
use mathlib.Core.List.{List, [], ◌∷◌, ◌++◌, Memᴰ}
use Rattle.fields.specs.Choices.{where_so}
use Rattle.chart.specs.declared.Place.{Place}
use Rattle.search.specs.declared.Window.{Window}
use Rattle.search.specs.Windows.{east, north, north_east, IsCellIn}
use Rattle.search.specs.Questions.{Rule, Question, matches, is_kept}

-- The lowest k bits of two numbers interleaved, the northing bit above the easting bit at each place.
unfoldable pub interleave : ℕ → ℕ → ℕ → ℕ
interleave zero e n = 0
interleave (suc k) e n = 4 * interleave k (e / 2) (n / 2) + 2 * (n % 2) + e % 2

-- A cell's number in the order of a window: its offsets from the corner, interleaved.
abbrev pub chart_number : Window → Place → ℕ
chart_number w p = interleave w.k (p.easting - w.corner.easting) (p.northing - w.corner.northing)

-- Each place of a list has a larger number than the one before it.
unfoldable pub Rises : (Place → ℕ) → List Place → Type 0
Rises number [] = Unit {0}
Rises number (p ∷ []) = Unit {0}
Rises number (p ∷ q ∷ ps) = (number p < number q) × Rises number (q ∷ ps)

-- The cells of the square of side 2^k at p, quarter by quarter.
unfoldable pub cells : ℕ → Place → List Place
cells zero p = p ∷ []
cells (suc k) p = cells k p ++ (cells k (east (2 ^ k) p) ++ (cells k (north (2 ^ k) p) ++ cells k (north_east (2 ^ k) p)))

-- p before the others if it passed the test, and the others alone if it did not.
abbrev pub if_so : Bool → Place → List Place → List Place
if_so true p ps = p ∷ ps
if_so false p ps = ps

-- The places of a list that pass a test.
unfoldable pub those : (Place → Bool) → List Place → List Place
those test [] = []
those test (p ∷ ps) = if_so (test p) p (those test ps)

-- The matching cells of a square.
unfoldable pub matching : Rule → ℕ → Place → List Place
matching rule k p = those (matches rule) (cells k p)

-- The visits that a square takes: one, and those of its quarters if it is not dropped.
unfoldable pub visits_of : Rule → ℕ → Place → ℕ
visits_of rule zero p = 1
visits_of rule (suc k) p =
    1 + where_so (is_kept rule k p) 0
    (λ _. visits_of rule k p + (visits_of rule k (east (2 ^ k) p) + (visits_of rule k (north (2 ^ k) p) + visits_of rule k (north_east (2 ^ k) p))))

-- The visits that a square takes up to and with its cell o, if no square around o is dropped, as none is around a cell that matches:
-- one, those of the quarters before the one that o lies in, and those in that quarter up to and with o.
unfoldable pub visits_to : Rule → ℕ → Place → Place → ℕ
visits_to rule zero p o = 1
visits_to rule (suc k) p o =
    let west = ltb o.easting (p.easting + 2 ^ k) in
    1 + cond (ltb o.northing (p.northing + 2 ^ k))
    (cond west (visits_to rule k p o) (visits_of rule k p + visits_to rule k (east (2 ^ k) p) o))
    (visits_of rule k p + (visits_of rule k (east (2 ^ k) p) + cond west (visits_to rule k (north (2 ^ k) p) o) (visits_of rule k (north (2 ^ k) p) + visits_to rule k (north_east (2 ^ k) p) o)))

-- The most visits that any square of side 2^k takes.
abbrev pub most_visits : ℕ → ℕ
most_visits k = (4 ^ (k + 1) - 1) / 3

-- The matching cells of a window, and the visits that it takes.
abbrev pub matching_in : Rule → Window → List Place
matching_in rule w = matching rule w.k w.corner

abbrev pub visits_in : Rule → Window → ℕ
visits_in rule w = visits_of rule w.k w.corner

-- A cell of the window that matches.
abbrev pub IsMatch : Rule → Window → Place → Type 0
IsMatch rule w p = IsCellIn w p × (matches rule p ≡ true)

-- The place p is in the list ps.
abbrev pub IsListed : Place → List Place → Type 0
IsListed p ps = Memᴰ p ps

-- Ample room: for every matching cell. Ample allowance: for every visit that the window takes.
abbrev pub AmpleRoom : Question → Window → Type 0
AmpleRoom q w = length (matching_in q.rule w) ≤ q.limits.room

abbrev pub AmpleAllowance : Question → Window → Type 0
AmpleAllowance q w = visits_in q.rule w ≤ q.limits.allowance
