-- The walk by quarters, visit by visit, as 01 counts it (01, The search and its count).
use Rattle.std.specs.Prelude.{ℕ, zero, suc, ◌+◌, ◌^◌, Bool, true, false, List, [], ◌∷◌, ◌++◌, leb, length, Option, None, Some}
use Rattle.std.specs.Option.{is_none}
use Rattle.chart.specs.declared.Place.{Place}
use Rattle.search.specs.Windows.{east, north, north_east}
use Rattle.search.specs.Questions.{Question, matches, is_kept}

-- What stops a walk: a list with no room for a matching cell (9), or an allowance that is used up (10).
pub data Halt : Type 0 where
  Full : Halt
  Spent : Halt

-- The state of a walk: what stopped it, nothing while it goes on; the places listed so far; the visits made.
pub record Standing : Type 0 where
  pub stop : Option Halt
  pub places : List Place
  pub visits : ℕ

-- Before the first visit.
abbrev pub start : Standing
start = record { stop = None; places = []; visits = 0 }

-- One of two steps, chosen by a test. The other is not worked out.
abbrev pub either : Bool → (Standing → Standing) → (Standing → Standing) → Standing → Standing
either true f g s = f s
either false f g s = g s

-- The steps of a walk: nothing, a stop, a visit counted, a place listed after the others.
abbrev pub unchanged : Standing → Standing
unchanged s = s

abbrev pub stopped : Halt → Standing → Standing
stopped why s = record { stop = Some why; places = s.places; visits = s.visits }

abbrev pub counted : Standing → Standing
counted s = record { stop = s.stop; places = s.places; visits = s.visits + 1 }

abbrev pub listed : Place → Standing → Standing
listed p s = record { stop = s.stop; places = s.places ++ (p ∷ []); visits = s.visits }

-- A visit. After a stop nothing happens. If the allowance is used up, the walk stops. Otherwise the visit is counted, and then
-- `inside` says what is done.
unfoldable pub visited : ℕ → (Standing → Standing) → Standing → Standing
visited allowance inside s =
    either (is_none s.stop)
    (either (leb allowance s.visits) (stopped Spent) (λ s. inside (counted s)))
    unchanged
    s

-- A cell that matches goes to the list; one that finds the list full stops the walk.
unfoldable pub cell : Question → Place → Standing → Standing
cell q p = either (matches q.rule p) (λ s. either (leb q.limits.room (length s.places)) (stopped Full) (listed p) s) unchanged

-- The square of side 2^k at p. A cell is tested. A larger square that is not dropped has its quarters visited: south-west,
-- south-east, north-west, north-east, each finished before the next.
unfoldable pub visit : Question → ℕ → Place → Standing → Standing
visit q zero p = visited q.limits.allowance (cell q p)
visit q (suc k) p =
    visited q.limits.allowance
    (either (is_kept q.rule k p)
    (λ s. visit q k (north_east (2 ^ k) p) (visit q k (north (2 ^ k) p) (visit q k (east (2 ^ k) p) (visit q k p s))))
    unchanged)
