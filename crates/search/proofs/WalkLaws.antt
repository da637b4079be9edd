-- What a visit does, according to how far it goes.
use Prim.Native.Nat.{ℕ, zero, suc, ◌^◌, ◌≤◌, ◌<◌}
use mathlib.Core.Path.{◌≡◌}
use mathlib.Core.Bool.{true, false}
use lib.ListN.{length}
use borrow.Author.Tests.{le-leb, lt-leb}
use Rattle.std.specs.Prelude.{None, Some}
use Rattle.chart.specs.declared.Place.{Place}
use Rattle.search.specs.Windows.{east, north, north_east}
use Rattle.search.specs.Questions.{Question, matches, is_kept}
use Rattle.search.specs.Walk.{Halt, Full, Spent, Standing, either, unchanged, stopped, counted, listed, visited, cell, visit}

module _ (allowance : ℕ) (inside : Standing → Standing) (s : Standing) where
  visited_after : {why : Halt} → s.stop ≡ Some why → visited allowance inside s ≡ s
  unfolding visited
  visited_after e = rw e

  visited_out : s.stop ≡ None → allowance ≤ s.visits → visited allowance inside s ≡ stopped Spent s
  unfolding visited
  visited_out z h = rw (z, le-leb allowance s.visits h)

  visited_on : s.stop ≡ None → s.visits < allowance → visited allowance inside s ≡ inside (counted s)
  unfolding visited
  visited_on z h = rw (z, lt-leb allowance s.visits h)

-- After a stop nothing is visited.
pub visit_after : (q : Question) (k : ℕ) (p : Place) (s : Standing) {why : Halt} → s.stop ≡ Some why → visit q k p s ≡ s
unfolding visit
visit_after q zero p s h = visited_after q.limits.allowance _ s h
visit_after q (suc k) p s h = visited_after q.limits.allowance _ s h

-- With the allowance used up the walk stops.
pub visit_out : (q : Question) (k : ℕ) (p : Place) (s : Standing) → s.stop ≡ None → q.limits.allowance ≤ s.visits → visit q k p s ≡ stopped Spent s
unfolding visit
visit_out q zero p s z h = visited_out q.limits.allowance _ s z h
visit_out q (suc k) p s z h = visited_out q.limits.allowance _ s z h

-- A square of side 1 is tested as a cell.
pub visit-cell : (q : Question) (p : Place) (s : Standing) → s.stop ≡ None → s.visits < q.limits.allowance → visit q 0 p s ≡ cell q p (counted s)
unfolding visit
visit-cell q p s z h = visited_on q.limits.allowance _ s z h

-- The four quarters of a square, each of side 2 ^ k.
abbrev pub quarters : Question → ℕ → Place → Standing → Standing
quarters q k p s = visit q k (north_east (2 ^ k) p) (visit q k (north (2 ^ k) p) (visit q k (east (2 ^ k) p) (visit q k p s)))

-- A larger square is dropped, or its quarters are visited.
pub visit_square : (q : Question) (k : ℕ) (p : Place) (s : Standing) → s.stop ≡ None → s.visits < q.limits.allowance → visit q (suc k) p s ≡ either (is_kept q.rule k p) (quarters q k p) unchanged (counted s)
unfolding visit
visit_square q k p s z h = visited_on q.limits.allowance _ s z h

-- A cell does not match, finds the list full, or is listed.
module _ (q : Question) (p : Place) (s : Standing) where
  pub cell_missed : matches q.rule p ≡ false → cell q p s ≡ s
  unfolding cell
  cell_missed e = rw e

  pub cell_full : matches q.rule p ≡ true → q.limits.room ≤ length s.places → cell q p s ≡ stopped Full s
  unfolding cell
  cell_full e h = rw (e, le-leb q.limits.room (length s.places) h)

  pub cell-listed : matches q.rule p ≡ true → length s.places < q.limits.room → cell q p s ≡ listed p s
  unfolding cell
  cell-listed e h = rw (e, lt-leb q.limits.room (length s.places) h)
