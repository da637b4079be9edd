-- What a search answers, case by case: the first test that fails, or how the walk ended.
use Prim.Native.Nat.{◌*◌, ◌<◌}
use mathlib.Core.Path.{◌≡◌, refl}
use mathlib.Core.Bool.{true, false}
use mathlib.Core.List.{List, [], ◌∷◌}
use native.Mathlib.Omega.{arith}
use borrow.Author.Tests.{le-leb, lt-leb}
use Rattle.std.specs.Prelude.{None, Some}
use lib.ListN.{length}
use Rattle.chart.specs.declared.Place.{Place}
use Rattle.chart.specs.Chains.{is_sound}
use Rattle.search.specs.declared.Window.{Window}
use Rattle.search.specs.declared.Unfound.TheVariants.{ReadingTooLarge, Unsound, BadWindow, BadTolerance, NoRoom, AllowanceUsed}
use Rattle.search.specs.Windows.{is_window}
use Rattle.search.specs.Questions.{Question, most_tolerance, none_too_large}
use Rattle.search.specs.Walk.{Full, Spent, Standing, start, visit}
use Rattle.search.specs.Answers.{refused, gone, ended, Accepted, search_of, entries_of}

-- The end of a walk: stopped by the allowance, stopped for lack of room, or gone to its end.
module _ (s : Standing) where
  pub ended_out : s.stop ≡ Some Spent → ended s ≡ refused (AllowanceUsed s.visits)
  unfolding ended
  ended_out e = rw e

  pub ended_full : s.stop ≡ Some Full → ended s ≡ refused (NoRoom s.visits)
  unfolding ended
  ended_full e = rw e

  pub ended-gone : s.stop ≡ None → ended s ≡ gone s.places s.visits
  unfolding ended
  ended-gone e = rw e

module _ (q : Question) (w : Window) where
  -- The first test that fails answers.
  pub search_3 : none_too_large q.rule.wanted ≡ false → search_of q w ≡ refused ReadingTooLarge
  unfolding search_of
  search_3 e = rw e

  pub search_5 : none_too_large q.rule.wanted ≡ true → is_sound q.rule.chain ≡ false → search_of q w ≡ refused Unsound
  unfolding search_of
  search_5 e f = rw (e, f)

  pub search_6 : none_too_large q.rule.wanted ≡ true → is_sound q.rule.chain ≡ true → is_window w ≡ false → search_of q w ≡ refused BadWindow
  unfolding search_of
  search_6 e f g = rw (e, f, g)

  pub search_7 : none_too_large q.rule.wanted ≡ true → is_sound q.rule.chain ≡ true → is_window w ≡ true → most_tolerance < q.rule.tolerance → search_of q w ≡ refused BadTolerance
  unfolding search_of
  search_7 e f g h = rw (e, f, g, lt-leb q.rule.tolerance most_tolerance h)

  -- If all tests pass, the answer is that of the walk.
  pub search_walks : Accepted q.rule w → search_of q w ≡ ended (visit q w.k w.corner start)
  unfolding search_of
  search_walks a = rw (a.readings, a.chain, a.window, le-leb q.rule.tolerance most_tolerance a.tolerance)

-- Places have two entries each.
pub length_entries : (ps : List Place) → length (entries_of ps) ≡ 2 * length ps
unfolding entries_of
length_entries [] = refl
length_entries (p ∷ ps) = omega (arith, length_entries ps)
