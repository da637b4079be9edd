-- What being a window means: its exponent is at most 24, and its squares lie on the chart.
use Prim.Native.Nat.{ℕ, ◌-◌, ◌≤◌, ◌<◌, ◌^◌}
use mathlib.Core.Path.{◌≡◌, refl, ap, ◌∙◌}
use mathlib.Core.Bool.{Bool, true, false, ◌&&◌}
use native.Mathlib.Omega.{arith}
use native.Mathlib.Nat.{pow-le-pow_right, le_refl}
use lib.Dec.{leb, lit<}
use lib.Pow.{pow_pos}
use borrow.Author.Tests.{leb-true, le-leb, lt-leb}
use Rattle.chart.specs.declared.Place.{Place}
use Rattle.chart.specs.Places.{in_range}
use Rattle.chart.proofs.PlaceLaws.{both, in_range_says, says_in_range}
use Rattle.search.specs.declared.Window.{Window}
use Rattle.search.specs.Windows.{north_east, most_exponent, is_window, IsCellIn}
use Rattle.search.specs.Holding.{OnChart}

-- If the exponent is too large, it is not a window; if it is not, the cell farthest north-east decides.
pub too_large_k : (w : Window) → most_exponent < w.k → is_window w ≡ false
unfolding is_window
too_large_k w h = ap (λ (b : Bool). b && in_range (north_east (2 ^ w.k - 1) w.corner)) (lt-leb _ _ h)

pub by_last_cell : (w : Window) → w.k ≤ most_exponent → is_window w ≡ in_range (north_east (2 ^ w.k - 1) w.corner)
unfolding is_window
by_last_cell w h = ap (λ (b : Bool). b && in_range (north_east (2 ^ w.k - 1) w.corner)) (le-leb _ _ h)

-- A window's exponent is at most 24, and every square at its corner that is no larger lies on the chart.
pub window_says : (w : Window) → is_window w ≡ true → (w.k ≤ most_exponent) × ((k side : ℕ) → k ≤ w.k → side ≡ 2 ^ k → OnChart k side w.corner)
unfolding is_window
window_says w e =
    let two = both (leb w.k most_exponent) (in_range (north_east (2 ^ w.k - 1) w.corner)) e in
    let far = in_range_says (north_east (2 ^ w.k - 1) w.corner) two.1 in
    let some : 0 < 2 ^ w.k = pow_pos w.k in (
      leb-true _ _ two.0,
      λ k side h is.
          let less : 2 ^ k ≤ 2 ^ w.k = pow-le-pow_right {n = 2} (lit< tt) h in
          record { side_is = is; east = omega (arith, far.0); north = omega (arith, far.1) },
    )

-- Every cell of a window is in range.
pub every_cell_in_range : (w : Window) (o : Place) → is_window w ≡ true → IsCellIn w o → in_range o ≡ true
every_cell_in_range w o e i =
    let on = (window_says w e).1 w.k (2 ^ w.k) (le_refl w.k) refl in
    says_in_range o (omega (arith, on.east, i.to_east)) (omega (arith, on.north, i.to_north))

-- And a square of at most that exponent whose cells are all in range is a window.
pub in_range_is_window : (w : Window) → w.k ≤ most_exponent → ((o : Place) → IsCellIn w o → in_range o ≡ true) → is_window w ≡ true
in_range_is_window w h all =
    let some : 0 < 2 ^ w.k = pow_pos w.k in
    by_last_cell w h
    ∙ all (north_east (2 ^ w.k - 1) w.corner)
    (record { from_west = omega arith; to_east = omega arith; from_south = omega arith; to_north = omega arith })
