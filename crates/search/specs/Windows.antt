-- Squares of 2^k by 2^k cells, each named by its south-west cell (01, The records; The search and its count).
use Rattle.std.specs.Prelude.{ℕ, ◌+◌, ◌-◌, ◌≤◌, ◌<◌, ◌^◌, Bool, ◌&&◌, leb}
use Rattle.chart.specs.declared.Place.{Place}
use Rattle.chart.specs.Places.{in_range}
use Rattle.search.specs.declared.Window.{Window}

-- The place d farther east, d farther north, and d farther both ways.
abbrev pub east : ℕ → Place → Place
east d p = record { easting = p.easting + d; northing = p.northing }

abbrev pub north : ℕ → Place → Place
north d p = record { easting = p.easting; northing = p.northing + d }

abbrev pub north_east : ℕ → Place → Place
north_east d p = east d (north d p)

-- The largest exponent of a window (01, The records).
abbrev pub most_exponent : ℕ
most_exponent = 24

-- A window: k is 0 to 24, and every cell is in range, since the one farthest north-east is (01, The records).
unfoldable pub is_window : Window → Bool
is_window w = leb w.k most_exponent && in_range (north_east (2 ^ w.k - 1) w.corner)

-- The place o is a cell of the square of side 2^k whose south-west cell is p.
pub record IsCellOf (k : ℕ) (p o : Place) : Type 0 where
  pub from_west : p.easting ≤ o.easting
  pub to_east : o.easting < p.easting + 2 ^ k
  pub from_south : p.northing ≤ o.northing
  pub to_north : o.northing < p.northing + 2 ^ k

-- The same for a window.
abbrev pub IsCellIn : Window → Place → Type 0
IsCellIn w o = IsCellOf w.k w.corner o
