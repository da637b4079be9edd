-- When two whole numbers are a place: neither is below 0, and the place is in range.
use Prim.Native.Nat.{◌≤◌}
use mathlib.Core.Path.{◌≡◌, refl, sym}
use mathlib.Core.Bool.{true, false, true≢false}
use native.Mathlib.Omega.{arith}
use lib.IntN.{ℤ, pos, negsuc, nat_abs}
use lib.Signed.{non_neg}
use lib.Dec.{T}
use mir.Syntax.{w32}
use mir.Val.{Fits}
use mir.ValLaws.{to_z-of_z}
use Rattle.std.specs.Int.{FitsUnsignedBits}
use Rattle.chart.specs.Places.{most_easting, most_northing, in_range}
use Rattle.chart.proofs.PlaceLaws.{in_range_says, too_far_east, too_far_north}
use Rattle.records.specs.LogRecords.{is_place}

-- Two numbers that fit the fields of a place are one if it is in range.
pub fits_place : (x y : ℤ) → FitsUnsignedBits 32 x → FitsUnsignedBits 32 y → is_place x y ≡ in_range (record { easting = nat_abs x; northing = nat_abs y })
unfolding is_place
fits_place (pos e) (pos n) h k = refl
fits_place (pos e) (negsuc n) h k = absurd k
fits_place (negsuc e) y h k = absurd h

-- A number that does not fit lies west or south of the grid, or too far east or north, and there is no place.
pub no_easting : (x y : ℤ) → (FitsUnsignedBits 32 x → ⊥) → is_place x y ≡ false
unfolding is_place
no_easting (pos e) (pos n) h = too_far_east _ (omega (arith, h))
no_easting (pos e) (negsuc n) h = refl
no_easting (negsuc e) y h = refl

pub no_northing : (x y : ℤ) → (FitsUnsignedBits 32 y → ⊥) → is_place x y ≡ false
unfolding is_place
no_northing (pos e) (pos n) h = too_far_north _ (omega (arith, h))
no_northing (pos e) (negsuc n) h = refl
no_northing (negsuc e) y h = refl

-- All three, of numbers as the machine reads them back from their bits.
pub ruleset place_or_none = (to_z-of_z, fits_place, no_easting, no_northing)

-- A place's numbers are small.
pub place_small : (x y : ℤ) → is_place x y ≡ true → (nat_abs x ≤ most_easting) × (nat_abs y ≤ most_northing)
unfolding is_place
place_small (pos e) (pos n) h = in_range_says _ h
place_small (pos e) (negsuc n) h = absurd (true≢false (sym h))
place_small (negsuc e) y h = absurd (true≢false (sym h))

-- So they fit the fields of a place.
pub easting_fits : (x y : ℤ) → is_place x y ≡ true → T (non_neg x) × Fits w32 (nat_abs x)
unfolding is_place
easting_fits (pos e) y h = (tt, omega (arith, place_small (pos e) y h))
easting_fits (negsuc e) y h = absurd (true≢false (sym h))

pub northing_fits : (x y : ℤ) → is_place x y ≡ true → T (non_neg y) × Fits w32 (nat_abs y)
unfolding is_place
northing_fits x (pos n) h = (tt, omega (arith, place_small x (pos n) h))
northing_fits (pos e) (negsuc n) h = absurd (true≢false (sym h))
northing_fits (negsuc e) (negsuc n) h = absurd (true≢false (sym h))
