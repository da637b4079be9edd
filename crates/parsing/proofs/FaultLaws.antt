-- The word that a refusal is about is at fault: a place out of range has that easting or northing out of range.
use Prim.Native.Nat.{ℕ, ◌≤◌, ◌<◌}
use mathlib.Core.Path.{◌≡◌, refl, sym, ◌∙◌}
use mathlib.Core.Bool.{Bool, true, false, cond, ◌&&◌, false≢true}
use native.Mathlib.Omega.{arith}
use borrow.Author.Tests.{leb-false}
use lib.Dec.{leb}
use Rattle.chart.specs.declared.Place.{Place}
use Rattle.chart.proofs.PlaceLaws.{and_both}
use Rattle.chart.specs.Places.{place_of, most_easting, most_northing, in_range}
use Rattle.parsing.specs.Faults.{place_fault}

pub place_few : (p : Place) → place_fault p ≤ 1
unfolding place_fault
place_few p = go (in_range (place_of p.easting 0))
  where
    go : (t : Bool) → cond t 1 0 ≤ 1
    go true = omega arith
    go false = omega arith

pub place_at_fault : (p : Place) → in_range p ≡ false →
    (place_fault p ≡ 0 → most_easting < p.easting) × (place_fault p ≡ 1 → most_northing < p.northing)
unfolding place_fault in_range
place_at_fault p out = go (leb p.easting most_easting) refl (leb p.northing most_northing) refl
  where
    go : (t : Bool) → leb p.easting most_easting ≡ t → (u : Bool) → leb p.northing most_northing ≡ u →
        (◌≡◌ {A = ℕ} (cond (leb p.easting most_easting && leb 0 most_northing) 1 0) 0 → most_easting < p.easting)
        × (◌≡◌ {A = ℕ} (cond (leb p.easting most_easting && leb 0 most_northing) 1 0) 1 → most_northing < p.northing)
    go false e u f = (λ h. leb-false p.easting most_easting e, λ h. absurd (omega (arith, rw e at h)))
    go true e false f = (λ h. absurd (omega (arith, rw e at h)), λ h. leb-false p.northing most_northing f)
    go true e true f = absurd (false≢true (sym out ∙ and_both e f))
