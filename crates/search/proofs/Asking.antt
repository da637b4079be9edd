-- The hunt that the code makes from the readings asks the question that they ask.
use Prim.Native.Nat.{ℕ, ◌≤◌}
use mathlib.Core.Path.{◌≡◌, ap₂}
use mathlib.Core.Bool.{true}
use mathlib.Core.List.{[], ◌∷◌}
use borrow.Author.Tests.{leb-true}
use lib.Dec.{leb}
use lib.IntN.{ℤ, nat_abs}
use Rattle.chart.specs.declared.Place.{Place}
use Rattle.chart.specs.declared.Chain.{Chain}
use Rattle.chart.specs.Readings.{Wanted, wanted_of}
use Rattle.chart.proofs.PlaceLaws.{both}
use Rattle.search.specs.Questions.{Question, most_reading, none_too_large}

-- If no reading is too large, neither of the two is.
pub both_small : (c : Chain) (ra rb : ℤ) → none_too_large (wanted_of c (ra ∷ rb ∷ [])) ≡ true → (nat_abs ra ≤ most_reading) × (nat_abs rb ≤ most_reading)
unfolding none_too_large
both_small c ra rb e =
    let first = both (leb (nat_abs ra) most_reading) _ e in
    (leb-true _ _ first.0, leb-true _ _ (both (leb (nat_abs rb) most_reading) true first.1).0)

-- A slave and the reading wanted for it.
abbrev pub want : Place → ℤ → Wanted
want slave r = record { slave = slave; reading = r }

module _ (c : Chain) (tolerance allowance room : ℕ) where
  -- The question of a hunt with these two.
  abbrev pub asked : Wanted → Wanted → Question
  asked x y =
      record {
        rule = record { chain = record { master = c.master; a = x.slave; b = y.slave; factor = c.factor }; wanted = x ∷ y ∷ []; tolerance = tolerance };
        limits = record { allowance = allowance; room = room };
      }

  -- It is what the readings ask.
  pub asks : (ra rb : ℤ) (x y : Wanted) → x ≡ want c.a ra → y ≡ want c.b rb → asked x y ≡ asked (want c.a ra) (want c.b rb)
  asks ra rb x y ex ey = ap₂ asked ex ey
