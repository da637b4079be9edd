-- A number as its field holds it passes the same tests as the number itself, as long as the limit tested for is less than the
-- greatest that the field holds; and if it passes them, it is the number itself.
use Prim.Native.Nat.{ℕ, zero, suc, ◌+◌, ◌-◌, ◌^◌, ◌≤◌, ◌<◌}
use mathlib.Core.Path.{◌≡◌, refl, sym, ap, ap₂, ◌∙◌}
use mathlib.Core.Bool.{Bool, true, false, ◌&&◌}
use native.Mathlib.Omega.{arith}
use borrow.Author.Tests.{leb-true, leb-false, le-leb, lt-leb, eqb-true, eqb-false, eq-eqb, ne_eqb}
use lib.Dec.{leb, eqb}
use lib.IntN.{ℤ, pos, negsuc, neg_ℤ, nat_abs}
use Rattle.metres.specs.Metres.{signed, most_centimetres}
use Rattle.chart.specs.declared.Place.{Place}
use Rattle.chart.specs.declared.Chain.{Chain}
use Rattle.chart.specs.Places.{most_easting, most_northing, in_range}
use Rattle.chart.specs.Factors.{least_factor, most_factor, is_factor}
use Rattle.chart.specs.Chains.{stations_of, all_in_range, no_two_equal, is_sound}
use Rattle.chart.proofs.PlaceLaws.{both, in_range_says}
use Rattle.chart.proofs.GroundLaws.{factor_says}
use Rattle.chart.proofs.ChainLaws.{each_in_range}
use Rattle.search.specs.declared.Window.{Window}
use Rattle.search.specs.Windows.{north_east, most_exponent, is_window}
use Rattle.records.specs.LogRecords.{is_place}
use Rattle.records.specs.ChainTables.{one_to}
use Rattle.parsing.specs.Numbers.{held}

-- Two tests that pass together and fail together are equal.
leb_agree : (a b most : ℕ) → (most < b → most < a) → (b ≤ most → a ≤ most) → leb a most ≡ leb b most
leb_agree a b most f g = go (leb b most) refl
  where
    go : (t : Bool) → leb b most ≡ t → leb a most ≡ t
    go true e = le-leb a most (g (leb-true b most e))
    go false e = lt-leb a most (f (leb-false b most e))

-- A number that fits its field is held as it is.
pub number_held : (bits n : ℕ) → n < 2 ^ bits → held bits n ≡ n
number_held bits n h = omega arith

-- The tests: at most `most`, at most `most` after adding `more`, at least `least`, equal to m, from 1 to `most`.
pub held_most : (bits n most : ℕ) → most + 1 < 2 ^ bits → leb (held bits n) most ≡ leb n most
held_most bits n most h = leb_agree (held bits n) n most (λ l. omega arith) (λ l. omega arith)

held_farther : (bits n more most : ℕ) → most + 1 < 2 ^ bits → leb (held bits n + more) most ≡ leb (n + more) most
held_farther bits n more most h = leb_agree (held bits n + more) (n + more) most (λ l. omega arith) (λ l. omega arith)

pub held_least : (bits n least : ℕ) → least < 2 ^ bits → leb least (held bits n) ≡ leb least n
held_least bits n least h = go (leb least n) refl
  where
    go : (t : Bool) → leb least n ≡ t → leb least (held bits n) ≡ t
    go true e = le-leb least (held bits n) (omega (arith, leb-true least n e))
    go false e = lt-leb least (held bits n) (omega (arith, leb-false least n e))

pub held_equal : (bits n m : ℕ) → m + 1 < 2 ^ bits → eqb (held bits n) m ≡ eqb n m
held_equal bits n m h = go (eqb n m) refl
  where
    go : (t : Bool) → eqb n m ≡ t → eqb (held bits n) m ≡ t
    go true e = eq-eqb (held bits n) m (omega (arith, eqb-true n m e))
    go false e = ne_eqb (held bits n) m (λ f. eqb-false n m e (omega arith))

pub held_one_to : (bits most n : ℕ) → most + 1 < 2 ^ bits → one_to most (held bits n) ≡ one_to most n
held_one_to bits most n h = ap₂ ◌&&◌ (held_least bits n 1 (omega arith)) (held_most bits n most h)

-- A place.
abbrev pub held_place : Place → Place
held_place p = record { easting = held 32 p.easting; northing = held 32 p.northing }

pub held_in_range : (bits e n : ℕ) → most_northing + 1 < 2 ^ bits →
    in_range (record { easting = held bits e; northing = held bits n }) ≡ in_range (record { easting = e; northing = n })
unfolding in_range
held_in_range bits e n h = ap₂ ◌&&◌ (held_most bits e most_easting (omega arith)) (held_most bits n most_northing h)

pub place_held : (p : Place) → in_range p ≡ true → held_place p ≡ p
place_held p h =
    let says = in_range_says p h in
    rw (number_held 32 p.easting (omega arith), number_held 32 p.northing (omega arith))

-- A factor.
pub held_is_factor : (f : ℕ) → is_factor (held 32 f) ≡ is_factor f
unfolding is_factor
held_is_factor f = ap₂ ◌&&◌ (held_least 32 f least_factor (omega arith)) (held_most 32 f most_factor (omega arith))

-- A chain. Stations that are equal only as their fields hold them are out of range, and so are the typed ones.
abbrev pub held_chain : Chain → Chain
held_chain c = record { master = held_place c.master; a = held_place c.a; b = held_place c.b; factor = held 32 c.factor }

held_all_in_range : (c : Chain) → all_in_range (stations_of (held_chain c)) ≡ all_in_range (stations_of c)
held_all_in_range c =
    let one : (p : Place) → in_range (held_place p) ≡ in_range p = λ p. held_in_range 32 p.easting p.northing (omega arith) in
    rw (one c.master, one c.a, one c.b)

all_held : (c : Chain) → is_factor c.factor ≡ true → all_in_range (stations_of c) ≡ true → held_chain c ≡ c
all_held c f h =
    let each = each_in_range (stations_of c) h in
    rw (place_held c.master each.0, place_held c.a each.1.0, place_held c.b each.1.1.0, number_held 32 c.factor (omega (arith, (factor_says c.factor f).1)))

pub held_sound : (c : Chain) → is_sound (held_chain c) ≡ is_sound c
unfolding is_sound
held_sound c = go (is_factor c.factor) refl (all_in_range (stations_of c)) refl
  where
    go : (f : Bool) → is_factor c.factor ≡ f → (t : Bool) → all_in_range (stations_of c) ≡ t → is_sound (held_chain c) ≡ is_sound c
    go true f true e = ap is_sound (all_held c f e)
    go true f false e =
        ap₂ (λ (t u : Bool). t && (u && no_two_equal (stations_of (held_chain c)))) (held_is_factor c.factor ∙ f) (held_all_in_range c ∙ e)
        ∙ sym (ap₂ (λ (t u : Bool). t && (u && no_two_equal (stations_of c))) f e)
    go false f t e =
        ap (λ (t : Bool). t && (all_in_range (stations_of (held_chain c)) && no_two_equal (stations_of (held_chain c)))) (held_is_factor c.factor ∙ f)
        ∙ sym (ap (λ (t : Bool). t && (all_in_range (stations_of c) && no_two_equal (stations_of c))) f)

pub chain_held : (c : Chain) → is_sound c ≡ true → held_chain c ≡ c
unfolding is_sound
chain_held c h =
    let two = both (is_factor c.factor) _ h in
    all_held c two.0 (both (all_in_range (stations_of c)) (no_two_equal (stations_of c)) two.1).0

-- A window.
abbrev pub held_window : Window → Window
held_window w = record { corner = held_place w.corner; k = held 32 w.k }

pub held_is_window : (w : Window) → is_window (held_window w) ≡ is_window w
unfolding is_window in_range
held_is_window w = go (leb w.k most_exponent) refl
  where
    go : (t : Bool) → leb w.k most_exponent ≡ t → is_window (held_window w) ≡ is_window w
    go true e =
        let same = number_held 32 w.k (omega (arith, leb-true w.k most_exponent e)) in
        rw same (ap₂ (λ (e n : Bool). leb w.k most_exponent && (e && n))
        (held_farther 32 w.corner.easting (2 ^ w.k - 1) most_easting (omega arith))
        (held_farther 32 w.corner.northing (2 ^ w.k - 1) most_northing (omega arith)))
    go false e = rw (held_most 32 w.k most_exponent (omega arith), e)

pub window_held : (w : Window) → is_window w ≡ true → held_window w ≡ w
unfolding is_window
window_held w h =
    let two = both (leb w.k most_exponent) (in_range (north_east (2 ^ w.k - 1) w.corner)) h in
    let far = in_range_says (north_east (2 ^ w.k - 1) w.corner) two.1 in
    rw (
      number_held 32 w.k (omega (arith, leb-true w.k most_exponent two.0)),
      number_held 32 w.corner.easting (omega (arith, far.0)),
      number_held 32 w.corner.northing (omega (arith, far.1)),
    )

-- A whole number as a field of 64 bits with a sign holds it.
abbrev pub held_whole : ℤ → ℤ
held_whole (pos n) = pos (held 63 n)
held_whole (negsuc n) = neg_ℤ (pos (held 63 (suc n)))

pub held-signed : (below : Bool) (n : ℕ) → held_whole (signed below n) ≡ signed below (held 63 n)
held-signed false n = refl
held-signed true zero = refl
held-signed true (suc n) = refl

held_below : (n : ℕ) → held_whole (negsuc n) ≡ negsuc (held 63 (suc n) - 1)
held_below n =
    let some : held 63 (suc n) ≡ suc (held 63 (suc n) - 1) = omega arith in
    ap (λ (m : ℕ). neg_ℤ (pos m)) some

pub held_size : (z : ℤ) → leb (nat_abs (held_whole z)) most_centimetres ≡ leb (nat_abs z) most_centimetres
held_size (pos n) = held_most 63 n most_centimetres (omega arith)
held_size (negsuc n) =
    ap (λ (z : ℤ). leb (nat_abs z) most_centimetres) (held_below n)
    ∙ leb_agree (suc (held 63 (suc n) - 1)) (suc n) most_centimetres (λ l. omega arith) (λ l. omega arith)

pub whole_held : (z : ℤ) → nat_abs z ≤ most_centimetres → held_whole z ≡ z
whole_held (pos n) h = ap pos (number_held 63 n (omega arith))
whole_held (negsuc n) h = ap (λ (m : ℕ). neg_ℤ (pos m)) (number_held 63 (suc n) (omega arith))

pub held_is_place : (x y : ℤ) → is_place (held_whole x) (held_whole y) ≡ is_place x y
unfolding is_place
held_is_place (pos e) (pos n) = held_in_range 63 e n (omega arith)
held_is_place (pos e) (negsuc n) = ap (is_place (pos (held 63 e))) (held_below n)
held_is_place (negsuc e) y = ap (λ (x : ℤ). is_place x (held_whole y)) (held_below e)
