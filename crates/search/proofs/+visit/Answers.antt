-- `search::visit` meets its contract, by induction on the exponent, which falls at each call: if what is found and the list represent
-- the walk before a call, they represent it after the call, so the four calls follow one another.
use Prim.Native.Nat.{ℕ, suc, ◌+◌, ◌-◌, ◌/◌, ◌^◌, ◌≤◌}
use mathlib.Core.Path.{◌≡◌, ap, ◌∙◌, subst⁻¹}
use mathlib.Core.Bool.{true, false}
use native.Mathlib.Omega.{arith}
use mathlib.Core.List.{List}
use Rattle.std.proofs.lemmas.Result.{err_from_is_err_and}
use Rattle.std.specs.Prelude.{Result}
use Rattle.chart.specs.declared.Place.{Place}
use Rattle.search.specs.declared.Found.{Found}
use Rattle.search.specs.declared.Unfound.{Unfound}
use Rattle.chart.specs.Places.{in_range}
use Rattle.search.specs.Windows.{east, north, north_east}
use Rattle.search.specs.Questions.{is_kept}
use Rattle.search.specs.Walk.{Standing, counted, visit}
use Rattle.search.specs.Holding.{rule_by, question_by, OnChart, Holds, Represents}
use Rattle.search.proofs.HoldLaws.{halted_stays, out_halts, count_holds, cell_holds, dropped-holds, quarters-hold}
use Rattle.search.proofs.SquareLaws.{corner_in_range, k_is, half_is, middle_in_range, kept_is}
use Rattle.search.proofs.+visit.Goals.{After-near, After-north-north_west, After-north_east-middle, Else-k-eq0}
use Rattle.search.proofs.+visit.Goals as goal

-- The exponent of the quarters.
exponent : (t : ℕ) (e : Else-k-eq0 t) → e.args.k ≡ suc (e.args.k - 1)
exponent t e = let a = e.args in k_is a.k a.side a.p e.requires.0 e.if-k-eq0.false

-- The middle is in range, and the test there is the definition's.
middle_ok : (t : ℕ) (c : After-north_east-middle t) → in_range c.north_east-middle.result ≡ true
middle_ok t c =
    let a = c.args in
    subst⁻¹ (λ (o : Place). in_range o ≡ true) c.north_east-middle.ensures (middle_in_range a.k a.side a.p c.requires.0 c.if-k-eq0.false)

test_is : (t : ℕ) (c : After-near t) → let a = c.args in c.near.result ≡ is_kept (rule_by a.h.now) (a.k - 1) a.p
test_is t c =
    let a = c.args in
    c.near.ensures
    ∙ kept_is a.k a.side a.p c.requires.0 c.if-k-eq0.false (rule_by a.h.now) _ c.north_east-middle.ensures

-- Where the other three corners lie.
parts : (t : ℕ) (n : After-north-north_west t) → let a = n.args in let se = n.east-south_east.result in let nw = n.north-north_west.result in let ne = n.north_east-middle.result in
    (se.easting ≡ a.p.easting + a.side / 2) × (se.northing ≡ a.p.northing) × (nw.easting ≡ a.p.easting) × (nw.northing ≡ a.p.northing + a.side / 2) × (ne.easting ≡ a.p.easting + a.side / 2) × (ne.northing ≡ a.p.northing + a.side / 2)
parts t n =
    let easting : Place → ℕ = λ o. o.easting in
    let northing : Place → ℕ = λ o. o.northing in
    let se = n.east-south_east.ensures in
    let nw = n.north-north_west.ensures in
    let ne = n.north_east-middle.ensures in
    (ap easting se, ap northing se, ap easting nw, ap northing nw, ap easting ne, ap northing ne)

-- A square of half the side, whose corner is at most half a side east and north of p, lies on the chart.
quarter : (t : ℕ) (n : After-north-north_west t) (o : Place) → let a = n.args in
    o.easting ≤ a.p.easting + a.side / 2 → o.northing ≤ a.p.northing + a.side / 2 → OnChart (a.k - 1) (a.side / 2) o
quarter t n o e f =
    let w = n.requires.0 in
    record { side_is = half_is n.args.k n.args.side n.args.p n.requires.0 n.if-k-eq0.false; east = omega (arith, w.east); north = omega (arith, w.north) }

-- What represents the walk after the four quarters represents it after the square.
square_told : (t : ℕ) (n : After-north-north_west t) (s : Standing) → let a = n.args in let q = question_by a.h.now in let k = a.k - 1 in
    Holds s a.t a.list.now → (r : Result Found Unfound) (l : List ℕ) →
    Represents (visit q k n.north_east-middle.result (visit q k n.north-north_west.result (visit q k n.east-south_east.result (visit q k a.p (counted s))))) r l →
    Represents (visit q a.k a.p s) r l
square_told t n s h r l g =
    let a = n.args in
    let half : a.side / 2 ≡ 2 ^ (a.k - 1) = half_is a.k a.side a.p n.requires.0 n.if-k-eq0.false in
    let test : n.near.result ≡ is_kept (rule_by a.h.now) (a.k - 1) a.p =
    n.near.ensures ∙ kept_is a.k a.side a.p n.requires.0 n.if-k-eq0.false (rule_by a.h.now) _ n.north_east-middle.ensures in
    let kept : is_kept (rule_by a.h.now) (a.k - 1) a.p ≡ true = cc test in
    quarters-hold s a.t a.list.now h (question_by a.h.now) a.p n.if-h-t.false a.k (a.k - 1) _ _ _ r l (k_is a.k a.side a.p n.requires.0 n.if-k-eq0.false) kept
    (n.east-south_east.ensures ∙ ap (λ (d : ℕ). east d a.p) half)
    (n.north-north_west.ensures ∙ ap (λ (d : ℕ). north d a.p) half)
    (n.north_east-middle.ensures ∙ ap (λ (d : ℕ). north_east d a.p) half)
    g

pub returns-then-h-t : goal.returns-then-h-t
returns-then-h-t t c = λ s h.
    let a = c.args in
    out_halts s a.t a.list.now h (question_by a.h.now) a.p a.k (omega (arith, c.if-h-t.true))

pub returns-then-k-eq0 : goal.returns-then-k-eq0
returns-then-k-eq0 t c = λ s h.
    let a = c.args in
    cell_holds s a.t a.list.now h (question_by a.h.now) a.p c.if-h-t.false a.k _ _ c.if-k-eq0.true
    (c.cell.ensures (counted s) (count_holds s a.t a.list.now h))

pub cell-requires : goal.cell-requires
cell-requires t c =
    let a = c.args in
    (corner_in_range a.k a.side a.p c.requires.0, c.requires.1)

pub distance-m-requires : goal.distance-m-requires
distance-m-requires t c = (middle_ok t (goal.at.distance-m-requires t c).After-north_east-middle, c.args.h.now.master_on_grid)

pub near-requires : goal.near-requires
near-requires t c =
    (middle_ok t (goal.at.near-requires t c).After-north_east-middle, c.distance-m.ensures.0, c.distance-m.ensures.1, omega (arith, c.args.h.now.tolerable, c.requires.0.east, c.requires.0.side_is))

pub returns-then-not-near : goal.returns-then-not-near
returns-then-not-near t c = λ s h.
    let a = c.args in
    let kept = test_is t (goal.at.returns-then-not-near t c).After-near in
    let dropped : is_kept (rule_by a.h.now) (a.k - 1) a.p ≡ false = cc kept in
    dropped-holds s a.t a.list.now h (question_by a.h.now) a.p c.if-h-t.false a.k (a.k - 1) (exponent t (goal.at.returns-then-not-near t c).Else-k-eq0) dropped

-- A quarter may be visited: its exponent is less, it lies on the chart, and the list keeps its length.
pub visit-requires : goal.visit-requires
visit-requires t c =
    let n = (goal.at.visit-requires t c).After-north-north_west in (
      omega (arith, c.if-k-eq0.false, c),
      (quarter t n _ (omega (arith, parts t n)) (omega (arith, parts t n)), omega (arith, c.requires.1)),
    )

pub visit-requires-2 : goal.visit-requires-2
visit-requires-2 t c =
    let n = (goal.at.visit-requires-2 t c).After-north-north_west in (
      omega (arith, c.if-k-eq0.false, c),
      (quarter t n _ (omega (arith, parts t n)) (omega (arith, parts t n)), omega (arith, c.requires.1, c.visit.auto.list)),
    )

pub visit-requires-3 : goal.visit-requires-3
visit-requires-3 t c =
    let n = (goal.at.visit-requires-3 t c).After-north-north_west in (
      omega (arith, c.if-k-eq0.false, c),
      (quarter t n _ (omega (arith, parts t n)) (omega (arith, parts t n)), omega (arith, c.requires.1, c.visit.auto.list, c.visit-2.auto.list)),
    )

pub visit-requires-4 : goal.visit-requires-4
visit-requires-4 t c =
    let n = (goal.at.visit-requires-4 t c).After-north-north_west in (
      omega (arith, c.if-k-eq0.false, c),
      (quarter t n _ (omega (arith, parts t n)) (omega (arith, parts t n)), omega (arith, c.requires.1, c.visit.auto.list, c.visit-2.auto.list, c.visit-3.auto.list)),
    )

-- A stop in one quarter is a stop of the square.
pub returns-in_err-sw : goal.returns-in_err-sw
returns-in_err-sw t c = λ s h.
    let a = c.args in
    let q = question_by a.h.now in
    let up = err_from_is_err_and c.from_residual.result c.from_residual.ensures.1 in
    let halted = c.in_err-sw.ensures (counted s) (count_holds s a.t a.list.now h) in
    square_told t (goal.at.returns-in_err-sw t c).After-north-north_west s h _ _
    (rw (up.1, up.2) (halted_stays q _ _ _ _ (halted_stays q _ _ _ _ (halted_stays q _ _ _ _ halted))))

pub returns-in_err-se : goal.returns-in_err-se
returns-in_err-se t c = λ s h.
    let a = c.args in
    let q = question_by a.h.now in
    let up = err_from_is_err_and c.from_residual-in_err-se.result c.from_residual-in_err-se.ensures.1 in
    let sw = c.in_ok-sw.ensures (counted s) (count_holds s a.t a.list.now h) in
    let halted = c.in_err-se.ensures _ sw in
    square_told t (goal.at.returns-in_err-se t c).After-north-north_west s h _ _
    (rw (up.1, up.2) (halted_stays q _ _ _ _ (halted_stays q _ _ _ _ halted)))

pub returns-in_err-nw : goal.returns-in_err-nw
returns-in_err-nw t c = λ s h.
    let a = c.args in
    let q = question_by a.h.now in
    let up = err_from_is_err_and c.from_residual-in_err-nw.result c.from_residual-in_err-nw.ensures.1 in
    let sw = c.in_ok-sw.ensures (counted s) (count_holds s a.t a.list.now h) in
    let se = c.in_ok-se.ensures _ sw in
    let halted = c.in_err-nw.ensures _ se in
    square_told t (goal.at.returns-in_err-nw t c).After-north-north_west s h _ _
    (rw (up.1, up.2) (halted_stays q _ _ _ _ halted))

pub returns : goal.returns
returns t c = λ s h.
    let a = c.args in
    let sw = c.in_ok-sw.ensures (counted s) (count_holds s a.t a.list.now h) in
    let se = c.in_ok-se.ensures _ sw in
    let nw = c.in_ok-nw.ensures _ se in
    square_told t (goal.at.returns t c).After-north-north_west s h _ _ (c.visit-4.ensures _ nw)
