-- `search::agrees` meets its contract: its tests are those of `Agreeing`, one after the other.
use Prim.Native.Nat.{ℕ, zero, ◌+◌, ◌-◌, ◌*◌, ◌≤◌, ◌<◌}
use mathlib.Core.Path.{◌≡◌, sym, ap, ◌∙◌}
use native.Mathlib.Omega.{arith}
use native.Mathlib.Nat.{mul-le-mul}
use lib.Dec.{leb}
use lib.IntN.{sub_ℕ}
use mir.Syntax.{w64}
use mir.Val.{Fits}
use Rattle.chart.specs.Places.{distance_of}
use Rattle.chart.specs.Factors.{on_ground}
use Rattle.chart.specs.Readings.{differ}
use Rattle.chart.proofs.GroundLaws.{factor_some}
use Rattle.search.specs.Holding.{least_for}
use Rattle.search.proofs.Agreeing.{miss, miss_is, none_near, too_far, not_far, by_low}
use Rattle.search.proofs.agrees.Goals.{After-least_for-end, After-least_for-start, After-squared-y, Start}
use Rattle.search.proofs.agrees.Goals as goal

-- A number below 2 ^ 32 has a square that fits.
square_fits : (x : ℕ) → x ≤ 4294967295 → Fits w64 (x * x)
square_fits x h = record { fits = omega (arith, mul-le-mul h h) }

some : (c : Start) → zero < c.args.factor
some c = factor_some c.args.factor c.requires.0

-- The statement's test, in terms of the squared distance.
told : (c : After-squared-y) → let a = c.args in leb (differ (sub_ℕ (on_ground a.factor (distance_of a.p a.w.now.slave)) a.m) (sub_ℕ a.w.now.above a.w.now.below)) a.slack ≡ leb (miss a.factor c.squared-y.result a.m a.w.now.above a.w.now.below) a.slack
told c =
    let a = c.args in
    ap (λ (n : ℕ). leb n a.slack) (miss_is a.factor a.p a.w.now.slave c.squared-y.result a.m a.w.now.above a.w.now.below c.squared-y.ensures.0)

-- The highest and the lowest range allowed.
abbrev high : Start → ℕ
high c = c.args.m + c.args.w.now.above + c.args.slack - c.args.w.now.below

abbrev low : Start → ℕ
low c = c.args.m + c.args.w.now.above - (c.args.w.now.below + c.args.slack)

pub returns-then-far-slack : goal.returns-then-far-slack
returns-then-far-slack c =
    let a = c.args in
    sym (told (goal.at.returns-then-far-slack c).After-squared-y ∙ none_near a.factor c.squared-y.result a.m a.w.now.above a.w.now.below a.slack (some (goal.at.returns-then-far-slack c).Start) c.if-far-slack.true)

pub overflow_mul-end : goal.overflow_mul-end
overflow_mul-end c = square_fits _ (omega (arith, c.least_for-end.ensures.1))

-- Where the allowed distances end, and where they start.
end_is : (c : After-least_for-end) → c.least_for-end.result ≡ least_for c.args.factor (c.args.m + c.args.w.now.above + c.args.slack - c.args.w.now.below + 1)
end_is c = c.least_for-end.ensures.0

pub returns-then-end-y : goal.returns-then-end-y
returns-then-end-y c =
    let a = c.args in
    sym (told (goal.at.returns-then-end-y c).After-squared-y ∙ too_far a.factor c.squared-y.result a.m a.w.now.above a.w.now.below a.slack (some (goal.at.returns-then-end-y c).Start) (high (goal.at.returns-then-end-y c).Start) _ (omega (arith, c.if-far-slack.false)) (end_is (goal.at.returns-then-end-y c).After-least_for-end) c.if-end-y.true)

pub returns-then-far-w : goal.returns-then-far-w
returns-then-far-w c =
    let a = c.args in
    sym (told (goal.at.returns-then-far-w c).After-squared-y ∙ not_far a.factor c.squared-y.result a.m a.w.now.above a.w.now.below a.slack (some (goal.at.returns-then-far-w c).Start) (high (goal.at.returns-then-far-w c).Start) _ (omega (arith, c.if-far-slack.false)) (end_is (goal.at.returns-then-far-w c).After-least_for-end) c.if-end-y.false c.if-far-w.true)

pub overflow_mul-result : goal.overflow_mul-result
overflow_mul-result c = square_fits _ (omega (arith, c.least_for-start.ensures.1))

start_is : (c : After-least_for-start) → c.least_for-start.result ≡ least_for c.args.factor (c.args.m + c.args.w.now.above - (c.args.w.now.below + c.args.slack))
start_is c = c.least_for-start.ensures.0

pub returns : goal.returns
returns c =
    let a = c.args in
    by_low a.factor c.squared-y.result a.m a.w.now.above a.w.now.below a.slack (some (goal.at.returns c).Start) (high (goal.at.returns c).Start) _ (low (goal.at.returns c).Start) _ (omega (arith, c.if-far-slack.false)) (end_is (goal.at.returns c).After-least_for-end) c.if-end-y.false (omega (arith, c.if-far-w.false)) (start_is c)
    ∙ sym (told (goal.at.returns c).After-squared-y)
