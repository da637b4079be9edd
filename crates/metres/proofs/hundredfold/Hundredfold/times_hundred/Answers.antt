-- `metres::hundredfold::Hundredfold::times_hundred` meets its contract: its tests refuse what they must, and the fields of the pattern
-- give the rest.
use mathlib.Core.Path.{sym, ◌∙◌, subst⁻¹}
use native.Mathlib.Omega.{arith}
use lib.Dec.{T, lit≤}
use lib.Ieee.{Float, binary64, fits, of_bits, neg}
use Rattle.metres.proofs.Digits.{Readable, refused_nan, refused_above, refused_below, readable, without_lead, exponent_few, with_lead}
use Rattle.metres.proofs.hundredfold.Hundredfold.times_hundred.Goals.{Else-x-2, then-is_nan-via-then-is_nan, then-is_nan-via-else-is_nan+then-x, then-is_nan-via-else-is_nan+else-x+then-x-2}
use Rattle.metres.proofs.hundredfold.Hundredfold.times_hundred.Goals as goal

pub returns-then-is_nan : goal.returns-then-is_nan
unfolding of_bits neg
returns-then-is_nan c =
    let x = c.args.x in
    elim c.then-is_nan.branch [
      | then-is_nan-via-then-is_nan w ↦ refused_nan x (sym c.is_nan.ensures.value ∙ w.if-is_nan.true)
      | then-is_nan-via-else-is_nan+then-x w ↦ refused_above _ _ x (lit≤ tt) w.if-x.true
      | then-is_nan-via-else-is_nan+else-x+then-x-2 w ↦ refused_below _ _ x (lit≤ tt) w.if-x-2.true
    ]

-- What holds when all three tests are passed.
module _ (c : Else-x-2) where
  abbrev x : Float
  x = c.args.x

  held : T (fits binary64 x)
  held = subst⁻¹ T c.well_formed.0.1 tt

  inside : Readable x
  unfolding of_bits neg
  inside = readable _ _ _ _ x (lit≤ tt) (lit≤ tt) (sym c.is_nan.ensures.value ∙ c.if-is_nan.false) c.if-x.false c.if-x-2.false

pub returns-then-exponent-eq0 : goal.returns-then-exponent-eq0
returns-then-exponent-eq0 c =
    let p = (goal.at.returns-then-exponent-eq0 c).Else-x-2 in
    without_lead (x p) (held p) (inside p) _ c.if-exponent-eq0.true

pub overflow_sub-result : goal.overflow_sub-result
overflow_sub-result c =
    let p = (goal.at.overflow_sub-result c).Else-x-2 in
    omega (arith, exponent_few (x p) (held p) (inside p) c.if-exponent-eq0.false)

pub returns : goal.returns
returns c =
    let p = (goal.at.returns c).Else-x-2 in
    with_lead (x p) (held p) (inside p) _ c.if-exponent-eq0.false
