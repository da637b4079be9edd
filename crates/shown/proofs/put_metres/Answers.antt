-- `shown::put_metres` meets its contract: the sign if the number is below 0, then its size.
use Prim.Native.Nat.{ℕ}
use mathlib.Core.Path.{◌≡◌, sym, ap, ◌∙◌}
use mathlib.Core.Bool.{Bool}
use mathlib.Core.List.{◌∷◌}
use native.Mathlib.Omega.{arith}
use lib.Signed.{lt_z}
use lib.IntN.{ℤ, pos, nat_abs}
use mir.Syntax.{w64}
use mir.Val.{to_z, of_z}
use mir.ValLaws.{to_z-of_z}
use Rattle.shown.specs.Fields.{decimal_text}
use Rattle.shown.proofs.ShownLaws.{puts_as, puts_few, puts_put, puts_both, metres_below, metres_above}
use Rattle.shown.proofs.put_metres.Goals.{Start}
use Rattle.shown.proofs.put_metres.Goals as goal

-- Read back from its 64 bits, the argument is the same.
same : (c : Start) → to_z w64 (of_z w64 c.args.z) ≡ c.args.z
same c = to_z-of_z w64 c.args.z c.ranges.z

abbrev is_below : ℤ → Bool
is_below z = lt_z z (pos 0)

pub returns-then-z-lt0 : goal.returns-then-z-lt0
returns-then-z-lt0 c =
    let back = same (goal.at.returns-then-z-lt0 c).Start in
    let n = c.size.ensures ∙ ap nat_abs back in
    let text = ap (λ (m : ℕ). 45 ∷ decimal_text m) n ∙ metres_below c.args.z (ap is_below (sym back) ∙ c.if-z-lt0.true) in
    puts_few (puts_as text (puts_both (puts_put c.put-a.ensures.end c.put-a.ensures.out) c.put_decimal.ensures)) (omega arith)

pub returns : goal.returns
returns c =
    let back = same (goal.at.returns c).Start in
    let n = c.size-2.ensures ∙ ap nat_abs back in
    let text = ap decimal_text n ∙ metres_above c.args.z (ap is_below (sym back) ∙ c.if-z-lt0.false) in
    puts_few (puts_as text c.put_decimal-2.ensures) (omega arith)
