-- `metres::metres` meets its contract: the cast is exact, the one division is the definition's, and reading back is its law.
use Prim.Native.Nat.{◌≤◌}
use mathlib.Core.Path.{◌≡◌, refl, sym, ap, ap₂, ◌∙◌, subst⁻¹}
use native.Mathlib.Omega.{arith}
use lib.IntN.{ℤ, pos, nat_abs}
use lib.Ieee.{Float, binary64, of_bits, of_int, div}
use mir.Syntax.{w64}
use mir.ValLaws.{to_z-of_z}
use Rattle.std.specs.Prelude.{Some}
use Rattle.metres.specs.Metres.{most_centimetres, hundredth_of, ReadsBack}
use Rattle.metres.proofs.Back.{written, way_back}
use Rattle.metres.proofs.metres.Goals as goal

hundred_is : of_bits binary64 0x4059_0000_0000_0000 ≡ of_int binary64 (pos 100)
unfolding of_bits of_int
hundred_is = refl

divided : (y z : ℤ) → y ≡ z → div binary64 (of_int binary64 y) (of_bits binary64 0x4059_0000_0000_0000) ≡ hundredth_of z
unfolding hundredth_of
divided y z e = ap₂ (λ (n : ℤ) (x : Float). div binary64 (of_int binary64 n) x) e hundred_is

pub returns-clause-answer : goal.returns-clause-answer
returns-clause-answer c =
    let z = c.args.c in
    let same = to_z-of_z w64 z c.ranges.c in
    let near : nat_abs z ≤ most_centimetres = omega (arith, c.size.ensures ∙ ap nat_abs same) in
    ap Some (divided _ z same) ∙ sym (written z near)

pub returns-clause-back : goal.returns-clause-back
returns-clause-back c = subst⁻¹ (ReadsBack c.args.c) (returns-clause-answer c) (way_back c.args.c)
