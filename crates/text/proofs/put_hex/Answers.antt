-- `text::put_hex` meets its contract: each turn puts the digits of one more byte.
use Prim.Native.Nat.{ℕ, ◌*◌, ◌≤◌}
use mathlib.Core.Path.{◌≡◌, ap, ◌∙◌}
use mathlib.Core.List.{List}
use native.Mathlib.Omega.{arith}
use lib.ListN.{length, take}
use lib.Seq.{length-take-le}
use Rattle.text.specs.Texts.{hex_of}
use Rattle.text.proofs.HexLaws.{length_hex, hex_more}
use Rattle.text.proofs.PutLaws.{put_length, put_then, put_none, put_as}
use Rattle.text.proofs.put_hex.Goals as goal

-- The first `i` bytes have `2 * i` digits.
twice : (s : List ℕ) (i : ℕ) → i ≤ length s → length (hex_of (take i s)) ≡ 2 * i
twice s i h = length_hex (take i s) ∙ ap (λ (n : ℕ). 2 * n) (length-take-le i s h)

pub loop-b-init : goal.loop-b-init
unfolding hex_of
loop-b-init c = put_none c.args.out.now c.args.at (omega (arith, c.requires))

pub put_pair-end-requires : goal.put_pair-end-requires
put_pair-end-requires c =
    let loop = c.loop-b in
    omega (arith, c.requires, loop.invariant.end_is, twice c.args.s.now loop.b-index loop.auto.b-index-end, put_length loop.invariant)

pub loop-b-preserved : goal.loop-b-preserved
loop-b-preserved c =
    let loop = c.loop-b in
    put_as (hex_more c.args.s.now loop.b-index (omega arith)) (put_then loop.invariant c.put_pair-end.ensures)
