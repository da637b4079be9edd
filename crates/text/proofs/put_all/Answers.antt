-- `text::put_all` meets its contract: each turn puts one byte more of the text.
use Prim.Native.Nat.{ℕ, ◌+◌}
use mathlib.Core.Path.{◌≡◌, subst}
use mathlib.Core.List.{List, []}
use native.Mathlib.Omega.{arith}
use lib.ListN.{length, take}
use lib.Seq.{take-length}
use Rattle.text.specs.Puts.{Put}
use Rattle.text.proofs.PutLaws.{put_none, put_more}
use Rattle.text.proofs.put_all.Goals as goal

pub loop-i-init : goal.loop-i-init
loop-i-init c =
    let here : c.args.at ≡ c.args.at + 0 = omega arith in
    subst (Put c.args.out.now c.args.at [] c.args.out.now) here (put_none c.args.out.now c.args.at (omega (arith, c.requires)))

pub loop-i-preserved : goal.loop-i-preserved
loop-i-preserved c =
    let a = c.args in
    let l = c.loop-i in
    put_more a.out.now a.at a.s.now l.out l.i (omega arith) l.invariant (omega (arith, c.requires, l.auto.out))

pub returns : goal.returns
returns c =
    let a = c.args in
    let l = c.loop-i in
    let all : l.i ≡ length a.s.now = omega arith in
    subst (λ (x : List ℕ). Put a.out.now a.at x l.out (a.at + length a.s.now)) (take-length a.s.now)
    (subst (λ (n : ℕ). Put a.out.now a.at (take n a.s.now) l.out (a.at + n)) all l.invariant)
