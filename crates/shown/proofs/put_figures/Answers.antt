-- `shown::put_figures` meets its contract: each turn puts one number more.
use Prim.Native.Nat.{ℕ}
use mathlib.Core.Path.{◌≡◌, ap, ◌∙◌}
use native.Mathlib.Omega.{arith}
use lib.ListN.{length, get_or, take}
use lib.Seq.{take-length}
use Rattle.text.specs.Texts.{figures_text}
use Rattle.text.proofs.Digits.{digits_64}
use Rattle.text.proofs.FigureLaws.{figures_more}
use Rattle.shown.proofs.ShownLaws.{puts_none, puts_as, puts_few, puts_put, puts_both}
use Rattle.shown.proofs.put_figures.Goals as goal

pub loop-n-init : goal.loop-n-init
unfolding figures_text
loop-n-init c = puts_none c.args.out.now c.args.at 0

pub loop-n-preserved : goal.loop-n-preserved
loop-n-preserved c =
    let ns = c.args.ns.now in
    let i = c.loop-n.n-index in
    let one = puts_both (puts_put c.put-a.ensures.end c.put-a.ensures.out) (puts_put c.put_number-end.ensures.end c.put_number-end.ensures.out) in
    puts_few (puts_as (figures_more ns i c.loop-n-test.true) (puts_both c.loop-n.invariant one)) (omega (arith, digits_64 (get_or ns i 0) (c.type_inv.ns i).fits))

pub returns : goal.returns
returns c =
    let ns = c.args.ns.now in
    let ended : c.loop-n.n-index ≡ length ns = omega (arith, c.loop-n-test.false) in
    let all : take c.loop-n.n-index ns ≡ ns = ap (λ (n : ℕ). take n ns) ended ∙ take-length ns in
    puts_few (puts_as (ap figures_text all) c.loop-n.invariant) (omega (arith, ended))
