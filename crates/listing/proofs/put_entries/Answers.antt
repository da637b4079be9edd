-- `listing::put_entries` meets its contract: each turn puts one entry more.
use Prim.Native.Nat.{ℕ}
use mathlib.Core.Path.{ap, subst}
use native.Mathlib.Omega.{arith}
use lib.ListN.{get_or}
use lib.Seq.{take_all}
use Rattle.text.specs.Texts.{spaced, figures_text}
use Rattle.text.specs.Puts.{Put}
use Rattle.text.proofs.Digits.{digits_32}
use Rattle.text.proofs.PutLaws.{put_length, put_then, put_none, put_as}
use Rattle.text.proofs.FigureLaws.{figures_more}
use Rattle.listing.proofs.put_entries.Goals as goal

pub loop-entry-init : goal.loop-entry-init
unfolding figures_text
loop-entry-init c = (put_none c.args.out.now c.args.at (omega (arith, c.requires)), omega arith)

pub put_figure-end-requires : goal.put_figure-end-requires
put_figure-end-requires c =
    let loop = c.loop-entry in
    omega (arith, c.requires, loop.invariant.1, c.loop-entry-test.true, put_length loop.invariant.0)

pub loop-entry-preserved : goal.loop-entry-preserved
loop-entry-preserved c =
    let loop = c.loop-entry in
    let l = c.args.list.now in
    let put = subst (λ (n : ℕ). Put loop.out loop.end (spaced n) c.put_figure-end.new.out c.put_figure-end.result) c.from.ensures c.put_figure-end.ensures.text in (
      put_as (figures_more l loop.entry-index c.loop-entry-test.true) (put_then loop.invariant.0 put),
      omega (arith, loop.invariant.1, put.end_is, digits_32 (get_or l loop.entry-index 0) (c.type_inv.list loop.entry-index).fits),
    )

pub returns : goal.returns
returns c =
    let loop = c.loop-entry in
    let l = c.args.list.now in
    let all = take_all loop.entry-index l (omega (arith, c.loop-entry-test.false)) in
    record { text = put_as (ap figures_text all) loop.invariant.0; end = omega (arith, loop.invariant.1, loop.auto.entry-index-end) }
