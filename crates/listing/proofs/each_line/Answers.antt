-- `listing::each_line` meets its contract: each turn lists one record more.
use Prim.Native.Nat.{ℕ, ◌<◌, min}
use mathlib.Core.Path.{◌≡◌, ap, ◌∙◌, subst⁻¹}
use mathlib.Core.List.{List, ◌++◌}
use native.Mathlib.Omega.{arith}
use borrow.Author.Rules.{rules}
use lib.ListN.{length}
use Rattle.records.specs.LogRecords.{log_bytes}
use Rattle.text.proofs.PutLaws.{put_length}
use Rattle.listing.proofs.EachLaws.{ListedTo, listed_none, listed_more, listed_all}
use Rattle.listing.proofs.each_line.Goals as goal

pub loop-record-init : goal.loop-record-init
loop-record-init c =
    let a = c.args in
    let f = a.sources.now in
    let whole : c.into_iter-record-iterator.result.rest.now ≡ a.log.now = search rules in
    let size : c.into_iter-record-iterator.result.size ≡ log_bytes = search rules in (
      subst⁻¹ (λ (rest : List ℕ). ListedTo f.job f.table.now f.scale.now a.before a.log.now rest a.out.now a.out.now 0 a.before) whole
          (listed_none f.job f.table.now f.scale.now a.before a.log.now a.out.now c.requires.1),
      (c.requires.0, size),
    )

pub one-r-requires : goal.one-r-requires
one-r-requires c =
    let listed = c.loop-record.invariant.0 in
    let some : 0 < length c.loop-record.record-iterator.rest.now = search rules in
    (c.loop-record.invariant.1.0, omega (arith, listed.room, put_length listed.lines.put, some))

pub loop-record-preserved : goal.loop-record-preserved
loop-record-preserved c =
    let f = c.args.sources.now in
    let loop = c.loop-record in
    let one = c.one-r.ensures in
    let rest = loop.record-iterator.rest.now in
    let s = c.in-Some.record.now in
    let some : 0 < length rest = search rules in
    let cut : rest ≡ s ++ c.next.new.self.rest.now = search rules in
    let size : length s ≡ min loop.record-iterator.size (length rest) = search rules in
    let width : c.next.new.self.size ≡ loop.record-iterator.size = search rules in (
      listed_more f.job f.table.now f.scale.now c.args.before c.args.log.now loop.record-iterator.rest.now c.args.out.now loop.out loop.length loop.carried loop.invariant.0
          some s c.next.new.self.rest.now cut (size ∙ ap (λ (n : ℕ). min n (length rest)) loop.invariant.1.1) _ _ _ one.line one.end one.carried,
      (c.one-r.auto.list ∙ loop.invariant.1.0, width ∙ loop.invariant.1.1),
    )

pub returns : goal.returns
returns c =
    let f = c.args.sources.now in
    let loop = c.loop-record in
    listed_all f.job f.table.now f.scale.now c.args.before c.args.log.now loop.record-iterator.rest.now c.args.out.now loop.out loop.length loop.carried loop.invariant.0 (search rules)
