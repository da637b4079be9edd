-- `laylist::list_parts` returns the place that the whole stretch carries on: at each turn this is the place that the rest, starting
-- from the place carried so far, carries on.
use Prim.Native.Nat.{ℕ, min}
use mathlib.Core.Path.{◌≡◌, refl, sym, ap, ◌∙◌}
use mathlib.Core.List.{◌++◌}
use borrow.Author.Rules.{rules}
use lib.ListN.{length}
use Rattle.records.specs.Jobs.{job_of}
use Rattle.laylist.specs.Walks.{bytes_at_once}
use Rattle.laylist.proofs.WalkLaws.{whole_records, nothing_left, goes_on}
use Rattle.laylist.proofs.list_parts.Goals as goal

pub loop-part-preserved : goal.loop-part-preserved
loop-part-preserved g c =
    let i = c.args.inputs.now in
    let loop = c.loop-part in
    let bytes = bytes_at_once (job_of i.job.now) in
    let rest = loop.part-iterator.rest.now in
    let s = c.in-Some.part.now in
    let cut : rest ≡ s ++ c.next.new.self.rest.now = search rules in
    let size : length s ≡ min loop.part-iterator.size (length rest) = search rules in
    let width : c.next.new.self.size ≡ loop.part-iterator.size = search rules in (
      search rules,
      (
        width ∙ loop.invariant.1.0,
        loop.invariant.1.1
            ∙ goes_on i c.requires.1 bytes (whole_records (job_of i.job.now) {bytes = bytes} refl).1 rest s c.next.new.self.rest.now cut (size ∙ ap (λ (n : ℕ). min n (length rest)) loop.invariant.1.0) loop.carried c.in_ok-next.next.carried c.in_ok-next.ensures,
      ),
    )

pub returns : goal.returns
returns g c =
    let loop = c.loop-part in
    let none : length loop.part-iterator.rest.now ≡ 0 = search rules in
    sym (loop.invariant.1.1 ∙ nothing_left c.args.inputs.now c.requires.1 loop.part-iterator.rest.now loop.carried none)
