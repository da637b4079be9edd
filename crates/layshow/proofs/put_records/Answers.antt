-- `layshow::put_records` puts the lines of all records, in their order: at each turn those so far are put, and those of the rest
-- follow.
use Prim.Native.Nat.{ℕ, ◌+◌, min}
use mathlib.Core.Path.{◌≡◌, ap, ◌∙◌, subst⁻¹}
use mathlib.Core.List.{List}
use native.Mathlib.Omega.{arith}
use borrow.Author.Rules.{rules}
use lib.ListN.{length}
use Rattle.records.specs.LogRecords.{log_bytes}
use Rattle.records.proofs.Pieces.{record_width}
use Rattle.layshow.specs.Walks.{record_line_at}
use Rattle.layshow.proofs.WalkLaws.{ShownTo, shown_none, room_next, shown_more, shown_all}
use Rattle.layshow.proofs.put_records.Goals.{In-Some}
use Rattle.layshow.proofs.put_records.Goals as goal

pub loop-record-init : goal.loop-record-init
loop-record-init c =
    let a = c.args in
    let whole : c.into_iter-record-iterator.result.rest.now ≡ a.log.now = search rules in
    let size : c.into_iter-record-iterator.result.size ≡ log_bytes = search rules in
    (size, (1, subst⁻¹ (λ (rest : List ℕ). ShownTo record_line_at log_bytes 0 (length a.out.now) a.log.now a.out.now rest 1 a.out.now 0) whole (shown_none (omega (arith, c.requires)) (omega arith))))

-- A record that is next has as many bytes as a record, or those that are left.
size : (c : In-Some) → length c.in-Some.record.now ≡ min log_bytes (length c.loop-record.record-iterator.rest.now)
size c = c.in-Some.ensures.steps.1.1 ∙ ap (λ (n : ℕ). min n (length c.loop-record.record-iterator.rest.now)) c.loop-record.invariant.0

pub put_record-end-requires : goal.put_record-end-requires
put_record-end-requires c =
    let shown = c.loop-record.invariant.1.1 in
    let step = c.in-Some.ensures.steps in
    let fits = size (goal.at.put_record-end-requires c).In-Some in
    omega (arith, room_next record_width shown c.in-Some.record.now c.next.new.self.rest.now step.1.0 fits step.1.2, shown.within, fits)

pub loop-record-preserved : goal.loop-record-preserved
loop-record-preserved c =
    let shown = c.loop-record.invariant.1 in
    let step = c.in-Some.ensures.steps in
    let fits = size (goal.at.loop-record-preserved c).In-Some in
    (step.0 ∙ c.loop-record.invariant.0, (shown.0 + 1, shown_more record_width shown.1 c.in-Some.record.now c.next.new.self.rest.now step.1.0 fits step.1.2 c.put_record-end.ensures))

pub returns : goal.returns
returns c = shown_all record_width c.loop-record.invariant.1.1 c.in-None.ensures.steps.1.0
