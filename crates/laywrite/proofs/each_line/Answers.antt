-- `laywrite::each_line`: after each line, what waits are records of accepted drafts.
use Rattle.std.proofs.Common.{◌≡◌, ℕ, List, ◌-◌, take, drop, subst, arith, rules}
use mathlib.Core.Path.{subst⁻¹}
use Rattle.parsing.specs.Parsed.{parsed_draft}
use Rattle.files.specs.declared.Input.{Input}
use Rattle.files.specs.declared.Input.TheVariants as input
use Rattle.files.specs.Input.{IsNext}
use Rattle.files.proofs.LineLaws.{IsLine, line_next}
use Rattle.laywrite.specs.Waiting.{HoldRecords}
use Rattle.laywrite.proofs.WaitLaws.{hold_none, hold_taken, hold_ended}
use Rattle.laywrite.proofs.each_line.Goals as goal

pub loop-line-init : goal.loop-line-init
loop-line-init g c = (hold_none c.args.out.now, (search rules, (search rules, search rules)))

pub returns-in_default : goal.returns-in_default
returns-in_default g c =
    let l = c.loop-line in
    subst⁻¹ (HoldRecords l.out) c.ended.ensures (hold_ended l.out c.next_line-input.result l.records c.args.keyboard l.invariant.0)

-- The line that comes next is within the buffer.
found : (buffer : List ℕ) (from to : ℕ) (now : List ℕ) (r : Input) (start end stop : ℕ) → IsNext buffer from to now r → r ≡ input.Line start end stop → IsLine now start end stop
found buffer from to now r start end stop next is = line_next buffer from to now (subst (IsNext buffer from to now) is next)

pub slice_bounds-judge-start : goal.slice_bounds-judge-start
slice_bounds-judge-start g c =
    let l = c.loop-line in
    let line = found l.buffer l.from l.to c.next_line-input.new.buffer _ _ _ _ c.next_line-input.ensures c.in-Line.is in
    search (rules, line.rises)

pub slice_bounds-judge-count : goal.slice_bounds-judge-count
slice_bounds-judge-count g c =
    let l = c.loop-line in
    let line = found l.buffer l.from l.to c.next_line-input.new.buffer _ _ _ _ c.next_line-input.ensures c.in-Line.is in
    line.rises

pub slice_bounds-report-start : goal.slice_bounds-report-start
slice_bounds-report-start g c =
    let l = c.loop-line in
    let line = found l.buffer l.from l.to c.next_line-input.new.buffer _ _ _ _ c.next_line-input.ensures c.in-Line.is in
    search (rules, line.rises)

pub slice_bounds-report-count : goal.slice_bounds-report-count
slice_bounds-report-count g c =
    let l = c.loop-line in
    let line = found l.buffer l.from l.to c.next_line-input.new.buffer _ _ _ _ c.next_line-input.ensures c.in-Line.is in
    line.rises

pub slice_bounds-report-end : goal.slice_bounds-report-end
slice_bounds-report-end g c =
    let l = c.loop-line in
    let line = found l.buffer l.from l.to c.next_line-input.new.buffer _ _ _ _ c.next_line-input.ensures c.in-Line.is in
    omega (arith, line.inside, line.stands)

pub overflow_add-from : goal.overflow_add-from
overflow_add-from g c =
    let l = c.loop-line in
    let line = found l.buffer l.from l.to c.next_line-input.new.buffer _ _ _ _ c.next_line-input.ensures c.in-Line.is in
    omega (arith, line.inside, line.stands)

pub loop-line-preserved : goal.loop-line-preserved
loop-line-preserved g c =
    let l = c.loop-line in
    let text = take (c.in-Line.end - c.in-Line.start) (drop c.in-Line.start c.next_line-input.new.buffer) in
    (hold_taken l.records l.out c.take-records.new.out c.judge-judged.new.bytes l.tally.gap c.args.keyboard (parsed_draft text) c.judge-judged.result c.take-records.result l.invariant.0 c.judge-judged.ensures c.take-records.ensures, (omega (arith, c.take-records.auto.out, l.invariant.1.0), (omega (arith, c.next_line-input.auto.buffer, l.invariant.1.1.0), omega (arith, c.judge-judged.auto.bytes, l.invariant.1.1.1))))

pub slice_bounds-judge-end-in-loop-line : goal.slice_bounds-judge-end-in-loop-line
slice_bounds-judge-end-in-loop-line g c =
    let l = c.loop-line in
    let line = found l.buffer l.from l.to c.next_line-input.new.buffer _ _ _ _ c.next_line-input.ensures c.in-Line.is in
    omega (arith, line.inside, line.stands)
