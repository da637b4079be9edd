-- `laychain::read_chains`: each line that is accepted puts one chain after the others.
use Rattle.std.proofs.Common.{◌≡◌, ℕ, List, cond, sym, ap, ◌∙◌, subst, arith, rules}
use mathlib.Core.Path.{subst⁻¹}
use Rattle.chart.proofs.PlaceLaws.{both}
use Rattle.files.specs.declared.Input.{Input}
use Rattle.files.specs.declared.Input.TheVariants as input
use Rattle.files.specs.Input.{IsNext}
use Rattle.files.proofs.LineLaws.{IsLine, line_next, holds_at_end}
use Rattle.laychain.specs.Tables.{chains_after, is_well, HoldsChains}
use Rattle.laychain.proofs.TableLaws.{no_chains, one_more_line, held_if}
use Rattle.laychain.proofs.read_chains.Goals as goal

pub loop-line-init : goal.loop-line-init
loop-line-init g c =
    let a = c.args in
    (search rules, (search rules, (search rules, (search rules, λ _. no_chains a.table.now a.scale.now))))

pub returns-in_default : goal.returns-in_default
returns-in_default g c =
    let l = c.loop-line in
    let holds = HoldsChains l.table l.scale in
    subst⁻¹ holds c.ended.ensures
    (holds_at_end holds c.next_line-input.result (cond l.well l.count 0) 0
    (held_if l.table l.scale l.count l.well l.invariant.1.1.1.1) (no_chains l.table l.scale))

-- The line that comes is within the buffer.
found : (buffer : List ℕ) (from to : ℕ) (now : List ℕ) (r : Input) (start end stop : ℕ) → IsNext buffer from to now r → r ≡ input.Line start end stop → IsLine now start end stop
found buffer from to now r start end stop next is = line_next buffer from to now (subst (IsNext buffer from to now) is next)

pub slice_bounds-put_line-start : goal.slice_bounds-put_line-start
slice_bounds-put_line-start g c =
    let l = c.loop-line in
    let line = found l.buffer l.from l.to c.next_line-input.new.buffer _ _ _ _ c.next_line-input.ensures c.in-Line.is in
    search (rules, line.rises)

pub slice_bounds-put_line-count : goal.slice_bounds-put_line-count
slice_bounds-put_line-count g c =
    let l = c.loop-line in
    (found l.buffer l.from l.to c.next_line-input.new.buffer _ _ _ _ c.next_line-input.ensures c.in-Line.is).rises

pub slice_bounds-put_line-end : goal.slice_bounds-put_line-end
slice_bounds-put_line-end g c =
    let l = c.loop-line in
    let line = found l.buffer l.from l.to c.next_line-input.new.buffer _ _ _ _ c.next_line-input.ensures c.in-Line.is in
    omega (arith, line.inside, line.stands)

pub slice_bounds-report-start : goal.slice_bounds-report-start
slice_bounds-report-start g c =
    let l = c.loop-line in
    let line = found l.buffer l.from l.to c.next_line-input.new.buffer _ _ _ _ c.next_line-input.ensures c.in-Line.is in
    search (rules, line.rises)

pub slice_bounds-report-count : goal.slice_bounds-report-count
slice_bounds-report-count g c =
    let l = c.loop-line in
    (found l.buffer l.from l.to c.next_line-input.new.buffer _ _ _ _ c.next_line-input.ensures c.in-Line.is).rises

pub slice_bounds-report-end : goal.slice_bounds-report-end
slice_bounds-report-end g c =
    let l = c.loop-line in
    let line = found l.buffer l.from l.to c.next_line-input.new.buffer _ _ _ _ c.next_line-input.ensures c.in-Line.is in
    omega (arith, line.inside, line.stands)

pub returns-then-count-gt-MOST_CHAINS : goal.returns-then-count-gt-MOST_CHAINS
returns-then-count-gt-MOST_CHAINS g c =
    subst⁻¹ (HoldsChains c.put_line-verdict.new.table c.put_line-verdict.new.scale) c.none.ensures (no_chains c.put_line-verdict.new.table c.put_line-verdict.new.scale)

pub overflow_add-from : goal.overflow_add-from
overflow_add-from g c =
    let l = c.loop-line in
    let line = found l.buffer l.from l.to c.next_line-input.new.buffer _ _ _ _ c.next_line-input.ensures c.in-Line.is in
    omega (arith, line.inside, line.stands)

pub loop-line-preserved : goal.loop-line-preserved
loop-line-preserved g c =
    let l = c.loop-line in (
      search rules,
      (
        search rules,
        (
          search rules,
          (
            omega (arith, c.next_line-input.auto.buffer, l.invariant.1.1.1.0),
            λ e.
                let good = both l.well (is_well c.put_line-verdict.result) (sym c.accepted-well.ensures ∙ e) in
                subst⁻¹ (HoldsChains c.put_line-verdict.new.table c.put_line-verdict.new.scale) (c.chains_after-count.ensures ∙ ap (chains_after l.count) c.put_line-verdict.ensures.answer)
                (one_more_line l.table l.scale c.put_line-verdict.new.table c.put_line-verdict.new.scale _ l.count l.invariant.1.0 l.invariant.1.1.0 (l.invariant.1.1.1.1 good.0) (ap is_well (sym c.put_line-verdict.ensures.answer) ∙ good.1) c.put_line-verdict.ensures.table c.put_line-verdict.ensures.scale),
          ),
        ),
      ),
    )

pub returns : goal.returns
returns g c = no_chains c.loop-line.table c.loop-line.scale

pub returns-else-count-gt-MOST_CHAINS : goal.returns-else-count-gt-MOST_CHAINS
returns-else-count-gt-MOST_CHAINS g c = no_chains _ _
