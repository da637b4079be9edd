-- `layone::print_answer` prints only the text that `shown::how_many` put into the buffer.
use Rattle.std.proofs.Common.{◌∙◌, sym, arith}
use lib.ListN.{length-take}
use Rattle.shown.proofs.Fitting.{text_fits}
use Rattle.layone.proofs.print_answer.Goals as goal

pub slice_bounds-out-end : goal.slice_bounds-out-end
slice_bounds-out-end g c = omega (arith, text_fits _ _ (sym c.in-Ok.is ∙ c.how_many.ensures.answer) c.how_many.ensures.out)

pub slice_bounds-print-end : goal.slice_bounds-print-end
slice_bounds-print-end g c =
    omega (arith, text_fits _ _ (sym c.in-Ok.is ∙ c.how_many.ensures.answer) c.how_many.ensures.out, length-take c.in-Ok.n c.how_many.new.out)
