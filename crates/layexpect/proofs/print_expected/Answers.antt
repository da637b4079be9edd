-- `layexpect::print_expected` prints only the text that `shown::expected` put into the buffer.
use Rattle.std.proofs.Common.{◌∙◌, sym, arith}
use lib.ListN.{length-take}
use Rattle.shown.proofs.Fitting.{text_fits}
use Rattle.layexpect.proofs.print_expected.Goals as goal

pub slice_bounds-out-end : goal.slice_bounds-out-end
slice_bounds-out-end g c = omega (arith, text_fits _ _ (sym c.in-Ok.is ∙ c.expected.ensures.answer) c.expected.ensures.out)

pub slice_bounds-print-end : goal.slice_bounds-print-end
slice_bounds-print-end g c =
    omega (arith, text_fits _ _ (sym c.in-Ok.is ∙ c.expected.ensures.answer) c.expected.ensures.out, length-take c.in-Ok.n c.expected.new.out)
