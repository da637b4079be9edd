-- `files::next_in` counts up to the first newline of the text.
use Rattle.std.proofs.Common.{◌≡◌, ℕ, ◌+◌, ap, ◌∙◌, arith}
use Rattle.files.specs.declared.Input.TheVariants as input
use Rattle.files.proofs.LineLaws.{newline_in, next_line, next_cut, next_end}
use Rattle.files.proofs.lines.next_in.Goals as goal

pub returns-then-from-to : goal.returns-then-from-to
returns-then-from-to c = next_end c.args.buffer.now c.args.from c.args.to c.requires (omega arith)

pub returns-then-n-to : goal.returns-then-n-to
returns-then-n-to c =
    let n : c.line_end-n.result ≡ newline_in c.args.buffer.now c.args.from c.args.to = c.line_end-n.ensures in
    next_cut c.args.buffer.now c.args.from c.args.to c.requires (omega arith) (omega (arith, n))

pub returns : goal.returns
returns c =
    let n : c.line_end-n.result ≡ newline_in c.args.buffer.now c.args.from c.args.to = c.line_end-n.ensures in
    ap (λ (m : ℕ). input.Line c.args.from (c.args.from + m) c.args.to) n
    ∙ next_line c.args.buffer.now c.args.from c.args.to c.requires (omega (arith, n))
