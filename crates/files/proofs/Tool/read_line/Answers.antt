-- `files::Tool::read_line` answers with what comes next up to where the text now ends.
use Rattle.std.proofs.Common.{◌+◌, arith, rules}
use Rattle.files.specs.Input.{read}
use Rattle.files.proofs.Tool.read_line.Goals as goal

pub returns-then-more-eq0-clause-next : goal.returns-then-more-eq0-clause-next
returns-then-more-eq0-clause-next g c = read c.loop-end.end c.loop-end.invariant.0 (search rules) c.next_in.ensures

pub returns-then-line_end-more-clause-next : goal.returns-then-line_end-more-clause-next
returns-then-line_end-more-clause-next g c =
    read (c.loop-end.end + c.in-Ok.more) (omega (arith, c.loop-end.invariant.0)) (search rules) c.next_in-then-line_end-more.ensures

pub returns-clause-next : goal.returns-clause-next
returns-clause-next g c = read c.loop-end.end c.loop-end.invariant.0 (search rules) c.next_in-2.ensures
