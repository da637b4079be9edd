-- `files::Tool::read_more` keeps the text at the front, and what comes next depends on the buffer after it has been read.
use Rattle.std.proofs.Common.{arith}
use Rattle.files.proofs.LineLaws.{is_read}
use Rattle.files.proofs.Tool.read_more.Goals as goal

pub returns : goal.returns
returns g c =
    let kept = c.front-kept in
    let more = c.read_line in
    is_read c.args.buffer.now c.args.from c.args.to kept.result kept.new.buffer more.new.buffer kept.ensures.count kept.ensures.buffer more.ensures.kept (omega (arith, more.auto.buffer, kept.auto.buffer)) more.ensures.next
