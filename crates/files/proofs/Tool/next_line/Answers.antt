-- `files::Tool::next_line` answers from the text that is there, or from what is read after it. A `to` beyond the buffer is its end.
use Rattle.files.proofs.LineLaws.{line_there, not_there, next_there, next_read}
use Rattle.files.proofs.Tool.next_line.Goals as goal

pub returns-in-Line : goal.returns-in-Line
returns-in-Line g c =
    let b = c.args.buffer.now in
    let stop = c.least-stop in
    next_there b c.args.from c.args.to stop.result stop.ensures (line_there b c.args.from stop.result c.in-Line.is c.next_in-there.ensures) c.next_in-there.ensures

pub returns : goal.returns
returns g c =
    let b = c.args.buffer.now in
    let stop = c.least-stop in
    let none = not_there b c.args.from stop.result c.next_in-there.ensures (λ start end last. c.in_default.not-Line start end last) in
    next_read b c.args.from c.args.to stop.result stop.ensures none c.read_more.ensures
