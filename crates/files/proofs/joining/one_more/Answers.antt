-- `files::joining::one_more` puts a first word, or a further one after a space.
use Rattle.std.proofs.Common.{◌<◌, length, arith}
use Rattle.files.proofs.WordLaws.{puts_first, puts_next}
use Rattle.files.proofs.joining.one_more.Goals as goal

pub returns-then-end-eq0 : goal.returns-then-end-eq0
returns-then-end-eq0 g c = λ n ws which.
    puts_first c.args.line.now c.put_argument.new.line c.put_argument.result n c.args.end c.args.i (omega arith) c.put_argument.ensures ws which

pub returns : goal.returns
returns g c = λ n ws which.
    let some : 0 < c.args.end = omega arith in
    let room : c.args.end < length c.args.line.now = omega arith in
    puts_next c.args.line.now c.put_argument-2.new.line c.put_argument-2.result n c.args.end c.args.i some room c.put_argument-2.ensures ws which
