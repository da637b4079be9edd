-- `files::messages::Message::put_number` ends within the buffer, as `text::put_number` does.
use Rattle.std.proofs.Common.{length, arith}
use Rattle.text.specs.Texts.{digits_of}
use Rattle.text.proofs.PutLaws.{ends_inside}
use Rattle.files.proofs.messages.Message.put_number.Goals as goal

pub invariant_of-self : goal.invariant_of-self
invariant_of-self g c =
    record { inside = omega (arith, ends_inside (length c.args.self.now.buffer) c.args.self.now.end (digits_of c.args.n) c.args.self.now.inside, c.put_number-self.ensures.end, c.put_number-self.auto.out) }
