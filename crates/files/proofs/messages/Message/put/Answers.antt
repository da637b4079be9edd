-- `files::messages::Message::put` ends within the buffer, as `text::put` does.
use Rattle.std.proofs.Common.{length, arith}
use Rattle.text.proofs.PutLaws.{ends_inside}
use Rattle.files.proofs.messages.Message.put.Goals as goal

pub invariant_of-self : goal.invariant_of-self
invariant_of-self g c =
    record { inside = omega (arith, ends_inside (length c.args.self.now.buffer) c.args.self.now.end c.args.s.now c.args.self.now.inside, c.put-self.ensures.end, c.put-self.auto.out) }
