-- `records::is_hold` meets its contract: the bytes of the two numbers and those of the third are the bytes that a hold does not use.
use Rattle.std.proofs.Common.{arith}
use Rattle.std.proofs.lemmas.Grind.{common_steps}
use Rattle.records.proofs.ByteLaws.{hold_split}
use Rattle.records.proofs.is_hold.Goals as goal

pub returns-then-eight_zero-2 : goal.returns-then-eight_zero-2
returns-then-eight_zero-2 c = rw (hold_split c.args.s.now) (grind (arith, common_steps))

pub returns-else-eight_zero-2 : goal.returns-else-eight_zero-2
returns-else-eight_zero-2 c = rw (hold_split c.args.s.now) (grind (arith, common_steps))
