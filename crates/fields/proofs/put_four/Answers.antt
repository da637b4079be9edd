-- `fields::put_four` meets its contract: the bytes that are put are those of the number.
use mathlib.Core.Path.{◌∙◌}
use Rattle.fields.proofs.Words.{number_bytes}
use Rattle.fields.proofs.put_four.Goals as goal

pub returns-clause-buffer : goal.returns-clause-buffer
returns-clause-buffer c = c.put.ensures.buffer 4 c.args.n (c.to_le_bytes.ensures ∙ number_bytes 4 c.args.n)
