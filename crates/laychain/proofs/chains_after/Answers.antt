-- `laychain::chains_after` meets its contract, case by case.
use Rattle.std.proofs.Common.{sym, ap}
use Rattle.laychain.specs.Tables.{chains_after}
use Rattle.laychain.proofs.chains_after.Goals as goal

pub returns-in-Chain : goal.returns-in-Chain
unfolding chains_after
returns-in-Chain c = sym (ap (chains_after c.args.count) c.in-Chain.is)

pub returns-in-Passed : goal.returns-in-Passed
unfolding chains_after
returns-in-Passed c = sym (ap (chains_after c.args.count) c.in-Passed.is)

pub returns-in-Refused : goal.returns-in-Refused
unfolding chains_after
returns-in-Refused c = sym (ap (chains_after c.args.count) c.in-Refused.is)
