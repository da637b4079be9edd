-- `listing::carry` meets its contract: the first two entries are the only place.
use native.Mathlib.Omega.{arith}
use Rattle.listing.proofs.TellLaws.{carried_refused, carried_others, carried_one}
use Rattle.listing.proofs.carry.Goals as goal

pub returns-in_default : goal.returns-in_default
returns-in_default c = λ a h. carried_refused a c.args.t c.args.list.now c.in_default.field-0 c.in_default.is h

pub returns-then-told-ne1 : goal.returns-then-told-ne1
returns-then-told-ne1 c = λ a h. carried_others a c.args.t c.args.list.now c.in-Ok.told c.in-Ok.is (λ one. omega (arith, one, c.if-told-ne1.true)) h

pub returns : goal.returns
returns c = λ a h. carried_one a c.args.t c.args.list.now c.in-Ok.told c.in-Ok.is c.if-told-ne1.false h
