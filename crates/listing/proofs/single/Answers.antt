-- `listing::single` meets its contract: the place is the first in the list.
use native.Mathlib.Omega.{arith}
use Rattle.listing.proofs.TellLaws.{two_first}
use Rattle.listing.proofs.single.Goals as goal

pub returns-clause-list : goal.returns-clause-list
returns-clause-list c = two_first c.args.list.now c.args.p.easting c.args.p.northing (omega (arith, c.requires))
