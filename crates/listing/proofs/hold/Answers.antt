-- `listing::hold` meets its contract, whether a place was carried to it or nothing.
use mathlib.Core.Path.{sym, ap}
use Rattle.std.specs.Prelude.{Ok, Err}
use Rattle.search.specs.declared.Stopped.{Stopped}
use Rattle.listing.specs.declared.Told.{Told}
use Rattle.listing.specs.Answers.{hold_of}
use Rattle.listing.proofs.TellLaws.{tells_as, told_as, hold_tells, refused_tells}
use Rattle.listing.proofs.hold.Goals as goal

pub returns-in-Some : goal.returns-in-Some
unfolding hold_of
returns-in-Some c =
    tells_as (sym (ap hold_of c.in-Some.is))
    (told_as (ap (λ (t : Told). Ok t) c.single.ensures.told) (hold_tells c.in-Some.field-0.place c.in-Some.field-0.rounded c.single.new.list c.single.ensures.list))

pub returns-in-None : goal.returns-in-None
unfolding hold_of
returns-in-None c =
    tells_as (sym (ap hold_of c.in-None.is)) (told_as (ap (λ (s : Stopped). Err s) c.unvisited.ensures) (refused_tells _ _ _))
