-- `laylist::list_part` lists a part: there is room for it, so that it is not refused.
use mathlib.Core.Path.{sym, ◌∙◌}
use Rattle.listing.proofs.Fitting.{listing_fits, not_refused}
use Rattle.laylist.specs.Walks.{listing_with}
use Rattle.laylist.proofs.WalkLaws.{roomy}
use Rattle.laylist.proofs.list_part.Goals as goal

pub returns-in-Ok : goal.returns-in-Ok
returns-in-Ok c =
    let a = c.args in
    let room = roomy a.out.now a.part.now c.requires.0 c.requires.1.few in
    let fits = listing_fits a.out.now a.part.now room (listing_with a.inputs.now a.part.now a.before) (sym c.in-Ok.is ∙ c.list.ensures.answer) c.list.ensures.out in
    record { fits = fits.0; text_is = fits.1.0; carried_is = fits.1.1 }

pub returns-in-Err : goal.returns-in-Err
returns-in-Err c =
    let a = c.args in
    let room = roomy a.out.now a.part.now c.requires.0 c.requires.1.few in
    absurd (not_refused a.out.now a.part.now room (listing_with a.inputs.now a.part.now a.before) (sym c.in-Err.is ∙ c.list.ensures.answer))
