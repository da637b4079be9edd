-- `listing::by_scale` meets its contract: 1 for a side file that does not fit the chains, or the lines.
use mathlib.Core.Path.{sym, ap, ◌∙◌}
use mathlib.Core.Bool.{Bool, cond}
use borrow.Author.Tests.{not-true, not-false}
use Rattle.refusals.specs.declared.Refusal.TheVariants as refusal
use Rattle.text.specs.Texts.{bytes_in}
use Rattle.listing.specs.Listings.{notice_of, listing_by}
use Rattle.listing.specs.Putting.{lines_in}
use Rattle.listing.proofs.ListingLaws.{gives_as}
use Rattle.listing.proofs.by_scale.Goals as goal

pub returns-then-not-is_scale : goal.returns-then-not-is_scale
unfolding listing_by bytes_in
returns-then-not-is_scale c =
    let a = c.args in
    gives_as (ap (λ (b : Bool). cond b (lines_in a.sources.now a.before a.log.now) (notice_of (bytes_in "SCALE") refusal.Length)) (sym (sym c.is_scale.ensures ∙ not-true _ c.if-not-is_scale.true-raw))) c.notice.ensures

pub returns : goal.returns
unfolding listing_by
returns c =
    let a = c.args in
    gives_as (ap (λ (b : Bool). cond b (lines_in a.sources.now a.before a.log.now) (notice_of (bytes_in "SCALE") refusal.Length)) (sym (sym c.is_scale.ensures ∙ not-false _ c.if-not-is_scale.false-raw))) c.lines.ensures
