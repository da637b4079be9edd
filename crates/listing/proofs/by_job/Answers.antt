-- `listing::by_job` meets its contract: the table's refusal, or the listing with its chains.
use mathlib.Core.Path.{sym, ◌∙◌}
use Rattle.text.specs.Texts.{bytes_in}
use Rattle.listing.specs.Listings.{listing_by}
use Rattle.listing.proofs.ListingLaws.{gives_as, by_count}
use Rattle.listing.proofs.by_job.Goals as goal

pub returns-in-Ok : goal.returns-in-Ok
returns-in-Ok c =
    let f = c.args.sources.now in
    gives_as (by_count f.table.now f.scale.now c.args.log.now c.args.before f.job _ (sym c.chain_count.ensures ∙ c.in-Ok.is)) c.by_scale.ensures

pub returns-in-Err : goal.returns-in-Err
unfolding listing_by bytes_in
returns-in-Err c =
    let f = c.args.sources.now in
    gives_as (by_count f.table.now f.scale.now c.args.log.now c.args.before f.job _ (sym c.chain_count.ensures ∙ c.in-Err.is)) c.notice.ensures
