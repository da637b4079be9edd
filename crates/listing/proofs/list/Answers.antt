-- `listing::list` meets its contract: refused without room, else the job's refusal or the listing with the job.
use mathlib.Core.Path.{sym, ◌∙◌}
use native.Mathlib.Omega.{arith}
use Rattle.text.specs.Texts.{bytes_in}
use Rattle.listing.specs.Listings.{listing_by}
use Rattle.listing.proofs.ListingLaws.{gives_as, by_job, with_room, without_room}
use Rattle.listing.proofs.list.Goals as goal

pub returns-then-out-log : goal.returns-then-out-log
returns-then-out-log c =
    let told = without_room _ _ _ (omega (arith, c.if-out-log.true)) in
    record { answer = told.0; out = told.1 }

pub returns-in-Ok : goal.returns-in-Ok
returns-in-Ok c =
    let a = c.args in
    let told = with_room _ _ _ c.if-out-log.false _ _
    (gives_as (by_job a.table.now a.scale.now a.log.now a.before a.job.now _ (sym c.job_of.ensures ∙ c.in-Ok.is)) c.by_job.ensures) in
    record { answer = told.0; out = told.1 }

pub returns-in-Err : goal.returns-in-Err
unfolding listing_by bytes_in
returns-in-Err c =
    let a = c.args in
    let told = with_room _ _ _ c.if-out-log.false _ _
    (gives_as (by_job a.table.now a.scale.now a.log.now a.before a.job.now _ (sym c.job_of.ensures ∙ c.in-Err.is)) c.notice.ensures) in
    record { answer = told.0; out = told.1 }
