-- `laylist::list_parts` returns the place that the whole stretch carries on: at each turn this is the place that the rest, starting
-- from the place carried so far, carries on.
use mathlib.Core.Path.{◌≡◌}
use lib.ListN.{length}
use Rattle.records.specs.Jobs.{job_of}
use Rattle.laylist.specs.Walks.{bytes_at_once, listing_with}
use Rattle.laylist.proofs.list_parts.Given as goal

abbrev pub invariant-loop-part : goal.invariant-loop-part
invariant-loop-part g l =
    (length l.out ≡ length l.initial.out) × ((l.part-iterator.size ≡ bytes_at_once (job_of l.inputs.job.now))
    × ((listing_with l.inputs l.log l.initial.carried).carried ≡ (listing_with l.inputs l.part-iterator.rest.now l.carried).carried))
