-- `listing::each_line` meets its contract: each turn lists one record more.
use mathlib.Core.Path.{◌≡◌}
use lib.ListN.{length}
use Rattle.records.specs.LogRecords.{log_bytes}
use Rattle.listing.specs.Putting.{list_entries}
use Rattle.listing.proofs.EachLaws.{ListedTo}
use Rattle.listing.proofs.each_line.Given as goal

abbrev pub invariant-loop-record : goal.invariant-loop-record
invariant-loop-record l =
    ListedTo l.sources.job l.sources.table.now l.sources.scale.now l.initial.carried l.log l.record-iterator.rest.now l.initial.out l.out l.length l.carried
    × ((length l.list ≡ list_entries) × (l.record-iterator.size ≡ log_bytes))
