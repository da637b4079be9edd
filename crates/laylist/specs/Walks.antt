-- The listing of a log, part by part: what the program's functions promise each other.
use Rattle.std.specs.Prelude.{ℕ, ◌*◌, ◌≤◌, Bool, true, false, cond, List, ◌≡◌, ltb, length, take, Option, Some, None, Result, Ok, Err, is_ok}
use Rattle.refusals.specs.declared.Refusal.{Refusal}
use Rattle.records.specs.declared.Job.{Job}
use Rattle.records.specs.LogRecords.{log_bytes}
use Rattle.records.specs.ChainTables.{scaled_count_of}
use Rattle.records.specs.Jobs.{usual_allowance, job_of}
use Rattle.listing.specs.declared.Carried.{Carried}
use Rattle.listing.specs.declared.Listed.{Listed}
use Rattle.listing.specs.Listings.{Part, listing_from, records_in, longest_line}
use Rattle.laylist.specs.declared.Inputs.{Inputs}
use Rattle.laylist.specs.declared.Next.{Next}

-- Job, table and side file are accepted: so the log is listed.
pub record AllGood (i : Inputs) : Type 0 where
  pub by_job : is_ok (job_of i.job.now) ≡ true
  pub by_table : is_ok (scaled_count_of i.table.now i.scale.now) ≡ true

-- The listing of a part of the log.
abbrev pub listing_with : Inputs → List ℕ → Option Carried → Part
listing_with i part before = listing_from i.job.now i.table.now i.scale.now part before

-- The most bytes of a log that are listed at once, 128 records; and the length of the buffer, room for 129 longest lines.
abbrev pub part_bytes : ℕ
part_bytes = 128 * log_bytes

abbrev pub part_room : ℕ
part_room = 129 * longest_line

-- Whether a search of the job may take long: its allowance is larger than the usual one.
unfoldable pub may_take_long : Result Job Refusal → Bool
may_take_long (Ok j) = ltb usual_allowance j.allowance
may_take_long (Err why) = false

-- How many bytes of a log are listed before their lines are printed: 128 records, or a single one if a search may take long.
abbrev pub bytes_at_once : Result Job Refusal → ℕ
bytes_at_once j = cond (may_take_long j) log_bytes part_bytes

-- What may be listed before anything of it is printed: a part for which the buffer has room. And if a search may take long, the
-- part has no more than one record: so every line is out before the next search begins.
pub record AtOnce (job part : List ℕ) : Type 0 where
  pub few : length part ≤ part_bytes
  pub line_by_line : may_take_long (job_of job) ≡ true → records_in part ≤ 1

-- `l` is the listing `p`: the buffer begins with its text, and the place is the one that `p` carries on.
pub record BeginsWith (out : List ℕ) (p : Part) (l : Listed) : Type 0 where
  pub fits : l.length ≤ length out
  pub text_is : take l.length out ≡ p.text
  pub carried_is : l.carried ≡ p.carried

-- What follows a listing goes on from the place that it carries on. Or nothing follows, since printing failed.
abbrev pub GoesOn : Part → Option Next → Type 0
GoesOn p (Some next) = next.carried ≡ p.carried
GoesOn p None = Unit {0}
