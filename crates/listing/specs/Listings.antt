-- The printed line of a record, and the whole output of the program as bytes (01, The program).
use Rattle.std.specs.Prelude.{ℕ, zero, suc, ◌/◌, Bool, cond, List, [], ◌∷◌, ◌++◌, eqb, ltb, length, take, drop, Option, None, Result, Ok, Err}
use Rattle.refusals.specs.declared.Refusal.{Refusal}
use Rattle.refusals.specs.declared.Refusal.TheVariants as refusal
use Rattle.refusals.specs.Numbers.{refusal_number}
use Rattle.chart.specs.declared.Place.{Place}
use Rattle.records.specs.declared.Job.{Job}
use Rattle.records.specs.Bytes.{pieces_in}
use Rattle.records.specs.LogRecords.{log_bytes, raw_in}
use Rattle.records.specs.ChainTables.{chain_count_of, is_scale}
use Rattle.records.specs.Jobs.{job_of}
use Rattle.text.specs.Texts.{digits_of, spaced, flag_text, bytes_in}
use Rattle.listing.specs.declared.Carried.{Carried}
use Rattle.listing.specs.declared.Listed.{Listed}
use Rattle.listing.specs.Answers.{RecordAnswer, Fix, Grid, Hold, Refused, answer_of, carried_by}

-- The start of a record's line: its line number, or a dash if the record does not have 32 bytes.
unfoldable pub head_of : List ℕ → List ℕ
head_of s = cond (eqb (length s) log_bytes) (digits_of (raw_in s).line) (bytes_in "-")

-- Easting and northing of each place.
unfoldable pub places_text : List Place → List ℕ
places_text [] = []
places_text (p ∷ ps) = spaced p.easting ++ (spaced p.northing ++ places_text ps)

-- The rest of the line: the word; the count of places, or the number of the refusal; the visits; the places; and, unless it is refused,
-- 1 if a number was rounded, 0 if all were exact.
unfoldable pub answer_text : RecordAnswer → List ℕ
answer_text (Fix visits ps rounded) = bytes_in " FIX" ++ (spaced (length ps) ++ (spaced visits ++ (places_text ps ++ flag_text rounded)))
answer_text (Grid p rounded) = bytes_in " GRID" ++ (spaced 1 ++ (spaced 0 ++ (places_text (p ∷ []) ++ flag_text rounded)))
answer_text (Hold p rounded) = bytes_in " HOLD" ++ (spaced 1 ++ (spaced 0 ++ (places_text (p ∷ []) ++ flag_text rounded)))
answer_text (Refused why visits) = bytes_in " REFUSED" ++ (spaced (refusal_number why) ++ spaced visits)

-- A record's line.
abbrev pub line_of : List ℕ → RecordAnswer → List ℕ
line_of s a = head_of s ++ (answer_text a ++ bytes_in "\n")

-- Some text of a listing, and what is carried on from it: the place that a hold right after it repeats.
pub record Part : Type 0 where
  pub text : List ℕ
  pub carried : Option Carried

-- A line, and the rest after it.
abbrev pub line_before : List ℕ → Part → Part
line_before line rest = record { text = line ++ rest.text; carried = rest.carried }

-- One part after another.
abbrev pub joined : Part → Part → Part
joined first second = record { text = first.text ++ second.text; carried = second.carried }

-- What the first record of a log answers, and its line. A short record is refused with 1.
abbrev pub first_answer : Job → List ℕ → List ℕ → Option Carried → List ℕ → RecordAnswer
first_answer j table scale before log = answer_of j table scale before (take log_bytes log)

abbrev pub first_line : Job → List ℕ → List ℕ → Option Carried → List ℕ → List ℕ
first_line j table scale before log = line_of (take log_bytes log) (first_answer j table scale before log)

-- The lines of the first n records, each answered with the place that the one before it carries.
unfoldable pub lines_from : ℕ → Job → List ℕ → List ℕ → Option Carried → List ℕ → Part
lines_from zero j table scale before log = record { text = []; carried = before }
lines_from (suc n) j table scale before log =
    line_before (first_line j table scale before log) (lines_from n j table scale (carried_by (first_answer j table scale before log)) (drop log_bytes log))

-- How many records a log has, including a short last one.
abbrev pub records_in : List ℕ → ℕ
records_in log = pieces_in log_bytes log

-- The lines of a log.
abbrev pub lines_of : Job → List ℕ → List ℕ → Option Carried → List ℕ → Part
lines_of j table scale before log = lines_from (records_in log) j table scale before log

-- The only line that is printed if the job, the table or its side file is refused.
abbrev pub notice_of : List ℕ → Refusal → Part
notice_of word why = record { text = word ++ (bytes_in " REFUSED" ++ (spaced (refusal_number why) ++ bytes_in "\n")); carried = None }

-- The listing: the job's refusal if the job is refused, else the table's if that is refused, else 1 if the side file does not fit the
-- table, else the lines of the log.
unfoldable pub listing_by : Result Job Refusal → Result ℕ Refusal → List ℕ → List ℕ → List ℕ → Option Carried → Part
listing_by (Err why) chains table scale log before = notice_of (bytes_in "JOB") why
listing_by (Ok j) (Err why) table scale log before = notice_of (bytes_in "CHAIN") why
listing_by (Ok j) (Ok n) table scale log before = cond (is_scale n scale) (lines_of j table scale before log) (notice_of (bytes_in "SCALE") refusal.Length)

-- The listing of a log, or of a further part of one, from the bytes of job, table, side file and log and the place carried to it.
unfoldable pub listing_from : List ℕ → List ℕ → List ℕ → List ℕ → Option Carried → Part
listing_from job table scale log before = listing_by (job_of job) (chain_count_of table) table scale log before

-- The whole output of the program for the bytes of job.dat, chain.dat, scale.dat and lay.dat.
unfoldable pub listing_of : List ℕ → List ℕ → List ℕ → List ℕ → List ℕ
listing_of job table scale log = (listing_from job table scale log None).text

-- No line has more bytes than this: 256 places take at most 22 each, and all the rest of the line takes less than 128.
abbrev pub longest_line : ℕ
longest_line = 5_760

-- Whether a buffer of `bytes` bytes has room for the longest line for each whole record of a log, and for one more.
abbrev pub has_listing_room : ℕ → List ℕ → Bool
has_listing_room bytes log = ltb (length log / log_bytes) (bytes / longest_line)

-- A listing that was put: the length of its text, and the place carried on from it.
abbrev pub listed_as : Part → Listed
listed_as p = record { length = length p.text; carried = p.carried }

-- The answer when a listing is put into a buffer, and what the buffer then holds: the text, and after it what was there before.
-- Without this room the answer is refusal 9, and the buffer is unchanged.
unfoldable pub listed_in : ℕ → List ℕ → Part → Result Listed Refusal
listed_in bytes log p = cond (has_listing_room bytes log) (Ok (listed_as p)) (Err refusal.NoRoom)

unfoldable pub buffer_with : List ℕ → List ℕ → Part → List ℕ
buffer_with out log p = cond (has_listing_room (length out) log) (p.text ++ drop (length p.text) out) out

-- All that a listing leaves: its answer, and every byte of its buffer.
pub record ListLeft : Type 0 where
  pub answer : Result Listed Refusal
  pub buffer : List ℕ

-- What the listing of a log, or of a further part of one, leaves in a buffer.
abbrev pub list_left : List ℕ → List ℕ → List ℕ → List ℕ → List ℕ → Option Carried → ListLeft
list_left out job table scale log before =
    let p = listing_from job table scale log before in
    record { answer = listed_in (length out) log p; buffer = buffer_with out log p }
