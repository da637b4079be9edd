-- What the library for C returns for each answer: the number of the refusal, 0 for none, and the answer's figures, that is, its
-- numbers, which are 0 after a refusal (01, Numbers of refusal). The figures of metres, expected readings and searches are defined
-- in their own crates.
use Rattle.std.specs.Prelude.{ℕ, ◌/◌, ◌%◌, ◌^◌, cond, not, List, [], ◌∷◌, ◌++◌, eqb, ℤ, pos, length, get_or, replicate, Option, Some, None, Result, Ok, Err}
use Rattle.refusals.specs.declared.Refusal.{Refusal}
use Rattle.refusals.specs.declared.Refusal.TheVariants as refusal
use Rattle.refusals.specs.Numbers.{refusal_number, number_told}
use Rattle.metres.specs.declared.Mark.{Mark}
use Rattle.metres.specs.declared.Mark.TheVariants.{Equal, Below, Above}
use Rattle.chart.specs.declared.Place.{Place}
use Rattle.chart.specs.declared.Chain.{Chain}
use Rattle.chart.specs.declared.Figures.{Figures}
use Rattle.chart.specs.Places.{place_of}
use Rattle.chart.specs.Chains.{stations_of, is_sound}
use Rattle.chart.specs.Readings.{expected_at, figures_of}
use Rattle.search.specs.declared.Window.{Window}
use Rattle.search.specs.declared.SearchFigures.{SearchFigures}
use Rattle.search.specs.declared.HowMany.{HowMany}
use Rattle.search.specs.declared.HowMany.TheVariants as many
use Rattle.search.specs.declared.Stopped.{Stopped}
use Rattle.search.specs.Answers.{entries_of, search_figures, search_left}
use Rattle.records.specs.declared.Job.{Job}
use Rattle.records.specs.declared.RawRecord.{RawRecord}
use Rattle.records.specs.declared.LogEntry.{LogEntry}
use Rattle.records.specs.declared.LogEntry.TheVariants as entry
use Rattle.records.specs.declared.MarkedEntry.{MarkedEntry}
use Rattle.records.specs.LogRecords.{raw_record_of}
use Rattle.records.specs.Marks.{marked_entry_of}
use Rattle.records.specs.Bytes.{unless}
use Rattle.records.specs.ChainTables.{chain_count_of, raw_chain_of, chain_of}
use Rattle.records.specs.Jobs.{formed_job_of, job_of, many_by}
use Rattle.writing.specs.declared.Draft.{Draft}
use Rattle.writing.specs.ChainWriting.{chain_refusal_of, chain_buffer_of}
use Rattle.listing.specs.declared.Carried.{Carried}
use Rattle.listing.specs.declared.Listed.{Listed}
use Rattle.listing.specs.Listings.{list_left}
use Rattle.lay.specs.declared.ManyFigures.{ManyFigures}
use Rattle.lay.specs.declared.EntryFigures.{EntryFigures}
use Rattle.lay.specs.declared.RecordFigures.{RecordFigures}
use Rattle.lay.specs.declared.CountFigures.{CountFigures}
use Rattle.lay.specs.declared.JobFigures.{JobFigures}
use Rattle.lay.specs.declared.HeldFigures.{HeldFigures}
use Rattle.lay.specs.declared.ListedFigures.{ListedFigures}

-- The version of what lay.h declares. It changes whenever callers must be compiled anew.
abbrev pub version : ℕ
version = 3

-- The number of a mark. 0 says that nothing was lost.
unfoldable pub mark_figure : Mark → ℕ
mark_figure Equal = 0
mark_figure Below = 1
mark_figure Above = 2

-- A window, a job and a draft, made from their numbers.
abbrev pub window_by : ℕ → ℕ → ℕ → Window
window_by e n k = record { corner = place_of e n; k = k }

abbrev pub job_by : ℕ → ℕ → ℕ → ℕ → ℕ → Job
job_by e n k tolerance allowance = record { window = window_by e n k; tolerance = tolerance; allowance = allowance }

abbrev pub draft_by : ℕ → ℕ → ℕ → ℤ → ℤ → Draft
draft_by kind chain line x y = record { kind = kind; chain = chain; line = line; x = x; y = y }

-- A chain, made from the numbers of its stations, easting and northing in turn, and its factor; refusal 1 if there are not `chain_numbers` of
-- them.
abbrev pub chain_numbers : ℕ
chain_numbers = 6

abbrev pub chain_with : List ℕ → ℕ → Chain
chain_with s factor =
    record {
      master = place_of (get_or s 0 0) (get_or s 1 0);
      a = place_of (get_or s 2 0) (get_or s 3 0);
      b = place_of (get_or s 4 0) (get_or s 5 0);
      factor = factor;
    }

unfoldable pub chain_by : List ℕ → ℕ → Result Chain Refusal
chain_by s factor = unless (eqb (length s) chain_numbers) (Err refusal.Length) (Ok (chain_with s factor))

-- The number of the refusal, 0 for none, and all that a lent list or buffer then holds.
pub record Lent (A : Type 0) : Type 0 where
  pub refusal : ℕ
  pub holds : List A

-- After a refusal it holds only zeros.
abbrev pub refused_with : Refusal → ℕ → Lent ℕ
refused_with why entries = record { refusal = refusal_number why; holds = replicate entries 0 }

-- The bytes of a chain in a buffer of `bytes` bytes, as the writer makes them; zeros if there is no chain.
unfoldable pub chain_lent : ℕ → Result Chain Refusal → Lent ℕ
chain_lent bytes (Ok c) = record { refusal = number_told (chain_refusal_of bytes c); holds = chain_buffer_of bytes c }
chain_lent bytes (Err why) = refused_with why bytes

-- The same for the chain with a given number in a table and its side file, and for the chain with given stations and factor.
abbrev pub chain_told : ℕ → List ℕ → List ℕ → ℕ → Lent ℕ
chain_told bytes table scale number = chain_lent bytes (chain_of table scale number)

abbrev pub chain_written : ℕ → List ℕ → ℕ → Lent ℕ
chain_written bytes stations factor = chain_lent bytes (chain_by stations factor)

-- The factor that goes with the bytes of a chain; 0 after a refusal.
unfoldable pub factor_after : ℕ → Result Chain Refusal → ℕ
factor_after number (Ok c) = cond (eqb number 0) c.factor 0
factor_after number (Err why) = 0

abbrev pub factor_told : ℕ → List ℕ → List ℕ → ℕ → ℕ
factor_told bytes table scale number = factor_after (chain_told bytes table scale number).refusal (chain_of table scale number)

-- The numbers of a chain's stations in a list of `entries` entries: 1 if that is not six, then 5 if the chain is not sound.
unfoldable pub stations_lent : ℕ → Result Chain Refusal → Lent ℕ
stations_lent entries (Ok c) =
    unless (eqb entries chain_numbers) (refused_with refusal.Length entries)
    (unless (is_sound c) (refused_with refusal.Chain entries) (record { refusal = 0; holds = entries_of (stations_of c) }))
stations_lent entries (Err why) = refused_with why entries

abbrev pub stations_told : ℕ → List ℕ → ℕ → Lent ℕ
stations_told entries chain factor = stations_lent entries (raw_chain_of chain factor)

-- How many readings a chain has: one for each slave.
abbrev pub chain_readings : ℕ
chain_readings = 2

-- The figures of expected readings as a list.
abbrev pub readings_lent : Figures → Lent ℤ
readings_lent f = record { refusal = f.refusal; holds = f.a ∷ f.b ∷ [] }

-- The readings expected at a place, in a list of `entries` entries: 1 if that is not two, then 4, then 5.
unfoldable pub expected_lent : ℕ → Result Chain Refusal → Place → Lent ℤ
expected_lent entries (Ok c) p =
    unless (eqb entries chain_readings) (record { refusal = refusal_number refusal.Length; holds = replicate entries (pos 0) })
    (readings_lent (figures_of (expected_at c p)))
expected_lent entries (Err why) p = record { refusal = refusal_number why; holds = replicate entries (pos 0) }

abbrev pub expected_told : ℕ → List ℕ → ℕ → ℕ → ℕ → Lent ℤ
expected_told entries chain factor e n = expected_lent entries (raw_chain_of chain factor) (place_of e n)

-- All that a search returns: its figures, and every entry of its list.
pub record SearchTold : Type 0 where
  pub figures : SearchFigures
  pub list : List ℕ

-- Nothing is searched, and every entry of the list is zero.
abbrev pub unsearched : Refusal → ℕ → SearchTold
unsearched why entries =
    record { figures = record { refusal = refusal_number why; count = 0; visits = 0 }; list = replicate entries 0 }

-- A search with the window, tolerance and allowance of a job. The search itself tests window and tolerance.
unfoldable pub searched_by : Chain → List ℤ → Result Job Refusal → ℕ → SearchTold
searched_by c readings (Ok j) entries =
    let left = search_left c readings j.window j.tolerance j.allowance entries in
    record { figures = search_figures left.answer; list = left.list }
searched_by c readings (Err why) entries = unsearched why entries

-- Before that, 1 for a chain of another length, and if there are not as many readings as the chain has slaves.
unfoldable pub searched_in : Result Chain Refusal → List ℤ → Result Job Refusal → ℕ → SearchTold
searched_in (Ok c) readings j entries =
    unless (eqb (length readings) chain_readings) (unsearched refusal.Length entries) (searched_by c readings j entries)
searched_in (Err why) readings j entries = unsearched why entries

-- The same from the bytes of a chain, its factor, the readings and the bytes of a job: 1 for another length of any of them, 2 if
-- a byte of the job that must be zero is not, then the search.
abbrev pub search_told : List ℕ → ℕ → List ℤ → List ℕ → ℕ → SearchTold
search_told chain factor readings job entries = searched_in (raw_chain_of chain factor) readings (formed_job_of job) entries

-- How many places were found, and the visits.
abbrev pub found_in : SearchFigures → List ℕ
found_in f = f.count ∷ f.visits ∷ []

-- How many places the readings allow, in figures: 1 for none, 2 for one, 3 for several, and 0 after a refusal, so that a refusal does
-- not look like "none"; the place, zeros unless there is one; and the visits.
unfoldable pub many_figures : Result HowMany Stopped → ManyFigures
many_figures (Ok (many.None visits)) = record { refusal = 0; many = 1; place = place_of 0 0; visits = visits }
many_figures (Ok (many.One place visits)) = record { refusal = 0; many = 2; place = place; visits = visits }
many_figures (Ok (many.Several visits)) = record { refusal = 0; many = 3; place = place_of 0 0; visits = visits }
many_figures (Err s) = record { refusal = refusal_number s.refusal; many = 0; place = place_of 0 0; visits = s.visits }

-- Easting and northing of a place.
abbrev pub numbers_of : Place → List ℕ
numbers_of p = p.easting ∷ p.northing ∷ []

-- Refused before any visit.
abbrev pub unasked : Refusal → Stopped
unasked why = record { refusal = why; visits = 0 }

-- From a chain, readings and a job, with the refusals of a search in the same order: 1 for another count of readings, then the
-- question by the job.
unfoldable pub asked_in : Result Chain Refusal → List ℤ → Result Job Refusal → Result HowMany Stopped
asked_in (Ok c) readings j = unless (eqb (length readings) chain_readings) (Err (unasked refusal.Length)) (many_by j c readings)
asked_in (Err why) readings j = Err (unasked why)

abbrev pub many_told : List ℕ → ℕ → List ℤ → List ℕ → ManyFigures
many_told chain factor readings job = many_figures (asked_in (raw_chain_of chain factor) readings (formed_job_of job))

-- A log record in centimetres, with its line number. Only a hyperbolic record has a chain number.
unfoldable pub entry_figures : ℕ → ℕ → Result LogEntry Refusal → EntryFigures
entry_figures line chain (Ok (entry.Readings a b)) = record { refusal = 0; kind = 1; chain = chain; line = line; x = a; y = b }
entry_figures line chain (Ok (entry.Place p)) = record { refusal = 0; kind = 2; chain = 0; line = line; x = pos p.easting; y = pos p.northing }
entry_figures line chain (Ok entry.Hold) = record { refusal = 0; kind = 3; chain = 0; line = line; x = pos 0; y = pos 0 }
entry_figures line chain (Err why) = record { refusal = refusal_number why; kind = 0; chain = 0; line = line; x = pos 0; y = pos 0 }

-- The same with the marks of x and y.
unfoldable pub marked_figures : ℕ → ℕ → MarkedEntry → RecordFigures
marked_figures line chain m =
    record { entry = entry_figures line chain m.entry; xmark = mark_figure m.first; ymark = mark_figure m.second }

-- The line number is given whenever there are 32 bytes, even if they are refused, since any is allowed.
unfoldable pub record_by : Result RawRecord Refusal → MarkedEntry → RecordFigures
record_by (Ok r) m = marked_figures r.line r.chain m
record_by (Err why) m = record { entry = entry_figures 0 0 (Err why); xmark = 0; ymark = 0 }

-- A log record from its bytes.
abbrev pub record_figures : List ℕ → RecordFigures
record_figures s = record_by (raw_record_of s) (marked_entry_of s)

-- How many chains a table has.
unfoldable pub count_figures : Result ℕ Refusal → CountFigures
count_figures (Ok n) = record { refusal = 0; count = n }
count_figures (Err why) = record { refusal = refusal_number why; count = 0 }

abbrev pub count_told : List ℕ → CountFigures
count_told table = count_figures (chain_count_of table)

-- A job.
unfoldable pub job_answered : Result Job Refusal → JobFigures
job_answered (Ok j) = record { refusal = 0; job = j }
job_answered (Err why) = record { refusal = refusal_number why; job = job_by 0 0 0 0 0 }

abbrev pub job_told : List ℕ → JobFigures
job_told s = job_answered (job_of s)

-- The place carried to a record: none if `held` is 0. A number of its record was rounded, unless `rounded` is 0.
unfoldable pub carried_in : ℕ → ℕ → ℕ → ℕ → Option Carried
carried_in held e n rounded = cond (eqb held 0) None (Some (record { place = place_of e n; rounded = not (eqb rounded 0) }))

-- A carried place as figures.
unfoldable pub held_figures : Option Carried → HeldFigures
held_figures (Some c) = record { held = 1; place = c.place; rounded = cond c.rounded 1 0 }
held_figures None = record { held = 0; place = place_of 0 0; rounded = 0 }

-- The figures of a listing in a buffer.
unfoldable pub listed_figures : Result Listed Refusal → ListedFigures
listed_figures (Ok l) = record { refusal = 0; length = l.length; carried = held_figures l.carried }
listed_figures (Err why) = record { refusal = refusal_number why; length = 0; carried = held_figures None }

-- A number of 64 bits in its two halves, the lower one first, as they lie in memory.
abbrev pub halves : ℕ → List ℕ
halves n = n % 2 ^ 32 ∷ n / 2 ^ 32 ∷ []

-- A part of a listing in six numbers: the halves of its length, then the place carried on from it.
abbrev pub part_of : ListedFigures → List ℕ
part_of f =
    halves f.length
    ++ (f.carried.held ∷ f.carried.place.easting ∷ f.carried.place.northing ∷ f.carried.rounded ∷ [])

-- The place carried to a part, from the same six numbers.
abbrev pub carried_to : List ℕ → Option Carried
carried_to part = carried_in (get_or part 2 0) (get_or part 3 0) (get_or part 4 0) (get_or part 5 0)

-- All that the listing of a log, or of a further part of one, returns: its figures, and every byte of its buffer.
pub record ListTold : Type 0 where
  pub figures : ListedFigures
  pub text : List ℕ

abbrev pub list_told : List ℕ → List ℕ → List ℕ → List ℕ → List ℕ → List ℕ → ListTold
list_told text job table scale log part =
    let left = list_left text job table scale log (carried_to part) in
    record { figures = listed_figures left.answer; text = left.buffer }
