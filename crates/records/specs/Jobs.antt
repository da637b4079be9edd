-- The job: the window, the tolerance and the allowance of a search, in 32 bytes (01, The records).
use Rattle.std.specs.Prelude.{ℕ, ◌&&◌, List, leb, eqb, ℤ, length, Result, Ok, Err}
use Rattle.refusals.specs.declared.Refusal.{Refusal}
use Rattle.refusals.specs.declared.Refusal.TheVariants as refusal
use Rattle.refusals.specs.Numbers.{refusal_number}
use Rattle.fields.specs.Fields.{field_at}
use Rattle.chart.specs.declared.Chain.{Chain}
use Rattle.search.specs.declared.HowMany.{HowMany}
use Rattle.search.specs.declared.Stopped.{Stopped}
use Rattle.search.specs.Windows.{is_window}
use Rattle.search.specs.Questions.{rule_of, most_tolerance}
use Rattle.search.specs.Counts.{how_many_of}
use Rattle.records.specs.declared.Job.{Job}
use Rattle.records.specs.declared.Refused.{Refused}
use Rattle.records.specs.Bytes.{byte_at, are_zero, unless}
use Rattle.records.specs.ChainTables.{place_at}

-- How many bytes a job has.
abbrev pub job_bytes : ℕ
job_bytes = 32

-- The allowance of a job that names none: a search under it makes at most this many visits.
abbrev pub usual_allowance : ℕ
usual_allowance = 1000000

-- The fields of a job as its bytes give them, valid or not.
abbrev pub job_in : List ℕ → Job
job_in s =
    record {
      window = record { corner = place_at s 0; k = byte_at s 8 };
      tolerance = field_at 4 s 12;
      allowance = field_at 8 s 16;
    }

-- The same, or refusal 1 for any other number of bytes.
unfoldable pub raw_job_of : List ℕ → Result Job Refusal
raw_job_of s = unless (eqb (length s) job_bytes) (Err refusal.Length) (Ok (job_in s))

-- The same, then refusal 2 if a byte that must be zero is not.
unfoldable pub formed_job_of : List ℕ → Result Job Refusal
formed_job_of s =
    unless (eqb (length s) job_bytes) (Err refusal.Length)
    (unless (are_zero 3 s 9 && are_zero 8 s 24) (Err refusal.Form) (Ok (job_in s)))

-- A well-formed job is accepted, or refused with 6 for its window, then with 7 for its tolerance.
unfoldable pub accepted_job : Result Job Refusal → Result Job Refusal
accepted_job (Ok j) =
    unless (is_window j.window) (Err refusal.Window)
    (unless (leb j.tolerance most_tolerance) (Err refusal.Tolerance) (Ok j))
accepted_job (Err why) = Err why

-- The job in some bytes, or refusal 1, 2, 6 or 7, tested in this order.
unfoldable pub job_of : List ℕ → Result Job Refusal
job_of s = accepted_job (formed_job_of s)

-- How many places the readings of a chain allow in a job's window, or the job's refusal without a visit (02, A2). The question itself
-- tests window and tolerance.
unfoldable pub many_by : Result Job Refusal → Chain → List ℤ → Result HowMany Stopped
many_by (Ok j) c readings = how_many_of (rule_of c readings j.tolerance) j.window j.allowance
many_by (Err why) c readings = Err (record { refusal = why; visits = 0 })

-- A refusal, or its number, and the visits made before it.
abbrev pub visits_with : Refusal → ℕ → Stopped
visits_with why visits = record { refusal = why; visits = visits }

abbrev pub number_with : ℕ → ℕ → Refused
number_with number visits = record { number = number; visits = visits }

-- What stopped a search, as it is, or with the number of the refusal.
abbrev pub itself_stopped : Stopped → Stopped
itself_stopped why = why

abbrev pub number_stopped : Stopped → Refused
number_stopped why = number_with (refusal_number why.refusal) why.visits

-- An answer of a question, its refusal told as `of_stopped` gives it.
abbrev pub stopped_as : {A : Type 0} → (Stopped → A) → Result HowMany Stopped → Result HowMany A
stopped_as of_stopped (Ok many) = Ok many
stopped_as of_stopped (Err why) = Err (of_stopped why)

-- The question by a job or a refusal of any kind, without a visit where there is no job. `with_visits` and `of_stopped` give the refusal
-- that it answers. Of a refusal of 01 it is `many_by`: proofs/JobLaws.antt, `many_refused`.
unfoldable pub many_with : {R A : Type 0} → (R → ℕ → A) → (Stopped → A) → Result Job R → Chain → List ℤ → Result HowMany A
many_with with_visits of_stopped (Ok j) c readings = stopped_as of_stopped (many_by (Ok j) c readings)
many_with with_visits of_stopped (Err why) c readings = Err (with_visits why 0)
