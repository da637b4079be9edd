-- The tests of a job, one after the other, and what follows from each; and the question by a job whose refusal is of any kind.
use Prim.Native.Nat.{ℕ}
use mathlib.Core.Path.{◌≡◌, refl}
use mathlib.Core.Bool.{Bool, true, false, ◌&&◌}
use mathlib.Core.List.{List}
use lib.Dec.{leb, eqb}
use lib.ListN.{length}
use lib.IntN.{ℤ}
use Rattle.std.specs.Prelude.{Result, Ok, Err}
use Rattle.refusals.specs.declared.Refusal.{Refusal}
use Rattle.refusals.specs.declared.Refusal.TheVariants as refusal
use Rattle.chart.specs.declared.Chain.{Chain}
use Rattle.search.specs.declared.HowMany.{HowMany}
use Rattle.search.specs.declared.Stopped.{Stopped}
use Rattle.search.specs.Windows.{is_window}
use Rattle.search.specs.Questions.{most_tolerance}
use Rattle.records.specs.declared.Job.{Job}
use Rattle.records.specs.Bytes.{are_zero, unless}
use Rattle.records.specs.Jobs.{job_bytes, job_in, formed_job_of, accepted_job, job_of, many_by, visits_with, number_with, itself_stopped, number_stopped, stopped_as, many_with}

-- The bytes of a job that must be zero are zero.
abbrev pub zeros_kept : List ℕ → Bool
zeros_kept s = are_zero 3 s 9 && are_zero 8 s 24

-- The tests of a job, all four, one after the other.
abbrev pub job_tests : List ℕ → Result Job Refusal
job_tests s =
    unless (eqb (length s) job_bytes) (Err refusal.Length)
    (unless (zeros_kept s) (Err refusal.Form)
    (unless (is_window (job_in s).window) (Err refusal.Window)
    (unless (leb (job_in s).tolerance most_tolerance) (Err refusal.Tolerance)
    (Ok (job_in s)))))

pub job_by_tests : (s : List ℕ) → job_of s ≡ job_tests s
unfolding job_of accepted_job formed_job_of
job_by_tests s = go (eqb (length s) job_bytes) (zeros_kept s)
  where
    rest : Result Job Refusal
    rest =
        unless (is_window (job_in s).window) (Err refusal.Window)
        (unless (leb (job_in s).tolerance most_tolerance) (Err refusal.Tolerance) (Ok (job_in s)))

    go : (a b : Bool) → accepted_job (unless a (Err refusal.Length) (unless b (Err refusal.Form) (Ok (job_in s)))) ≡ unless a (Err refusal.Length) (unless b (Err refusal.Form) rest)
    go false b = refl
    go true false = refl
    go true true = refl

stopped_same : (m : Result HowMany Stopped) → stopped_as itself_stopped m ≡ m
stopped_same (Ok many) = refl
stopped_same (Err why) = refl

-- With a refusal of 01 the question by a job is `many_by`.
pub many_refused : (j : Result Job Refusal) (c : Chain) (readings : List ℤ) →
    many_with visits_with itself_stopped j c readings ≡ many_by j c readings
unfolding many_with many_by
many_refused (Ok j) c readings = stopped_same (many_by (Ok j) c readings)
many_refused (Err why) c readings = refl

-- Any number in place of a job is told with no visit.
pub many_numbered : (n : ℕ) (c : Chain) (readings : List ℤ) →
    many_with number_with number_stopped (Err n) c readings ≡ Err (number_with n 0)
unfolding many_with
many_numbered n c readings = refl
