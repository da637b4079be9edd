-- The tests of the writer of jobs, one after the other, what follows from each, and the bytes that it puts.
use Prim.Native.Nat.{ℕ, ◌≤◌, ◌<◌}
use mathlib.Core.Path.{◌≡◌, refl}
use mathlib.Core.Bool.{true}
use native.Mathlib.Omega.{arith}
use lib.Dec.{leb, eqb}
use lib.ListN.{set, replicate}
use borrow.Author.Tests.{eqb-true, eq-eqb, le-leb, leb-true}
use Rattle.std.specs.Prelude.{Ok}
use Rattle.fields.specs.Fields.{bytes_of, put_at}
use Rattle.search.specs.Windows.{is_window}
use Rattle.search.specs.Questions.{most_tolerance}
use Rattle.search.proofs.WindowLaws.{window_says}
use Rattle.records.specs.declared.Job.{Job}
use Rattle.records.specs.Jobs.{job_bytes}
use Rattle.records.proofs.RefusalLaws.{passed}
use Rattle.writing.specs.ChainWriting.{put_place_at}
use Rattle.writing.specs.JobWriting.{bytes_of_job, job_refusal_of, job_buffer_of}
use Rattle.writing.proofs.BufferLaws.{not_refused, left_written, left_zero}

-- A job whose window and tolerance are allowed is accepted.
pub job_accepted : (bytes : ℕ) (j : Job) → bytes ≡ job_bytes → is_window j.window ≡ true → j.tolerance ≤ most_tolerance → job_refusal_of bytes j ≡ Ok tt
unfolding job_refusal_of
job_accepted bytes j whole w t = rw (eq-eqb bytes job_bytes whole, w, le-leb j.tolerance most_tolerance t)

-- A job that is not refused has passed the tests: the buffer has 32 bytes, and the window and the tolerance are allowed.
pub job_passed : (bytes : ℕ) (j : Job) → job_refusal_of bytes j ≡ Ok tt → (bytes ≡ job_bytes) × (is_window j.window ≡ true) × (j.tolerance ≤ most_tolerance)
unfolding job_refusal_of
job_passed bytes j e =
    let whole = passed (eqb bytes job_bytes) not_refused e in
    let window = passed (is_window j.window) not_refused whole.1 in
    (eqb-true bytes job_bytes whole.0, window.0, leb-true _ _ (passed (leb j.tolerance most_tolerance) not_refused window.1).0)

-- The exponent of its window fits a byte.
pub small_k : (j : Job) → is_window j.window ≡ true → j.window.k < 256
small_k j w = omega (arith, (window_says j.window w).0)

-- Put one after the other into zeros, the fields are the bytes of the job.
pub fields_together : (j : Job) → put_at 8 (put_at 4 (set (put_place_at (replicate job_bytes 0) 0 j.window.corner) 8 j.window.k) 12 j.tolerance) 16 j.allowance ≡ bytes_of_job j
unfolding put_at bytes_of bytes_of_job
fields_together j = refl

-- What a buffer holds after a job that was not refused, and after one that was.
pub job_written : (bytes : ℕ) (j : Job) → job_refusal_of bytes j ≡ Ok tt → job_buffer_of bytes j ≡ bytes_of_job j
unfolding job_buffer_of
job_written bytes j e = left_written bytes (bytes_of_job j) e

pub job_zero : (bytes : ℕ) (j : Job) → (job_refusal_of bytes j ≡ Ok tt → ⊥) → job_buffer_of bytes j ≡ replicate bytes 0
unfolding job_buffer_of
job_zero bytes j n = left_zero bytes (job_refusal_of bytes j) (bytes_of_job j) n
