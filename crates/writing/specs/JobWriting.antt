-- The writer of jobs: which jobs it refuses, and the bytes that it makes from a job (01, The records).
use Rattle.std.specs.Prelude.{ℕ, List, ◌∷◌, ◌++◌, Result, Ok, Err, leb, eqb, replicate}
use Rattle.refusals.specs.declared.Refusal.{Refusal}
use Rattle.refusals.specs.declared.Refusal.TheVariants as refusal
use Rattle.fields.specs.Fields.{bytes_of}
use Rattle.search.specs.Windows.{is_window}
use Rattle.search.specs.Questions.{most_tolerance}
use Rattle.records.specs.declared.Job.{Job}
use Rattle.records.specs.Bytes.{unless}
use Rattle.records.specs.Jobs.{job_bytes}
use Rattle.writing.specs.Buffers.{left_in}
use Rattle.writing.specs.ChainWriting.{bytes_of_place}

-- A job in 32 bytes: the window's corner, its exponent, three zeros, the tolerance, the allowance, eight zeros.
unfoldable pub bytes_of_job : Job → List ℕ
bytes_of_job j =
    bytes_of_place j.window.corner
    ++ (j.window.k ∷ 0 ∷ 0 ∷ 0 ∷ (bytes_of 4 j.tolerance ++ (bytes_of 8 j.allowance ++ replicate 8 0)))

-- Whether a job is written into a buffer of `bytes` bytes. If not, it is refused for the buffer, then for its window, then for its
-- tolerance.
unfoldable pub job_refusal_of : ℕ → Job → Result (Unit {0}) Refusal
job_refusal_of bytes j =
    unless (eqb bytes job_bytes) (Err refusal.Length)
    (unless (is_window j.window) (Err refusal.Window)
    (unless (leb j.tolerance most_tolerance) (Err refusal.Tolerance)
    (Ok tt)))

-- What a buffer of `bytes` bytes holds after a job was written or refused.
unfoldable pub job_buffer_of : ℕ → Job → List ℕ
job_buffer_of bytes j = left_in bytes (job_refusal_of bytes j) (bytes_of_job j)
