-- A job that is written is read back, field by field.
-- The checker computes where each byte lies, so each field is read from the bytes that were put there.
use Prim.Native.Nat.{◌^◌, ◌≤◌, ◌<◌}
use mathlib.Core.Path.{◌≡◌, subst⁻¹}
use mathlib.Core.Bool.{true}
use native.Mathlib.Omega.{arith}
use native.Mathlib.Nat.{le_refl}
use lib.Dec.{leb}
use lib.Pow.{pow_pos}
use borrow.Author.Tests.{le-leb}
use Rattle.std.specs.Prelude.{Result, Ok, Err}
use Rattle.refusals.specs.declared.Refusal.{Refusal}
use Rattle.refusals.specs.declared.Refusal.TheVariants as refusal
use Rattle.fields.specs.Fields.{value_of, bytes_of}
use Rattle.fields.proofs.FieldLaws.{value_bytes}
use Rattle.search.specs.declared.Window.{Window}
use Rattle.search.specs.Windows.{is_window}
use Rattle.search.specs.Questions.{most_tolerance}
use Rattle.search.proofs.WindowLaws.{every_cell_in_range}
use Rattle.records.specs.declared.Job.{Job}
use Rattle.records.specs.Bytes.{all_zero, unless}
use Rattle.records.specs.Jobs.{job_in, formed_job_of, accepted_job, job_of}
use Rattle.writing.specs.JobWriting.{bytes_of_job}
use Rattle.writing.proofs.TableBack.{small_place}

-- The corner of a window is a cell of it, so its numbers fit four bytes each.
small_corner : (w : Window) → is_window w ≡ true → (w.corner.easting < 256 ^ 4) × (w.corner.northing < 256 ^ 4)
small_corner w h =
    let some : 0 < 2 ^ w.k = pow_pos w.k in
    small_place w.corner
    (every_cell_in_range w w.corner h (record { from_west = le_refl _; to_east = omega arith; from_south = le_refl _; to_north = omega arith }))

module _ (j : Job) (window : is_window j.window ≡ true) (few : j.tolerance ≤ most_tolerance) (small : j.allowance < 2 ^ 64) where
  -- Every field of the job comes back from its bytes.
  fields_back : job_in (bytes_of_job j) ≡ j
  unfolding bytes_of_job bytes_of value_of
  fields_back =
      let corner = small_corner j.window window in
      rw (
        value_bytes 4 j.window.corner.easting corner.0,
        value_bytes 4 j.window.corner.northing corner.1,
        value_bytes 4 j.tolerance (omega arith),
        value_bytes 8 j.allowance small,
      )

  -- So does the job: the bytes that must be zero are zero, and its window and tolerance pass their tests.
  pub job_back : job_of (bytes_of_job j) ≡ Ok j
  unfolding job_of accepted_job formed_job_of bytes_of_job bytes_of all_zero
  job_back =
      subst⁻¹
      (λ (i : Job).
      ◌≡◌ {A = Result Job Refusal}
      (unless (is_window i.window) (Err refusal.Window) (unless (leb i.tolerance most_tolerance) (Err refusal.Tolerance) (Ok i))) (Ok j))
      fields_back
      (rw (window, le-leb j.tolerance most_tolerance few))
