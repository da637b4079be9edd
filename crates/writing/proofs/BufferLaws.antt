-- What a buffer holds after a write, for all four writers.
use Prim.Native.Nat.{ℕ}
use mathlib.Core.Path.{◌≡◌, refl}
use mathlib.Core.List.{List}
use lib.ListN.{length, replicate, length-replicate}
use Rattle.std.specs.Prelude.{Result, Ok, Err}
use Rattle.refusals.specs.declared.Refusal.{Refusal}
use Rattle.writing.specs.Buffers.{left_in}

-- A refused write is not one that was done.
pub not_refused : {r : Refusal} → ◌≡◌ {A = Result (Unit {0}) Refusal} (Err r) (Ok tt) → ⊥
not_refused e = cc e

-- What a buffer holds after a write that was not refused, and after one that was.
pub left_written : (bytes : ℕ) {r : Result (Unit {0}) Refusal} (written : List ℕ) → r ≡ Ok tt → left_in bytes r written ≡ written
unfolding left_in
left_written bytes written e = rw e

pub left_zero : (bytes : ℕ) (r : Result (Unit {0}) Refusal) (written : List ℕ) → (r ≡ Ok tt → ⊥) → left_in bytes r written ≡ replicate bytes 0
unfolding left_in
left_zero bytes (Ok tt) written n = absurd (n refl)
left_zero bytes (Err refusal) written n = refl

-- If every write that is not refused fills its buffer, then no write changes the length of its buffer.
pub left_length : (bytes : ℕ) (r : Result (Unit {0}) Refusal) (written : List ℕ) → (r ≡ Ok tt → length written ≡ bytes) → length (left_in bytes r written) ≡ bytes
unfolding left_in
left_length bytes (Ok tt) written fills = fills refl
left_length bytes (Err refusal) written fills = length-replicate bytes 0
