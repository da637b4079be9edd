-- The tests of the writer of factors, one after the other, what follows from each, and the bytes that it puts.
use Prim.Native.Nat.{ℕ}
use mathlib.Core.Path.{◌≡◌, refl, sym, ◌∙◌}
use mathlib.Core.Bool.{true}
use lib.ListN.{length, replicate}
use borrow.Author.Tests.{eqb-true, eq-eqb}
use Rattle.std.specs.Prelude.{Ok}
use Rattle.fields.specs.Fields.{bytes_of, put_at}
use Rattle.fields.proofs.FieldLaws.{length_bytes}
use Rattle.chart.specs.Factors.{is_factor}
use Rattle.records.specs.ChainTables.{factor_bytes}
use Rattle.records.proofs.RefusalLaws.{passed}
use Rattle.writing.specs.FactorWriting.{factor_refusal_of, factor_buffer_of}
use Rattle.writing.proofs.BufferLaws.{not_refused, left_written, left_zero, left_length}

-- A factor that is allowed is accepted.
pub factor_accepted : (bytes f : ℕ) → bytes ≡ factor_bytes → is_factor f ≡ true → factor_refusal_of bytes f ≡ Ok tt
unfolding factor_refusal_of
factor_accepted bytes f whole s = rw (eq-eqb bytes factor_bytes whole, s)

-- Only a buffer of 4 bytes is written.
pub factor_fills : (bytes f : ℕ) → factor_refusal_of bytes f ≡ Ok tt → bytes ≡ factor_bytes
unfolding factor_refusal_of
factor_fills bytes f e = eqb-true bytes factor_bytes (passed _ not_refused e).0

-- Put into zeros, a factor is its bytes.
pub factor_put : (f : ℕ) → put_at factor_bytes (replicate factor_bytes 0) 0 f ≡ bytes_of factor_bytes f
unfolding put_at bytes_of
factor_put f = refl

-- What a buffer holds after a factor that was not refused, and after one that was.
pub factor_written : (bytes f : ℕ) → factor_refusal_of bytes f ≡ Ok tt → factor_buffer_of bytes f ≡ bytes_of factor_bytes f
unfolding factor_buffer_of
factor_written bytes f e = left_written bytes (bytes_of factor_bytes f) e

pub factor_zero : (bytes f : ℕ) → (factor_refusal_of bytes f ≡ Ok tt → ⊥) → factor_buffer_of bytes f ≡ replicate bytes 0
unfolding factor_buffer_of
factor_zero bytes f n = left_zero bytes (factor_refusal_of bytes f) (bytes_of factor_bytes f) n

-- In both cases the buffer keeps its length.
pub factor_same_length : (bytes f : ℕ) → length (factor_buffer_of bytes f) ≡ bytes
unfolding factor_buffer_of
factor_same_length bytes f =
    left_length bytes (factor_refusal_of bytes f) (bytes_of factor_bytes f) (λ e. length_bytes factor_bytes f ∙ sym (factor_fills bytes f e))
