-- The tests of the writer of log records, one after the other, what follows from each, and the bytes that it puts.
use Prim.Native.Nat.{ℕ, ◌≤◌, ◌<◌}
use mathlib.Core.Path.{◌≡◌, refl}
use mathlib.Core.Bool.{Bool, true, false, not, cond, ◌||◌}
use native.Mathlib.Omega.{arith}
use lib.Dec.{eqb}
use lib.ListN.{length, set, replicate}
use borrow.Author.Tests.{eqb-true}
use Rattle.std.specs.Prelude.{Ok}
use Rattle.fields.specs.Fields.{bytes_of, put_at}
use Rattle.metres.specs.Patterns.{put_number_at}
use Rattle.records.specs.LogRecords.{log_bytes}
use Rattle.records.specs.ChainTables.{most_chains, one_to}
use Rattle.records.proofs.TableLaws.{one_to_says}
use Rattle.records.proofs.RefusalLaws.{passed}
use Rattle.writing.specs.declared.Draft.{Draft}
use Rattle.writing.specs.Writing.{is_kind, numbers_fit, place_fits, chain_fits, refusal_of, used_of, in_metres, record_bytes, buffer_of}
use Rattle.writing.proofs.BufferLaws.{not_refused, left_written, left_zero}

-- Put one after the other into zeros, the fields are the bytes of the record.
pub put_together : (d : Draft) → put_number_at (put_number_at (put_at 4 (set (set (replicate 32 0) 0 d.kind) 1 d.chain) 4 d.line) 8 (in_metres d.x)) 16 (in_metres d.y) ≡ record_bytes d
unfolding put_at bytes_of record_bytes
put_together d = refl

-- A record has 32 bytes.
pub record_length : (d : Draft) → length (record_bytes d) ≡ log_bytes
unfolding record_bytes bytes_of
record_length d = refl

-- What a buffer holds after a write that was not refused, and after one that was.
pub buffer_written : (bytes : ℕ) (d : Draft) → refusal_of bytes d ≡ Ok tt → buffer_of bytes d ≡ record_bytes (used_of d)
unfolding buffer_of
buffer_written bytes d e = left_written bytes (record_bytes (used_of d)) e

pub buffer_zero : (bytes : ℕ) (d : Draft) → (refusal_of bytes d ≡ Ok tt → ⊥) → buffer_of bytes d ≡ replicate bytes 0
unfolding buffer_of
buffer_zero bytes d n = left_zero bytes (refusal_of bytes d) (record_bytes (used_of d)) n

-- No kind is above 3.
pub known_kind : (kind : ℕ) → is_kind kind ≡ true → kind ≤ 3
known_kind kind e = (one_to_says 3 kind e).1

-- Only a buffer of 32 bytes is written.
pub written_bytes : (bytes : ℕ) (d : Draft) → refusal_of bytes d ≡ Ok tt → bytes ≡ log_bytes
unfolding refusal_of
written_bytes bytes d e = eqb-true bytes log_bytes (passed _ not_refused e).0

-- Kind and chain of what is written each fit a byte.
pub used_small : (bytes : ℕ) (d : Draft) → refusal_of bytes d ≡ Ok tt → ((used_of d).kind < 256) × ((used_of d).chain < 256)
unfolding refusal_of used_of
used_small bytes d e =
    let kind = passed (is_kind d.kind) not_refused (passed (eqb bytes log_bytes) not_refused e).1 in
    let numbers = passed (numbers_fit d) not_refused kind.1 in
    let place = passed (place_fits d) not_refused numbers.1 in
    let chain = passed (chain_fits d) not_refused place.1 in
    (omega (arith, known_kind d.kind kind.0), small (eqb d.kind 1) d.chain chain.0)
  where
    small : (t : Bool) (n : ℕ) → (not t || one_to most_chains n) ≡ true → cond t n 0 < 256
    small true n h = omega (arith, (one_to_says most_chains n h).1)
    small false n h = omega arith
