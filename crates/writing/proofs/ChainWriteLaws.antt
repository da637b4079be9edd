-- The tests of the writer of chains, one after the other, what follows from each, and the bytes that it puts.
use Prim.Native.Nat.{ℕ}
use mathlib.Core.Path.{◌≡◌, refl, sym, ◌∙◌}
use mathlib.Core.Bool.{true}
use lib.ListN.{length, replicate}
use borrow.Author.Tests.{eqb-true, eq-eqb}
use Rattle.std.specs.Prelude.{Ok}
use Rattle.fields.specs.Fields.{bytes_of, put_at}
use Rattle.chart.specs.declared.Chain.{Chain}
use Rattle.chart.specs.Chains.{is_sound}
use Rattle.records.specs.ChainTables.{chain_bytes}
use Rattle.records.proofs.RefusalLaws.{passed}
use Rattle.writing.specs.ChainWriting.{put_place_at, bytes_of_chain, chain_refusal_of, chain_buffer_of}
use Rattle.writing.proofs.BufferLaws.{not_refused, left_written, left_zero, left_length}

-- A sound chain is accepted.
pub chain_accepted : (bytes : ℕ) (c : Chain) → bytes ≡ chain_bytes → is_sound c ≡ true → chain_refusal_of bytes c ≡ Ok tt
unfolding chain_refusal_of
chain_accepted bytes c whole s = rw (eq-eqb bytes chain_bytes whole, s)

-- Only a buffer of 24 bytes is written.
pub chain_fills : (bytes : ℕ) (c : Chain) → chain_refusal_of bytes c ≡ Ok tt → bytes ≡ chain_bytes
unfolding chain_refusal_of
chain_fills bytes c e = eqb-true bytes chain_bytes (passed _ not_refused e).0

-- Put one after the other into zeros, the places are the bytes of the chain.
pub places_together : (c : Chain) → put_place_at (put_place_at (put_place_at (replicate chain_bytes 0) 0 c.master) 8 c.a) 16 c.b ≡ bytes_of_chain c
unfolding put_at bytes_of bytes_of_chain
places_together c = refl

-- A chain has 24 bytes.
pub chain_length : (c : Chain) → length (bytes_of_chain c) ≡ chain_bytes
unfolding bytes_of_chain bytes_of
chain_length c = refl

-- What a buffer holds after a chain that was not refused, and after one that was.
pub chain_written_lem : (bytes : ℕ) (c : Chain) → chain_refusal_of bytes c ≡ Ok tt → chain_buffer_of bytes c ≡ bytes_of_chain c
unfolding chain_buffer_of
chain_written_lem bytes c e = left_written bytes (bytes_of_chain c) e

pub chain_zero : (bytes : ℕ) (c : Chain) → (chain_refusal_of bytes c ≡ Ok tt → ⊥) → chain_buffer_of bytes c ≡ replicate bytes 0
unfolding chain_buffer_of
chain_zero bytes c n = left_zero bytes (chain_refusal_of bytes c) (bytes_of_chain c) n

-- In both cases the buffer keeps its length.
pub chain_same_length : (bytes : ℕ) (c : Chain) → length (chain_buffer_of bytes c) ≡ bytes
unfolding chain_buffer_of
chain_same_length bytes c =
    left_length bytes (chain_refusal_of bytes c) (bytes_of_chain c) (λ e. chain_length c ∙ sym (chain_fills bytes c e))
