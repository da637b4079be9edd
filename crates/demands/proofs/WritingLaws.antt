-- What the writer accepts for each kind of record, and which byte then holds the chain number.
use Prim.Native.Nat.{ℕ, ◌≤◌}
use mathlib.Core.Path.{◌≡◌, refl, ap}
use mathlib.Core.Bool.{true}
use mathlib.Core.List.{List}
use native.Mathlib.Omega.{arith}
use borrow.Author.Tests.{le-leb}
use lib.IntN.{ℤ, pos, nat_abs}
use Rattle.std.specs.Prelude.{Ok}
use Rattle.chart.specs.declared.Place.{Place}
use Rattle.chart.specs.Places.{in_range}
use Rattle.chart.proofs.PlaceLaws.{in_range_says}
use Rattle.records.specs.Bytes.{byte_at}
use Rattle.records.specs.LogRecords.{is_place}
use Rattle.writing.specs.declared.Draft.{Draft}
use Rattle.writing.specs.Writing.{refusal_of, used_of, record_bytes, buffer_of}
use Rattle.writing.proofs.WriteLaws.{buffer_written}

-- What the writer accepts, by kind.
pub hyperbolic_accepted : (chain line : ℕ) (a b : ℤ) → 1 ≤ chain → chain ≤ 16 → nat_abs a ≤ 1_000_000_000 → nat_abs b ≤ 1_000_000_000 →
    refusal_of 32 (record { kind = 1; chain = chain; line = line; x = a; y = b }) ≡ Ok tt
unfolding refusal_of
hyperbolic_accepted chain line a b some few ha hb =
    rw (le-leb (nat_abs a) 1_000_000_000 ha, le-leb (nat_abs b) 1_000_000_000 hb, le-leb 1 chain some, le-leb chain 16 few)

pub grid_accepted : (chain line : ℕ) (p : Place) → in_range p ≡ true →
    refusal_of 32 (record { kind = 2; chain = chain; line = line; x = pos p.easting; y = pos p.northing }) ≡ Ok tt
unfolding refusal_of is_place
grid_accepted chain line p h =
    let says = in_range_says p h in
    rw (le-leb p.easting 1_000_000_000 (omega arith), le-leb p.northing 1_000_000_000 (omega arith), h)

pub hold_accepted : (chain line : ℕ) (x y : ℤ) → refusal_of 32 (record { kind = 3; chain = chain; line = line; x = x; y = y }) ≡ Ok tt
unfolding refusal_of
hold_accepted chain line x y = refl

-- The chain number of a hyperbolic record is in byte 1.
pub chain_byte : (chain line : ℕ) (a b : ℤ) →
    let d : Draft = record { kind = 1; chain = chain; line = line; x = a; y = b } in
    refusal_of 32 d ≡ Ok tt → byte_at (buffer_of 32 d) 1 ≡ chain
unfolding record_bytes used_of
chain_byte chain line a b e = ap (λ (s : List ℕ). byte_at s 1) (buffer_written 32 _ e)
