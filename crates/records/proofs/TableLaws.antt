-- The tests of a chain table, and what follows if they pass.
use Prim.Native.Nat.{ℕ, ◌+◌, ◌-◌, ◌*◌, ◌%◌, ◌≤◌}
use mathlib.Core.Path.{◌≡◌, ◌∙◌}
use mathlib.Core.Bool.{true}
use mathlib.Core.List.{List}
use native.Mathlib.Omega.{arith}
use lib.Dec.{leb, eqb}
use lib.ListN.{length}
use borrow.Author.Tests.{leb-true, eqb-true}
use Rattle.std.specs.Prelude.{Ok}
use Rattle.chart.specs.Chains.{is_sound}
use Rattle.chart.proofs.PlaceLaws.{both}
use Rattle.records.specs.ChainTables.{chain_bytes, most_chains, factor_bytes, one_to, chains_in, is_table, chain_count_of, is_scale, scaled_count_of, chain_in, chain_of}
use Rattle.records.proofs.RefusalLaws.{passed}

-- The chains of a table are counted.
pub table_counted : (s : List ℕ) → is_table s ≡ true → chain_count_of s ≡ Ok (chains_in s)
unfolding chain_count_of
table_counted s h = rw h

-- If they are counted with the side file, the table has so many, and the side file fits.
pub scaled_says : (s scale : List ℕ) {n : ℕ} → scaled_count_of s scale ≡ Ok n → (chain_count_of s ≡ Ok n) × (is_scale n scale ≡ true)
unfolding scaled_count_of
scaled_says s scale {n} e =
    let table = passed (is_table s) (λ h. cc) e in
    let fits = passed (is_scale (chains_in s) scale) (λ h. cc) table.1 in
    let same : chains_in s ≡ n = cc in
    (table_counted s table.0 ∙ fits.1, rw (← same) fits.0)

-- The chain that a number names, if all tests pass.
pub chain_named_lem : (s scale : List ℕ) (number : ℕ) → is_table s ≡ true → is_scale (chains_in s) scale ≡ true → one_to (chains_in s) number ≡ true → is_sound (chain_in s scale (number - 1)) ≡ true → chain_of s scale number ≡ Ok (chain_in s scale (number - 1))
unfolding chain_of
chain_named_lem s scale number h fits there sound = rw (h, fits, there, sound)

-- What the test `one_to` says, and that the chain of a number in the table lies inside the bytes of table and side file.
pub one_to_says : (most n : ℕ) → one_to most n ≡ true → (1 ≤ n) × (n ≤ most)
one_to_says most n h =
    let e = both (leb 1 n) (leb n most) h in
    (leb-true 1 n e.0, leb-true n most e.1)

pub chain_inside : (s scale : List ℕ) (number : ℕ) → is_scale (chains_in s) scale ≡ true → one_to (chains_in s) number ≡ true →
    (chain_bytes * (number - 1) + chain_bytes ≤ length s) × (factor_bytes * (number - 1) + factor_bytes ≤ length scale)
chain_inside s scale number fits h =
    let there = one_to_says (chains_in s) number h in
    (omega (arith, there), omega (arith, there, eqb-true (length scale) _ fits))

-- A table whose chains are counted has the bytes of 16 chains at most.
pub counted_short : (s : List ℕ) {n : ℕ} → chain_count_of s ≡ Ok n → length s ≤ most_chains * chain_bytes
unfolding chain_count_of
counted_short s {n} e =
    let table = passed (is_table s) (λ h. cc) e in
    let tests = both (eqb (length s % chain_bytes) 0) (one_to most_chains (chains_in s)) table.0 in
    omega (arith, eqb-true (length s % chain_bytes) 0 tests.0, one_to_says most_chains (chains_in s) tests.1)
