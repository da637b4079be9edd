-- Chains that are written one after the other are read back, each from its own 24 bytes and the 4 of its factor.
-- The checker computes where the bytes of the first chain lie; those of the chains after it lie 24 bytes farther on.
use Prim.Native.Nat.{ℕ, zero, suc, ◌+◌, ◌*◌, ◌%◌, ◌^◌, ◌≤◌, ◌<◌}
use mathlib.Core.Path.{◌≡◌, refl, sym, ap, ◌∙◌, subst⁻¹}
use mathlib.Core.Bool.{true}
use mathlib.Core.List.{List, [], ◌∷◌, ◌++◌}
use native.Mathlib.Omega.{arith}
use lib.ListN.{length, get_or, take, drop, length-append}
use lib.Seq.{drop-append-add, drop-drop}
use borrow.Author.Tests.{eq-eqb, le-leb}
use Rattle.fields.specs.Fields.{value_of, bytes_of, field_at}
use Rattle.fields.proofs.FieldLaws.{value_bytes}
use Rattle.chart.specs.declared.Place.{Place}
use Rattle.chart.specs.declared.Chain.{Chain}
use Rattle.chart.specs.Places.{in_range}
use Rattle.chart.specs.Factors.{is_factor}
use Rattle.chart.specs.Chains.{is_sound}
use Rattle.chart.proofs.PlaceLaws.{both, and_both, in_range_says}
use Rattle.chart.proofs.GroundLaws.{factor_says}
use Rattle.chart.proofs.ChainLaws.{factor_allowed, stations_in_range}
use Rattle.records.specs.ChainTables.{chain_bytes, most_chains, factor_bytes, one_to, chains_in, is_table, is_scale, chain_at, chain_in}
use Rattle.writing.specs.ChainWriting.{bytes_of_chain, chain_buffer_of, all_sound, table_of}
use Rattle.writing.specs.FactorWriting.{factor_buffer_of, scale_of}
use Rattle.writing.proofs.ChainWriteLaws.{chain_accepted, chain_written_lem, chain_same_length}
use Rattle.writing.proofs.FactorWriteLaws.{factor_accepted, factor_written, factor_same_length}

-- The numbers of a place in range fit four bytes each.
pub small_place : (p : Place) → in_range p ≡ true → (p.easting < 256 ^ 4) × (p.northing < 256 ^ 4)
small_place p h =
    let says = in_range_says p h in
    (omega arith, omega arith)

-- A chain comes back from the start of some bytes and its factor.
chain_first : (c : Chain) (rest : List ℕ) → is_sound c ≡ true → chain_at (bytes_of_chain c ++ rest) 0 c.factor ≡ c
unfolding bytes_of_chain bytes_of value_of
chain_first c rest sound =
    let there = stations_in_range c sound in
    let m = small_place c.master there.0 in
    let a = small_place c.a there.1.0 in
    let b = small_place c.b there.1.1.0 in
    rw (
      value_bytes 4 c.master.easting m.0,
      value_bytes 4 c.master.northing m.1,
      value_bytes 4 c.a.easting a.0,
      value_bytes 4 c.a.northing a.1,
      value_bytes 4 c.b.easting b.0,
      value_bytes 4 c.b.northing b.1,
    )

-- The field at `at + more` of s is the field at `more` of what is left of s from `at` on; so it is with a chain.
field_from : (s : List ℕ) (at more from : ℕ) → from ≡ at + more → field_at 4 s from ≡ field_at 4 (drop at s) more
field_from s at more from e = ap (field_at 4 s) e ∙ ap (λ (l : List ℕ). value_of (take 4 l)) (sym (drop-drop more at s))

chain_from : (s : List ℕ) (at factor : ℕ) → chain_at s at factor ≡ chain_at (drop at s) 0 factor
chain_from s at factor =
    rw (
      field_from s at 0 at (omega arith),
      field_from s at 4 (at + 4) refl,
      field_from s at 8 (at + 8) refl,
      field_from s at 12 (at + 8 + 4) (omega arith),
      field_from s at 16 (at + 16) refl,
      field_from s at 20 (at + 16 + 4) (omega arith),
    )

-- So with more bytes before it, a field or a chain lies farther on by the length of these bytes.
field_behind : (front rest : List ℕ) (at : ℕ) → field_at 4 (front ++ rest) (length front + at) ≡ field_at 4 rest at
field_behind front rest at =
    field_from (front ++ rest) (length front + at) 0 (length front + at) (omega arith)
    ∙ ap (λ (l : List ℕ). field_at 4 l 0) (drop-append-add front rest at)
    ∙ sym (field_from rest at 0 at (omega arith))

chain_behind : (front rest : List ℕ) (at factor : ℕ) → chain_at (front ++ rest) (length front + at) factor ≡ chain_at rest at factor
chain_behind front rest at factor =
    chain_from (front ++ rest) (length front + at) factor
    ∙ ap (λ (l : List ℕ). chain_at l 0 factor) (drop-append-add front rest at)
    ∙ sym (chain_from rest at factor)

-- Every chain takes 24 bytes of the table and 4 of the side file, whether it was written or refused.
table_length : (cs : List Chain) → length (table_of cs) ≡ chain_bytes * length cs
unfolding table_of
table_length [] = refl
table_length (c ∷ cs) =
    omega (arith, length-append (chain_buffer_of chain_bytes c) (table_of cs), chain_same_length chain_bytes c, table_length cs)

pub scale_length : (cs : List Chain) → length (scale_of cs) ≡ factor_bytes * length cs
unfolding scale_of
scale_length [] = refl
scale_length (c ∷ cs) =
    omega (arith, length-append (factor_buffer_of factor_bytes c.factor) (scale_of cs), factor_same_length factor_bytes c.factor, scale_length cs)

-- Each of the chains comes back from its place in the table, with its factor.
stations_back : (cs : List Chain) (i : ℕ) (other : Chain) → all_sound cs ≡ true → i < length cs →
    chain_at (table_of cs) (chain_bytes * i) (get_or cs i other).factor ≡ get_or cs i other
unfolding table_of all_sound
stations_back [] i other sound h = absurd (omega arith)
stations_back (c ∷ cs) zero other sound h =
    let good = (both (is_sound c) (all_sound cs) sound).0 in
    ap (λ (s : List ℕ). chain_at (s ++ table_of cs) 0 c.factor) (chain_written_lem chain_bytes c (chain_accepted chain_bytes c refl good))
    ∙ chain_first c (table_of cs) good
stations_back (c ∷ cs) (suc i) other sound h =
    let farther : chain_bytes * suc i ≡ length (chain_buffer_of chain_bytes c) + chain_bytes * i = omega (arith, chain_same_length chain_bytes c) in
    ap (λ (at : ℕ). chain_at (chain_buffer_of chain_bytes c ++ table_of cs) at (get_or cs i other).factor) farther
    ∙ chain_behind (chain_buffer_of chain_bytes c) (table_of cs) (chain_bytes * i) (get_or cs i other).factor
    ∙ stations_back cs i other (both (is_sound c) (all_sound cs) sound).1 (omega arith)

-- A factor comes back from the start of some bytes, and each of the factors from its place in the side file.
factor_first : (f : ℕ) (rest : List ℕ) → is_factor f ≡ true → field_at factor_bytes (factor_buffer_of factor_bytes f ++ rest) 0 ≡ f
unfolding bytes_of value_of
factor_first f rest good =
    ap (λ (s : List ℕ). field_at factor_bytes (s ++ rest) 0) (factor_written factor_bytes f (factor_accepted factor_bytes f refl good))
    ∙ value_bytes 4 f (omega (arith, (factor_says f good).1))

pub factor_back : (cs : List Chain) (i : ℕ) (other : Chain) → all_sound cs ≡ true → i < length cs →
    field_at factor_bytes (scale_of cs) (factor_bytes * i) ≡ (get_or cs i other).factor
unfolding scale_of all_sound
factor_back [] i other sound h = absurd (omega arith)
factor_back (c ∷ cs) zero other sound h = factor_first c.factor (scale_of cs) (factor_allowed c (both (is_sound c) (all_sound cs) sound).0)
factor_back (c ∷ cs) (suc i) other sound h =
    let front : List ℕ = factor_buffer_of factor_bytes c.factor in
    let farther : factor_bytes * suc i ≡ length front + factor_bytes * i = omega (arith, factor_same_length factor_bytes c.factor) in
    ap (field_at factor_bytes (front ++ scale_of cs)) farther
    ∙ field_behind front (scale_of cs) (factor_bytes * i)
    ∙ factor_back cs i other (both (is_sound c) (all_sound cs) sound).1 (omega arith)

pub chain_back : (cs : List Chain) (i : ℕ) (other : Chain) → all_sound cs ≡ true → i < length cs →
    chain_in (table_of cs) (scale_of cs) i ≡ get_or cs i other
chain_back cs i other sound h =
    ap (chain_at (table_of cs) (chain_bytes * i)) (factor_back cs i other sound h) ∙ stations_back cs i other sound h

-- A chain of the list is sound.
pub sound_there : (cs : List Chain) (i : ℕ) (other : Chain) → all_sound cs ≡ true → i < length cs → is_sound (get_or cs i other) ≡ true
unfolding all_sound
sound_there [] i other sound h = absurd (omega arith)
sound_there (c ∷ cs) zero other sound h = (both (is_sound c) (all_sound cs) sound).0
sound_there (c ∷ cs) (suc i) other sound h = sound_there cs i other (both (is_sound c) (all_sound cs) sound).1 (omega arith)

-- The table has as many chains as were written, it is accepted as a table if they are 1 to 16, and the side file fits it.
module _ (cs : List Chain) where
  pub chains_there : chains_in (table_of cs) ≡ length cs
  chains_there = omega (arith, table_length cs)

  pub is_table_lem : 1 ≤ length cs → length cs ≤ most_chains → is_table (table_of cs) ≡ true
  is_table_lem some few =
      and_both (eq-eqb (length (table_of cs) % chain_bytes) 0 (omega (arith, table_length cs)))
      (subst⁻¹ (λ (n : ℕ). one_to most_chains n ≡ true) chains_there (and_both (le-leb 1 (length cs) some) (le-leb (length cs) most_chains few)))

  pub is_scale_lem : is_scale (chains_in (table_of cs)) (scale_of cs) ≡ true
  is_scale_lem = eq-eqb (length (scale_of cs)) (factor_bytes * chains_in (table_of cs)) (omega (arith, scale_length cs, chains_there))
