-- What is answered to a typed question is the answer for its numbers exactly as they were typed: the readings expected at a place,
-- and how many places readings allow.
use Prim.Native.Nat.{ℕ}
use mathlib.Core.Path.{◌≡◌, refl, ap, ap₂, ◌∙◌}
use mathlib.Core.Bool.{Bool}
use mathlib.Core.List.{List, [], ◌∷◌}
use lib.IntN.{ℤ}
use Rattle.std.specs.Prelude.{Result, Ok, Err}
use Rattle.refusals.specs.declared.Refusal.{Refusal}
use Rattle.refusals.specs.declared.Refusal.TheVariants as refusal
use Rattle.chart.specs.declared.Place.{Place}
use Rattle.chart.specs.declared.Chain.{Chain}
use Rattle.records.specs.Bytes.{unless}
use Rattle.records.specs.ChainTables.{scaled_count_of, chain_of}
use Rattle.records.specs.Jobs.{formed_job_of, many_by}
use Rattle.parsing.specs.Numbers.{value_at, reading_at}
use Rattle.parsing.specs.Parsed.{parsed_question, parsed_readings}
use Rattle.parsing.proofs.Fields.{place_typed, question_as_typed, readings_as_typed}
use Rattle.shown.specs.Expected.{by_chain, by_table, expected_in}
use Rattle.shown.specs.Counted.{chain_or_none, many_in, counted_in}

module _ (table scale s : List ℕ) (number : ℕ) (p : Place) (asked : parsed_question s ≡ Ok (record { chain = number; place = p })) where
  chain_as_typed : (n : Result Chain Refusal) → by_chain n p ≡ by_chain n (place_typed s 1)
  unfolding by_chain
  chain_as_typed (Ok c) = (question_as_typed table scale s number p asked).2 c
  chain_as_typed (Err r) = refl

  table_as_typed : (n : Result ℕ Refusal) → by_table n table scale number p ≡ by_table n table scale (value_at s 0) (place_typed s 1)
  unfolding by_table
  table_as_typed (Err r) = refl
  table_as_typed (Ok n) =
      let same = question_as_typed table scale s number p asked in
      ap₂ (λ (t : Bool) (x : Result (List ℤ) Refusal). unless t (Err refusal.Place) x) same.1
      (chain_as_typed (chain_of table scale number) ∙ ap (λ (n : Result Chain Refusal). by_chain n (place_typed s 1)) same.0)

  pub expected_as_typed : expected_in table scale number p ≡ expected_in table scale (value_at s 0) (place_typed s 1)
  expected_as_typed = table_as_typed (scaled_count_of table scale)

-- How many places typed readings allow is the answer for the chain number and the readings exactly as they were typed.
module _ (table scale bytes s : List ℕ) (number : ℕ) (a b : ℤ) (asked : parsed_readings s ≡ Ok (record { chain = number; a = a; b = b })) where
  many_as_typed : (n : Result ℕ Refusal) → many_in n (formed_job_of bytes) (chain_of table scale number) (a ∷ b ∷ []) ≡ many_in n (formed_job_of bytes) (chain_of table scale (value_at s 0)) (reading_at s 1 ∷ reading_at s 2 ∷ [])
  unfolding many_in
  many_as_typed (Err r) = refl
  many_as_typed (Ok n) =
      let same = readings_as_typed table scale s number a b asked in
      same.1 (formed_job_of bytes) (chain_or_none (chain_of table scale number))
      ∙ ap (λ (c : Result Chain Refusal). many_by (formed_job_of bytes) (chain_or_none c) (reading_at s 1 ∷ reading_at s 2 ∷ [])) same.0

  pub counted_as_typed : counted_in table scale bytes number (a ∷ b ∷ []) ≡ counted_in table scale bytes (value_at s 0) (reading_at s 1 ∷ reading_at s 2 ∷ [])
  counted_as_typed = many_as_typed (scaled_count_of table scale)
