-- A job, a chain, a draft, a question and readings with their numbers as the fields hold them: they are refused exactly as the
-- typed numbers would be, and what is accepted has the typed numbers.
use Prim.Native.Nat.{ℕ, ◌%◌, ◌^◌, ◌≤◌, ◌<◌}
use mathlib.Core.Path.{◌≡◌, refl, sym, ap, ap₂, ◌∙◌}
use mathlib.Core.Bool.{Bool, true, false, cond, ◌&&◌, ◌||◌, and-false}
use mathlib.Core.List.{List, [], ◌∷◌}
use native.Mathlib.Omega.{arith}
use borrow.Author.Tests.{leb-true, lt-leb, ltb-true, ltb-false}
use lib.Dec.{leb, ltb, eqb}
use lib.ListN.{length}
use lib.IntN.{ℤ, pos, nat_abs}
use Rattle.std.specs.Prelude.{Result, Ok, Err}
use Rattle.refusals.specs.declared.Refusal.{Refusal}
use Rattle.metres.specs.Metres.{most_centimetres}
use Rattle.chart.specs.declared.Place.{Place}
use Rattle.chart.specs.declared.Chain.{Chain}
use Rattle.chart.specs.Places.{in_range}
use Rattle.chart.specs.Chains.{is_sound}
use Rattle.chart.specs.Readings.{wanted_of, expected_at}
use Rattle.chart.proofs.PlaceLaws.{both}
use Rattle.chart.proofs.ReadingLaws.{expected_out}
use Rattle.search.specs.Windows.{is_window}
use Rattle.search.specs.declared.HowMany.{HowMany}
use Rattle.search.specs.declared.Stopped.{Stopped}
use Rattle.search.specs.Questions.{Question, rule_of, most_reading, most_tolerance, none_too_large}
use Rattle.search.specs.Answers.{Outcome}
use Rattle.search.specs.Counts.{for_one, first_of, said_for, how_many_of}
use Rattle.search.proofs.AnswerLaws.{search_3}
use Rattle.records.specs.declared.Job.{Job}
use Rattle.records.specs.LogRecords.{log_bytes}
use Rattle.records.specs.ChainTables.{chain_bytes, most_chains, one_to, chain_of, is_table, chains_in}
use Rattle.records.specs.Jobs.{job_bytes, many_by}
use Rattle.records.proofs.TableLaws.{one_to_says}
use Rattle.writing.specs.declared.Draft.{Draft}
use Rattle.writing.specs.Writing.{is_kind, numbers_fit, refusal_of, used_of}
use Rattle.writing.specs.ChainWriting.{chain_refusal_of}
use Rattle.writing.specs.JobWriting.{job_refusal_of}
use Rattle.writing.proofs.WriteLaws.{used_small}
use Rattle.records.proofs.RefusalLaws.{passed}
use Rattle.parsing.specs.Numbers.{held}
use Rattle.parsing.proofs.Held.{number_held, held_most, held_equal, held_one_to, held_place, held_in_range, place_held, held_chain, chain_held, held_sound, held_window, held_is_window, window_held, held_whole, held_size, whole_held, held_is_place}

-- A job.
abbrev pub held_job : Job → Job
held_job j = record { window = held_window j.window; tolerance = held 32 j.tolerance; allowance = held 64 j.allowance }

pub job_refused : (bytes : ℕ) (j : Job) → job_refusal_of bytes (held_job j) ≡ job_refusal_of bytes j
unfolding job_refusal_of
job_refused bytes j = rw (held_is_window j.window, held_most 32 j.tolerance most_tolerance (omega arith))

pub job_kept : (bytes : ℕ) (j : Job) → j.allowance < 2 ^ 64 → job_refusal_of bytes j ≡ Ok tt → held_job j ≡ j
unfolding job_refusal_of
job_kept bytes j small e =
    let window = passed (is_window j.window) (λ f. cc) (passed (eqb bytes job_bytes) (λ f. cc) e).1 in
    let few = leb-true j.tolerance most_tolerance (passed (leb j.tolerance most_tolerance) (λ f. cc) window.1).0 in
    rw (window_held j.window window.0, number_held 32 j.tolerance (omega arith), number_held 64 j.allowance small)

-- A chain.
pub chain_refused : (bytes : ℕ) (c : Chain) → chain_refusal_of bytes (held_chain c) ≡ chain_refusal_of bytes c
unfolding chain_refusal_of
chain_refused bytes c = rw (held_sound c)

pub chain_kept : (bytes : ℕ) (c : Chain) → chain_refusal_of bytes c ≡ Ok tt → held_chain c ≡ c
unfolding chain_refusal_of
chain_kept bytes c e =
    let sound = (passed (is_sound c) (λ f. cc) (passed (eqb bytes chain_bytes) (λ f. cc) e).1).0 in
    chain_held c sound

-- A draft.
abbrev pub held_draft : Draft → Draft
held_draft d =
    record {
      kind = held 32 d.kind;
      chain = held 32 d.chain;
      line = held 32 d.line;
      x = held_whole d.x;
      y = held_whole d.y;
    }

pub draft_refused : (bytes : ℕ) (d : Draft) → refusal_of bytes (held_draft d) ≡ refusal_of bytes d
unfolding refusal_of
draft_refused bytes d =
    rw (
      held_one_to 32 3 d.kind (omega arith),
      held_equal 32 d.kind 3 (omega arith),
      held_size d.x,
      held_size d.y,
      held_equal 32 d.kind 2 (omega arith),
      held_is_place d.x d.y,
      held_equal 32 d.kind 1 (omega arith),
      held_one_to 32 most_chains d.chain (omega arith),
    )

-- The held draft uses what the draft uses, as its fields hold it; and if the draft is accepted, these are its own numbers.
held_used : (d : Draft) → used_of (held_draft d) ≡ held_draft (used_of d)
unfolding used_of
held_used d =
    rw (
      held_equal 32 d.kind 1 (omega arith),
      held_equal 32 d.kind 3 (omega arith),
      chain_held_if (eqb d.kind 1) d.chain,
      whole_held_if (eqb d.kind 3) d.x,
      whole_held_if (eqb d.kind 3) d.y,
    )
  where
    chain_held_if : (t : Bool) (n : ℕ) → cond t (held 32 n) 0 ≡ held 32 (cond t n 0)
    chain_held_if true n = refl
    chain_held_if false n = refl

    whole_held_if : (t : Bool) (z : ℤ) → cond t (pos 0) (held_whole z) ≡ held_whole (cond t (pos 0) z)
    whole_held_if true z = refl
    whole_held_if false z = refl

pub used_fits : (bytes : ℕ) (d : Draft) → refusal_of bytes d ≡ Ok tt →
    (nat_abs (used_of d).x ≤ most_centimetres) × (nat_abs (used_of d).y ≤ most_centimetres)
unfolding refusal_of used_of
used_fits bytes d e =
    let kind = passed (is_kind d.kind) (λ f. cc) (passed (eqb bytes log_bytes) (λ f. cc) e).1 in
    fit (eqb d.kind 3) d.x d.y (passed (numbers_fit d) (λ f. cc) kind.1).0
  where
    fit : (t : Bool) (x y : ℤ) → (t || (leb (nat_abs x) most_centimetres && leb (nat_abs y) most_centimetres)) ≡ true →
        (nat_abs (cond t (pos 0) x) ≤ most_centimetres) × (nat_abs (cond t (pos 0) y) ≤ most_centimetres)
    fit true x y h = (omega arith, omega arith)
    fit false x y h =
        let two = both (leb (nat_abs x) most_centimetres) (leb (nat_abs y) most_centimetres) h in
        (leb-true _ _ two.0, leb-true _ _ two.1)

pub used_kept : (bytes : ℕ) (d : Draft) → d.line < 2 ^ 32 → refusal_of bytes d ≡ Ok tt → held_draft (used_of d) ≡ used_of d
used_kept bytes d small e =
    let few = used_small bytes d e in
    let fit = used_fits bytes d e in
    let line : (used_of d).line < 2 ^ 32 = unfold used_of in small in
    rw (
      number_held 32 (used_of d).kind (omega (arith, few.0)),
      number_held 32 (used_of d).chain (omega (arith, few.1)),
      number_held 32 (used_of d).line line,
      whole_held (used_of d).x fit.0,
      whole_held (used_of d).y fit.1,
    )

pub draft_kept : (bytes : ℕ) (d : Draft) → d.line < 2 ^ 32 → refusal_of bytes d ≡ Ok tt → used_of (held_draft d) ≡ used_of d
draft_kept bytes d small e = held_used d ∙ used_kept bytes d small e

-- A question: the chain of a table that the number names, and the readings expected at the place.
table_few : (table : List ℕ) → is_table table ≡ true → chains_in table ≤ most_chains
table_few table h =
    (one_to_says most_chains (chains_in table)
    (both (eqb (length table % chain_bytes) 0) (one_to most_chains (chains_in table)) h).1).1

pub named_held : (table scale : List ℕ) (n : ℕ) → chain_of table scale (held 32 n) ≡ chain_of table scale n
unfolding chain_of
named_held table scale n = go (is_table table) refl (ltb n (2 ^ 32)) refl
  where
    go : (t : Bool) → is_table table ≡ t → (u : Bool) → ltb n (2 ^ 32) ≡ u → chain_of table scale (held 32 n) ≡ chain_of table scale n
    go false e u f = rw e
    go true e true f = ap (chain_of table scale) (number_held 32 n (ltb-true n (2 ^ 32) f))
    go true e false f =
        let few = table_few table e in
        let over = lt-leb n (chains_in table) (omega (arith, ltb-false n (2 ^ 32) f)) in
        let out : one_to (chains_in table) n ≡ false = ap (λ (t : Bool). leb 1 n && t) over ∙ and-false (leb 1 n) in
        rw (held_one_to 32 (chains_in table) n (omega arith), out)

pub expected_held : (c : Chain) (p : Place) → expected_at c (held_place p) ≡ expected_at c p
expected_held c p = go (in_range p) refl
  where
    go : (t : Bool) → in_range p ≡ t → expected_at c (held_place p) ≡ expected_at c p
    go true e = ap (expected_at c) (place_held p e)
    go false e =
        expected_out c (held_place p) (held_in_range 32 p.easting p.northing (omega arith) ∙ e)
        ∙ sym (expected_out c p e)

-- Readings to ask about: how many places they allow by a job.
module _ (c : Chain) (x y : ℤ) where
  -- They are too large exactly if the typed readings are.
  none_held : none_too_large (wanted_of c (held_whole x ∷ held_whole y ∷ [])) ≡ none_too_large (wanted_of c (x ∷ y ∷ []))
  unfolding none_too_large
  none_held = rw (held_size x, held_size y)

  both_held : none_too_large (wanted_of c (x ∷ y ∷ [])) ≡ true → held_whole x ∷ held_whole y ∷ [] ≡ x ∷ y ∷ []
  unfolding none_too_large
  both_held e =
      let first = both (leb (nat_abs x) most_reading) _ e in
      let second = both (leb (nat_abs y) most_reading) true first.1 in
      ap₂ (λ (u v : ℤ). u ∷ v ∷ []) (whole_held x (leb-true _ _ first.0)) (whole_held y (leb-true _ _ second.0))

  asked_held : (j : Job) → many_by (Ok j) c (held_whole x ∷ held_whole y ∷ []) ≡ many_by (Ok j) c (x ∷ y ∷ [])
  unfolding many_by how_many_of
  asked_held j = go (none_too_large (wanted_of c (x ∷ y ∷ []))) refl
    where
      said : List ℤ → Question
      said readings = for_one (rule_of c readings j.tolerance) j.allowance

      three : Outcome → Result HowMany Stopped
      three o = said_for o.answer (first_of o.places)

      go : (b : Bool) → none_too_large (wanted_of c (x ∷ y ∷ [])) ≡ b → many_by (Ok j) c (held_whole x ∷ held_whole y ∷ []) ≡ many_by (Ok j) c (x ∷ y ∷ [])
      go true e = ap (λ (l : List ℤ). many_by (Ok j) c l) (both_held e)
      go false e =
          ap three (search_3 (said (held_whole x ∷ held_whole y ∷ [])) j.window (none_held ∙ e))
          ∙ sym (ap three (search_3 (said (x ∷ y ∷ [])) j.window e))

  pub many_held : (a : Result Job Refusal) → many_by a c (held_whole x ∷ held_whole y ∷ []) ≡ many_by a c (x ∷ y ∷ [])
  unfolding many_by
  many_held (Ok j) = asked_held j
  many_held (Err why) = refl
