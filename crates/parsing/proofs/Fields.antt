-- Numbers that are too large for their field (specs/Numbers.antt, `held`). The numbers of a line, as their fields hold them,
-- are refused exactly as the typed numbers would be, whatever their size; and every number that is written is the one that was
-- typed.
use Prim.Native.Nat.{ℕ, ◌+◌, ◌^◌, ◌<◌}
use mathlib.Core.Path.{◌≡◌, refl, sym, ap, ap₂, ◌∙◌}
use mathlib.Core.Bool.{Bool, true, false, cond, ◌&&◌, ◌||◌}
use mathlib.Core.List.{List, [], ◌∷◌}
use native.Mathlib.Omega.{arith}
use borrow.Author.Tests.{ltb-true}
use lib.IntN.{ℤ}
use Rattle.std.specs.Prelude.{Some, None, Result, Ok, Err}
use Rattle.refusals.specs.declared.Refusal.{Refusal}
use Rattle.refusals.specs.declared.Refusal.TheVariants as refusal
use Rattle.chart.specs.declared.Place.{Place}
use Rattle.chart.specs.declared.Chain.{Chain}
use Rattle.chart.specs.Places.{in_range}
use Rattle.chart.specs.Readings.{expected_at}
use Rattle.chart.proofs.PlaceLaws.{both}
use Rattle.records.specs.Bytes.{unless}
use Rattle.records.specs.declared.Job.{Job}
use Rattle.records.specs.Jobs.{usual_allowance, many_by}
use Rattle.records.specs.ChainTables.{chain_of}
use Rattle.writing.specs.declared.Draft.{Draft}
use Rattle.writing.specs.Writing.{refusal_of, used_of}
use Rattle.writing.specs.ChainWriting.{chain_refusal_of}
use Rattle.writing.specs.JobWriting.{job_refusal_of}
use Rattle.records.proofs.RefusalLaws.{passed}
use Rattle.parsing.specs.declared.PlaceAsked.{PlaceAsked}
use Rattle.parsing.specs.declared.ReadingsAsked.{ReadingsAsked}
use Rattle.parsing.specs.declared.Form.TheVariants as form
use Rattle.parsing.specs.Words.{word_at, no_word, is_passed}
use Rattle.parsing.specs.Numbers.{is_number, is_below, fits, value_at, length_at, held, size_at, reading_at, held_reading}
use Rattle.parsing.specs.Forms.{words_of, taken_for, is_taken, is_form}
use Rattle.parsing.specs.Parsed.{allowance_in, factor_in, parsed_job, parsed_chain, parsed_draft, parsed_question, parsed_readings}
use Rattle.parsing.proofs.Forms.{form_word}
use Rattle.parsing.proofs.Held.{held_place, held_in_range, held_chain, held-signed}
use Rattle.parsing.proofs.HeldRecords.{held_job, job_refused, job_kept, chain_refused, chain_kept, held_draft, draft_refused, used_kept, draft_kept, named_held, expected_held, many_held}

-- What a line says, whatever the size of its numbers.
abbrev pub place_typed : List ℕ → ℕ → Place
place_typed s i = record { easting = length_at s i; northing = length_at s (i + 1) }

abbrev pub job_typed : List ℕ → Job
job_typed s =
    record {
      window = record { corner = place_typed s 0; k = value_at s 2 };
      tolerance = length_at s 3;
      allowance = allowance_in s;
    }

abbrev pub chain_typed : List ℕ → Chain
chain_typed s = record { master = place_typed s 0; a = place_typed s 2; b = place_typed s 4; factor = factor_in s }

abbrev pub draft_typed : List ℕ → Draft
draft_typed s =
    record {
      kind = value_at s 0;
      chain = value_at s 1;
      line = value_at s 2;
      x = reading_at s 3;
      y = reading_at s 4;
    }

-- The line number of a draft and the allowance of a job fit their fields.
line_fits : (s : List ℕ) → is_form form.Draft s ≡ true → value_at s 2 < 2 ^ 32
unfolding taken_for is_taken words_of
line_fits s h =
    let word = form_word form.Draft s 2 h (omega arith) in
    ltb-true (value_at s 2) (2 ^ 32) (both (is_number (word_at 2 s)) (fits 32 (value_at s 2)) word).1

allowance_fits : (s : List ℕ) → is_form form.Job s ≡ true → allowance_in s < 2 ^ 64
unfolding taken_for is_taken words_of
allowance_fits s h = go (no_word 4 s) (form_word form.Job s 4 h (omega arith))
  where
    go : (t : Bool) → (t || (is_number (word_at 4 s) && fits 64 (value_at s 4))) ≡ true → cond t usual_allowance (value_at s 4) < 2 ^ 64
    go true e = omega arith
    go false e = ltb-true (value_at s 4) (2 ^ 64) (both (is_number (word_at 4 s)) (fits 64 (value_at s 4)) e).1

-- A line that stands for something is not passed over.
spoken : {A : Type 0} (p : Bool) {over rest r : A} → (over ≡ r → ⊥) → cond p over rest ≡ r → (p ≡ false) × (rest ≡ r)
spoken true never e = absurd (never e)
spoken false never e = (refl, e)

-- A line's draft has the typed numbers as their fields hold them.
pub draft_line : (s : List ℕ) → parsed_draft s ≡ cond (is_passed s) (Ok None) (unless (is_form form.Draft s) (Err refusal.Line) (Ok (Some (held_draft (draft_typed s)))))
unfolding parsed_draft
draft_line s = rw (held-signed (is_below (word_at 3 s)) (size_at s 3), held-signed (is_below (word_at 4 s)) (size_at s 4))

-- A line that is read as a job: the writer refuses the job exactly as it would refuse the typed numbers, whatever their size;
-- and a job that it accepts has the typed numbers.
pub job_as_typed : (bytes : ℕ) (s : List ℕ) (j : Job) → parsed_job s ≡ Ok j →
    (job_refusal_of bytes j ≡ job_refusal_of bytes (job_typed s)) × (job_refusal_of bytes j ≡ Ok tt → j ≡ job_typed s)
unfolding parsed_job
job_as_typed bytes s j e =
    let of = passed (is_form form.Job s) (λ f. cc) e in
    let same : j ≡ held_job (job_typed s) = cc of.1 in
    let small = allowance_fits s of.0 in
    let refused = ap (job_refusal_of bytes) same ∙ job_refused bytes (job_typed s) in
    (refused, λ accepted. same ∙ job_kept bytes (job_typed s) small (sym refused ∙ accepted))

-- The same for a chain.
pub chain_as_typed : (bytes : ℕ) (s : List ℕ) (c : Chain) → parsed_chain s ≡ Ok (Some c) →
    (chain_refusal_of bytes c ≡ chain_refusal_of bytes (chain_typed s)) × (chain_refusal_of bytes c ≡ Ok tt → c ≡ chain_typed s)
unfolding parsed_chain
chain_as_typed bytes s c e =
    let said = spoken (is_passed s) (λ f. cc) e in
    let of = passed (is_form form.Chain s) (λ f. cc) said.1 in
    let same : c ≡ held_chain (chain_typed s) = cc of.1 in
    let refused = ap (chain_refusal_of bytes) same ∙ chain_refused bytes (chain_typed s) in
    (refused, λ accepted. same ∙ chain_kept bytes (chain_typed s) (sym refused ∙ accepted))

-- The same for a draft; one that is accepted has the typed numbers that its kind uses.
pub draft_as_typed : (bytes : ℕ) (s : List ℕ) (d : Draft) → parsed_draft s ≡ Ok (Some d) →
    (refusal_of bytes d ≡ refusal_of bytes (draft_typed s)) × (refusal_of bytes d ≡ Ok tt → used_of d ≡ used_of (draft_typed s))
draft_as_typed bytes s d e =
    let said = spoken (is_passed s) (λ f. cc) (sym (draft_line s) ∙ e) in
    let of = passed (is_form form.Draft s) (λ f. cc) said.1 in
    let same : d ≡ held_draft (draft_typed s) = cc of.1 in
    let refused = ap (refusal_of bytes) same ∙ draft_refused bytes (draft_typed s) in
    (refused, λ accepted. ap used_of same ∙ draft_kept bytes (draft_typed s) (line_fits s of.0) (sym refused ∙ accepted))

-- The other way: a line of the right form whose numbers the writer accepts is read as these numbers; for a draft, as the
-- numbers that its kind uses.
pub job_taken : (bytes : ℕ) (s : List ℕ) → is_form form.Job s ≡ true → job_refusal_of bytes (job_typed s) ≡ Ok tt →
    parsed_job s ≡ Ok (job_typed s)
unfolding parsed_job
job_taken bytes s line accepted = rw line (ap Ok (job_kept bytes (job_typed s) (allowance_fits s line) accepted))

pub chain_taken : (bytes : ℕ) (s : List ℕ) → is_passed s ≡ false → is_form form.Chain s ≡ true → chain_refusal_of bytes (chain_typed s) ≡ Ok tt →
    parsed_chain s ≡ Ok (Some (chain_typed s))
unfolding parsed_chain
chain_taken bytes s said line accepted = rw (said, line) (ap (λ (c : Chain). Ok (Some c)) (chain_kept bytes (chain_typed s) accepted))

pub draft_taken : (bytes : ℕ) (s : List ℕ) (d : Draft) → is_passed s ≡ false → is_form form.Draft s ≡ true → draft_typed s ≡ used_of d → refusal_of bytes d ≡ Ok tt →
    parsed_draft s ≡ Ok (Some (used_of d))
unfolding used_of
draft_taken bytes s d said of typed accepted =
    let line : value_at s 2 ≡ d.line = ap (λ (e : Draft). e.line) typed in
    draft_line s
    ∙ rw (said, of) (ap (λ (e : Draft). Ok (Some e)) (ap held_draft typed ∙ used_kept bytes d (omega (arith, line_fits s of)) accepted))

-- A line that is read as a question: its number names the same chain of a table as the typed number, whatever its size; and at
-- its place a chain has the same readings, or the same refusal, as at the typed place.
pub question_as_typed : (table scale s : List ℕ) (number : ℕ) (p : Place) → parsed_question s ≡ Ok (record { chain = number; place = p }) →
    (chain_of table scale number ≡ chain_of table scale (value_at s 0))
    × (in_range p ≡ in_range (place_typed s 1))
    × ((c : Chain) → expected_at c p ≡ expected_at c (place_typed s 1))
unfolding parsed_question
question_as_typed table scale s number p e =
    let of = passed (is_form form.Question s) (λ f. cc) e in
    let asked : ◌≡◌ {A = PlaceAsked} (record { chain = held 32 (value_at s 0); place = held_place (place_typed s 1) }) (record { chain = number; place = p }) = cc of.1 in
    let n : number ≡ held 32 (value_at s 0) = sym (ap (λ (q : PlaceAsked). q.chain) asked) in
    let place : p ≡ held_place (place_typed s 1) = sym (ap (λ (q : PlaceAsked). q.place) asked) in (
      ap (chain_of table scale) n ∙ named_held table scale (value_at s 0),
      ap in_range place ∙ held_in_range 32 (length_at s 1) (length_at s 2) (omega arith),
      λ c. ap (expected_at c) place ∙ expected_held c (place_typed s 1),
    )

-- A line that is read as readings: its number names the same chain of a table as the typed number, and by any job and chain its
-- readings allow as many places as the typed ones, or are refused as these would be.
pub readings_as_typed : (table scale s : List ℕ) (number : ℕ) (a b : ℤ) → parsed_readings s ≡ Ok (record { chain = number; a = a; b = b }) →
    (chain_of table scale number ≡ chain_of table scale (value_at s 0))
    × ((j : Result Job Refusal) (c : Chain) → many_by j c (a ∷ b ∷ []) ≡ many_by j c (reading_at s 1 ∷ reading_at s 2 ∷ []))
unfolding parsed_readings
readings_as_typed table scale s number a b e =
    let of = passed (is_form form.Readings s) (λ f. cc) e in
    let asked : ◌≡◌ {A = ReadingsAsked} (record { chain = held 32 (value_at s 0); a = held_reading s 1; b = held_reading s 2 }) (record { chain = number; a = a; b = b }) = cc of.1 in
    let n : number ≡ held 32 (value_at s 0) = sym (ap (λ (q : ReadingsAsked). q.chain) asked) in
    let x : a ≡ held_reading s 1 = sym (ap (λ (q : ReadingsAsked). q.a) asked) in
    let y : b ≡ held_reading s 2 = sym (ap (λ (q : ReadingsAsked). q.b) asked) in (
      ap (chain_of table scale) n ∙ named_held table scale (value_at s 0),
      λ j c.
          ap₂ (λ (u v : ℤ). many_by j c (u ∷ v ∷ [])) (x ∙ sym (held-signed (is_below (word_at 1 s)) (size_at s 1))) (y ∙ sym (held-signed (is_below (word_at 2 s)) (size_at s 2)))
          ∙ many_held c (reading_at s 1) (reading_at s 2) j,
    )
