-- A log listed in two parts, the first of whole records: the text of the second follows that of the first, and the place that the
-- first carries on is handed to it. By recursion over the records of the first part; the counts of records add up.
use Prim.Native.Nat.{ℕ, zero, suc, ◌+◌, ◌*◌, ◌/◌, ◌%◌, ◌≤◌, ◌<◌}
use mathlib.Core.Path.{◌≡◌, sym, ap, ◌∙◌}
use mathlib.Core.Bool.{true}
use mathlib.Core.List.{List, [], ◌∷◌, ◌++◌, append_assoc}
use native.Mathlib.Nat.{zero-add, suc-add}
use native.Mathlib.Omega.{arith}
use lib.ListN.{length, drop, length-append, length-drop}
use lib.Seq.{take_all, take-append-le, drop-append-le}
use borrow.Author.Tests.{ne_eqb}
use Rattle.std.specs.Prelude.{Option, Ok}
use Rattle.refusals.specs.declared.Refusal.TheVariants as refusal
use Rattle.records.specs.declared.Job.{Job}
use Rattle.records.specs.LogRecords.{log_bytes, log_record_of, in_centimetres, log_entry_of}
use Rattle.records.specs.ChainTables.{chain_count_of, is_scale}
use Rattle.records.specs.Jobs.{job_of}
use Rattle.text.specs.Texts.{last_digits, digits_of, bytes_in}
use Rattle.listing.specs.declared.Carried.{Carried}
use Rattle.listing.specs.Answers.{Refused, answer_by, answer_of, carried_by}
use Rattle.listing.specs.Listings.{head_of, answer_text, Part, line_before, joined, first_answer, first_line, lines_from, records_in, lines_of, listing_by, listing_from}

line_joined : (line : List ℕ) (p q : Part) → line_before line (joined p q) ≡ joined (line_before line p) q
line_joined line p q = λ i. record { text = sym (append_assoc line p.text q.text) i; carried = q.carried }

module _ (j : Job) (table scale : List ℕ) where
  lines_after : (n m : ℕ) (before : Option Carried) (a b : List ℕ) → length a ≡ n * log_bytes →
      lines_from (n + m) j table scale before (a ++ b)
      ≡ joined (lines_from n j table scale before a) (lines_from m j table scale (lines_from n j table scale before a).carried b)
  unfolding lines_from
  lines_after zero m before [] b h = ap (λ (k : ℕ). lines_from k j table scale before b) (zero-add m)
  lines_after zero m before (x ∷ a) b h = absurd (omega arith)
  lines_after (suc n) m before a b h =
      let next = carried_by (first_answer j table scale before a) in
      let rest = lines_from n j table scale next (drop log_bytes a) in
      ap (λ (k : ℕ). lines_from k j table scale before (a ++ b)) (suc-add n m)
      ∙ rw (
        take-append-le log_bytes a b (omega arith),
        drop-append-le log_bytes a b (omega arith),
        lines_after n m next (drop log_bytes a) b (omega (arith, length-drop log_bytes a)),
      )
      (line_joined (first_line j table scale before a) rest (lines_from m j table scale rest.carried b))

  -- The lines of a log in two parts, the first of whole records.
  pub lines_joined : (before : Option Carried) (a b : List ℕ) → length a % log_bytes ≡ 0 →
      lines_of j table scale before (a ++ b)
      ≡ joined (lines_of j table scale before a) (lines_of j table scale (lines_of j table scale before a).carried b)
  lines_joined before a b h =
      let n = length a / log_bytes in
      let whole : records_in a ≡ n = omega arith in
      ap (λ (k : ℕ). lines_from k j table scale before (a ++ b)) (omega (arith, length-append a b))
      ∙ lines_after n (records_in b) before a b (omega arith)
      ∙ ap (λ (p : Part). joined p (lines_of j table scale p.carried b))
      (ap (λ (k : ℕ). lines_from k j table scale before a) (sym whole))

  -- A record that is too short is refused for its length, and has one line.
  short_answer : (before : Option Carried) (s : List ℕ) → length s < log_bytes → answer_of j table scale before s ≡ Refused refusal.Length 0
  unfolding answer_of answer_by log_entry_of log_record_of in_centimetres
  short_answer before s few = rw (ne_eqb (length s) log_bytes (λ e. omega arith))

  pub short_line : (before : Option Carried) (s : List ℕ) → 1 ≤ length s → length s < log_bytes →
      (lines_of j table scale before s).text ≡ bytes_in "- REFUSED 1 0\n"
  unfolding lines_from head_of answer_text bytes_in digits_of last_digits
  short_line before s some few =
      let one : records_in s ≡ 1 = omega arith in
      ap (λ (k : ℕ). (lines_from k j table scale before s).text) one
      ∙ rw (take_all log_bytes s (omega arith), short_answer before s few, ne_eqb (length s) log_bytes (λ e. omega arith))

-- If job and table are accepted and the side file fits, a listing is the lines of its log.
module _ (job table scale : List ℕ) (j : Job) (n : ℕ)
    (good : job_of job ≡ Ok j) (known : chain_count_of table ≡ Ok n) (fits : is_scale n scale ≡ true) where
  pub listing_lines : (log : List ℕ) (before : Option Carried) → listing_from job table scale log before ≡ lines_of j table scale before log
  unfolding listing_from listing_by
  listing_lines log before = rw (good, known, fits)

  -- The listing of a log in two parts, the first of whole records.
  pub listing_joined : (before : Option Carried) (a b : List ℕ) → length a % log_bytes ≡ 0 →
      listing_from job table scale (a ++ b) before
      ≡ joined (listing_from job table scale a before) (listing_from job table scale b (listing_from job table scale a before).carried)
  listing_joined before a b h =
      listing_lines (a ++ b) before
      ∙ lines_joined j table scale before a b h
      ∙ sym (rw (listing_lines a before, listing_lines b (lines_of j table scale before a).carried))
