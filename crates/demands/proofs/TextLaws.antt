-- How a job, a chain or a log record that was written is shown: as a line without a refusal, whose fields, typed in, give
-- back what was written.
use Prim.Native.Nat.{ℕ, zero, suc, ◌+◌, ◌-◌, ◌*◌, ◌/◌, ◌%◌, ◌^◌, ◌≤◌, ◌<◌}
use mathlib.Core.Path.{◌≡◌, refl, sym, ap, ap₂, ◌∙◌}
use mathlib.Core.Bool.{Bool, true, false, false≢true, cond}
use mathlib.Core.List.{List, [], ◌∷◌, ◌++◌, map, append-nil, append_assoc}
use native.Mathlib.Omega.{arith}
use lib.Dec.{leb, eqb}
use lib.IntN.{ℤ, pos, negsuc, nat_abs}
use lib.ListN.{length, get_or, get_or-append}
use Rattle.std.specs.Prelude.{Option, Some, Result, Ok}
use Rattle.refusals.specs.declared.Refusal.{Refusal}
use Rattle.refusals.specs.Numbers.{number_told}
use borrow.Author.Tests.{le-leb, ne_eqb}
use Rattle.fields.specs.Fields.{bytes_of, field_at}
use Rattle.metres.specs.Metres.{signed, most_centimetres}
use Rattle.metres.proofs.Back.{way_back}
use Rattle.chart.specs.declared.Chain.{Chain}
use Rattle.chart.specs.Chains.{is_sound}
use Rattle.chart.proofs.PlaceLaws.{and_both}
use Rattle.search.specs.Windows.{is_window}
use Rattle.search.specs.Questions.{most_tolerance}
use Rattle.records.specs.declared.Job.{Job}
use Rattle.records.specs.LogRecords.{log_entry_of}
use Rattle.records.specs.ChainTables.{one_to, chains_in, is_table, chain_at, raw_chain_of, chain_of, chain_in, is_scale}
use Rattle.records.specs.Jobs.{job_bytes, job_in, raw_job_of, job_of}
use Rattle.writing.specs.declared.Draft.{Draft}
use Rattle.writing.specs.Buffers.{left_in}
use Rattle.writing.specs.Writing.{refusal_of, used_of, in_metres, buffer_of, raw_for}
use Rattle.writing.specs.ChainWriting.{bytes_of_chain, chain_refusal_of, chain_buffer_of, all_sound, table_of}
use Rattle.writing.specs.JobWriting.{job_refusal_of, job_buffer_of}
use Rattle.writing.proofs.Theorems.{reads_back, chains_read_back, job_reads_back, factors_read_back}
use Rattle.writing.specs.FactorWriting.{scale_of}
use Rattle.text.specs.Texts.{digits_of, figures_text, spaced, whole_text, numeral, bytes_in}
use Rattle.text.proofs.Digits.{all_digits, digits_some}
use Rattle.text.proofs.Digits.{reads_back as digits-back}
use Rattle.parsing.specs.declared.Form.TheVariants as form
use Rattle.parsing.specs.declared.Taken.TheVariants as taken
use Rattle.parsing.specs.Words.{run, word_at, is_passed, no_word}
use Rattle.parsing.specs.Numbers.{is_digit, is_length, centimetres_in, is_below, size_in, is_reading, value_at, reading_at}
use Rattle.parsing.specs.Forms.{words_of, taken_for, is_taken, is_form}
use Rattle.parsing.specs.Parsed.{parsed_job, parsed_chain, parsed_draft}
use Rattle.parsing.proofs.WordLaws.{IsWord, spaced_words, spaced_both, spaced_one, words_back}
use Rattle.parsing.proofs.Lengths.{metres_word, metres_length, metres_say}
use Rattle.parsing.proofs.TypedLaws.{digits_word, digits_number_taken, digits_line_taken, digits_allowance_taken, digits_length_taken, whole_word, whole_reading, whole_back, figures_spaced, words_form, figures_form, figures_back, lengths_back, figures_some, not_passed, figures_not_passed, digits_factor_taken, digits_words}
use Rattle.records.proofs.RefusalLaws.{passed}
use Rattle.records.proofs.JobLaws.{zeros_kept, job_by_tests}
use Rattle.parsing.proofs.HeldRecords.{used_fits}
use Rattle.parsing.proofs.Fields.{job_typed, chain_typed, draft_typed, job_taken, chain_taken, draft_taken}
use Rattle.shown.specs.Fields.{whole_or, centimetres_text, sign_text, decimal_text, metres_text, refused_text}
use Rattle.shown.specs.Lines.{line_with, job_figures, job_fields, job_text, job_line, station_figures, chain_fields, chain_text, refusal_in, chain_line, raw_text, raw_fields, record_text, record_line, factor_or, factor_text, has_factor, soundness}

-- If nothing is refused, only the newline follows the fields.
plain_line : (word fields : List ℕ) (number : ℕ) (s : List ℕ) → number ≡ 0 →
    line_with word fields number s ≡ word ++ (fields ++ bytes_in "\n")
unfolding refused_text
plain_line word fields number s e = rw e

-- A job.
raw_job_back : (s : List ℕ) (j : Job) → job_of s ≡ Ok j → raw_job_of s ≡ Ok j
unfolding raw_job_of
raw_job_back s j e =
    let size = passed (eqb (length s) job_bytes) (λ f. false≢true (cc)) (sym (job_by_tests s) ∙ e) in
    let zeros = passed (zeros_kept s) (λ f. false≢true (cc)) size.1 in
    let window = passed (is_window (job_in s).window) (λ f. false≢true (cc)) zeros.1 in
    let tolerance = passed (leb (job_in s).tolerance most_tolerance) (λ f. false≢true (cc)) window.1 in
    rw size.0 tolerance.1

module _ (j : Job) (small : j.allowance < 2 ^ 64) (accepted : job_refusal_of 32 j ≡ Ok tt) where
  pub job_shown : job_text (job_buffer_of 32 j) ≡ figures_text (job_figures j)
  unfolding job_fields
  job_shown = ap job_fields (raw_job_back (job_buffer_of 32 j) j (job_reads_back j small accepted))

  pub job_line_shown : job_line (job_buffer_of 32 j) ≡ bytes_in "JOB" ++ (job_text (job_buffer_of 32 j) ++ bytes_in "\n")
  unfolding job_line
  job_line_shown =
      plain_line (bytes_in "JOB") (job_text (job_buffer_of 32 j)) (number_told (job_of (job_buffer_of 32 j))) (job_buffer_of 32 j)
      (ap number_told (job_reads_back j small accepted))

  pub job_typed_again : parsed_job (job_text (job_buffer_of 32 j)) ≡ Ok j
  unfolding taken_for words_of
  job_typed_again =
      let ns = job_figures j in
      let at = figures_back ns in
      let length_at = lengths_back ns in
      let same : job_typed (figures_text ns) ≡ j =
      rw (length_at 0, length_at 1, at 2, length_at 3, figures_some ns 4 (omega arith), at 4) in
      ap parsed_job job_shown
      ∙ job_taken 32 (figures_text ns) (figures_form form.Job ns refl each) (ap (job_refusal_of 32) same ∙ accepted)
      ∙ ap Ok same
    where
      each : (i : ℕ) → i < 5 → is_taken (taken_for form.Job i) (digits_of (get_or (job_figures j) i 0)) ≡ true
      each zero l = digits_length_taken _
      each (suc zero) l = digits_length_taken _
      each (suc (suc zero)) l = digits_number_taken _
      each (suc (suc (suc zero))) l = digits_length_taken _
      each (suc (suc (suc (suc zero)))) l = digits_allowance_taken _ small
      each (suc (suc (suc (suc (suc i))))) l = absurd (omega (arith, l))

-- A chain.
module _ (c : Chain) (sound : is_sound c ≡ true) where
  chain_bytes_lem : chain_buffer_of 24 c ≡ bytes_of_chain c
  unfolding chain_buffer_of chain_refusal_of left_in
  chain_bytes_lem = rw sound

  chain_length : length (chain_buffer_of 24 c) ≡ 24
  unfolding bytes_of_chain bytes_of
  chain_length = ap length chain_bytes_lem

  alone : table_of (c ∷ []) ≡ chain_buffer_of 24 c
  unfolding table_of
  alone = append-nil (chain_buffer_of 24 c)

  chain_there : chain_of (chain_buffer_of 24 c) (scale_of (c ∷ [])) 1 ≡ Ok c
  unfolding all_sound
  chain_there =
      ap (λ (s : List ℕ). chain_of s (scale_of (c ∷ [])) 1) (sym alone)
      ∙ chains_read_back (c ∷ []) 1 c (and_both sound refl) (omega arith) (omega arith) (omega arith)

  factor_there : field_at 4 (scale_of (c ∷ [])) 0 ≡ c.factor
  unfolding all_sound
  factor_there = (factors_read_back (c ∷ []) 1 c (and_both sound refl) (omega arith) (omega arith)).1

  raw_chain_back : raw_chain_of (chain_buffer_of 24 c) c.factor ≡ Ok c
  unfolding chain_of raw_chain_of
  raw_chain_back =
      let s = chain_buffer_of 24 c in
      let scale = scale_of (c ∷ []) in
      let table = passed (is_table s) (λ f. false≢true (cc)) chain_there in
      let side = passed (is_scale (chains_in s) scale) (λ f. false≢true (cc)) table.1 in
      let one = passed (one_to (chains_in s) 1) (λ f. false≢true (cc)) side.1 in
      let good = passed (is_sound (chain_in s scale 0)) (λ f. false≢true (cc)) one.1 in
      rw chain_length (ap (λ (f : ℕ). Ok (chain_at s 0 f)) (sym factor_there) ∙ good.1)

  -- The fields of a chain with its factor.
  abbrev fields : List ℕ
  fields = station_figures c ++ (c.factor ∷ [])

  module _ (scale : List ℕ) (number : ℕ) (there : has_factor scale number ≡ true) (same : field_at 4 scale (4 * (number - 1)) ≡ c.factor) where
    factor_is : factor_or scale number ≡ c.factor
    factor_is = rw there same

    factor_last : figures_text (number ∷ station_figures c) ++ factor_text scale number ≡ spaced number ++ figures_text fields
    unfolding figures_text
    factor_last =
        let last : factor_text scale number ≡ figures_text (c.factor ∷ []) = rw (there, same) in
        ap (λ (t : List ℕ). figures_text (number ∷ station_figures c) ++ t) last ∙ simp append_assoc

    pub chain_line_shown : chain_line scale number (chain_buffer_of 24 c) ≡ bytes_in "CHAIN" ++ (spaced number ++ (figures_text fields ++ bytes_in "\n"))
    unfolding chain_line chain_fields soundness
    chain_line_shown =
        let s = chain_buffer_of 24 c in
        let read : raw_chain_of s (factor_or scale number) ≡ Ok c = ap (raw_chain_of s) factor_is ∙ raw_chain_back in
        let none : refusal_in scale number s ≡ 0 = ap (λ (a : Result Chain Refusal). number_told (soundness a)) read ∙ rw sound in
        plain_line (bytes_in "CHAIN") (chain_text scale number s) (refusal_in scale number s) s none
        ∙ ap (λ (t : List ℕ). bytes_in "CHAIN" ++ (t ++ bytes_in "\n")) (ap (chain_fields scale number) read ∙ factor_last)
        ∙ ap (λ (rest : List ℕ). bytes_in "CHAIN" ++ rest) (append_assoc (spaced number) (figures_text fields) (bytes_in "\n"))

  accepted : chain_refusal_of 24 c ≡ Ok tt
  unfolding chain_refusal_of
  accepted = rw sound

  pub chain_typed_again : parsed_chain (figures_text fields) ≡ Ok (Some c)
  unfolding taken_for words_of
  chain_typed_again =
      let at = lengths_back fields in
      let same : chain_typed (figures_text fields) ≡ c =
      rw (at 0, at 1, at 2, at 3, at 4, at 5, figures_some fields 6 (omega arith), figures_back fields 6) in
      chain_taken 24 (figures_text fields) (figures_not_passed _ _) (figures_form form.Chain fields refl each) (ap (chain_refusal_of 24) same ∙ accepted)
      ∙ ap (λ (x : Chain). Ok (Some x)) same
    where
      each : (i : ℕ) → i < 7 → is_taken (taken_for form.Chain i) (digits_of (get_or fields i 0)) ≡ true
      each i l = by_place (eqb i 6) refl
        where
          by_place : (t : Bool) → eqb i 6 ≡ t → is_taken (cond t taken.Factor taken.Length) (digits_of (get_or fields i 0)) ≡ true
          by_place true e = digits_factor_taken _
          by_place false e = digits_length_taken _

  -- Without the factor: the seventh word is missing.
  pub chain_typed_short : c.factor ≡ 1_000_000 → parsed_chain (figures_text (station_figures c)) ≡ Ok (Some c)
  unfolding taken_for words_of is_taken
  chain_typed_short one =
      let ns = station_figures c in
      let at = lengths_back ns in
      let words = words_back (map digits_of ns) (digits_words ns) in
      let missing : no_word 6 (figures_text ns) ≡ true = ap (λ (s : List ℕ). eqb (length (word_at 6 s)) 0) (figures_spaced ns) ∙ ap (λ (w : List ℕ). eqb (length w) 0) (words 6) in
      let same : chain_typed (figures_text ns) ≡ c = rw (at 0, at 1, at 2, at 3, at 4, at 5, missing, sym one) in
      chain_taken 24 (figures_text ns) (figures_not_passed _ _)
      (ap (is_form form.Chain) (figures_spaced ns) ∙ words_form form.Chain (map digits_of ns) (digits_words ns) (omega arith) each)
      (ap (chain_refusal_of 24) same ∙ accepted)
      ∙ ap (λ (x : Chain). Ok (Some x)) same
    where
      each : (i : ℕ) → i < 7 → is_taken (taken_for form.Chain i) (get_or (map digits_of (station_figures c)) i []) ≡ true
      each zero l = digits_length_taken _
      each (suc zero) l = digits_length_taken _
      each (suc (suc zero)) l = digits_length_taken _
      each (suc (suc (suc zero))) l = digits_length_taken _
      each (suc (suc (suc (suc zero)))) l = digits_length_taken _
      each (suc (suc (suc (suc (suc zero))))) l = digits_length_taken _
      each (suc (suc (suc (suc (suc (suc zero)))))) l = refl
      each (suc (suc (suc (suc (suc (suc (suc i))))))) l = absurd (omega (arith, l))

-- A chain that the writer accepts is sound.
pub chain_accepted_sound : (c : Chain) → chain_refusal_of 24 c ≡ Ok tt → is_sound c ≡ true
unfolding chain_refusal_of
chain_accepted_sound c e = (passed (is_sound c) (λ f. false≢true (cc)) e).0

-- A reading as it may be typed: a word that says it.
pub record Says (w : List ℕ) (z : ℤ) : Type 0 where
  pub word : IsWord w
  pub reading : is_reading w ≡ true
  pub back : signed (is_below w) (centimetres_in (size_in w)) ≡ z

whole_says : (z : ℤ) → Says (whole_text z) z
whole_says z = record { word = whole_word z; reading = whole_reading z; back = whole_back z }

-- The digit of a number below 10.
pub is_digit_lem : (n : ℕ) → n < 10 → is_digit (48 + n) ≡ true
is_digit_lem n h = and_both (le-leb 48 (48 + n) (omega arith)) (le-leb (48 + n) 57 (omega (arith, h)))

-- Centimetres written as metres are a word, and say the same centimetres.
module _ (n : ℕ) where
  tenths : is_digit (48 + n / 10 % 10) ≡ true
  tenths = is_digit_lem (n / 10 % 10) (omega arith)

  hundredths : is_digit (48 + n % 10) ≡ true
  hundredths = is_digit_lem (n % 10) (omega arith)

  pub decimal_word : IsWord (decimal_text n)
  unfolding bytes_in
  decimal_word = metres_word (n / 100) (48 + n / 10 % 10) (48 + n % 10) tenths hundredths

  pub decimal_length : is_length (decimal_text n) ≡ true
  unfolding bytes_in
  decimal_length = metres_length (n / 100) (48 + n / 10 % 10) (48 + n % 10) tenths hundredths

  pub decimal_says : centimetres_in (decimal_text n) ≡ n
  unfolding bytes_in
  decimal_says = metres_say (n / 100) (48 + n / 10 % 10) (48 + n % 10) tenths hundredths ∙ omega arith

  decimal_above : is_below (decimal_text n) ≡ false
  decimal_above =
      ne_eqb (get_or (decimal_text n) 0 0) 45
      (λ e. omega (
        arith,
        e,
        get_or-append (digits_of (n / 100)) (bytes_in "." ++ ((48 + n / 10 % 10) ∷ (48 + n % 10) ∷ [])) 0 0 (digits_some (n / 100)),
        (all_digits (n / 100) 0 (digits_some (n / 100))).low,
      ))

  decimal_size : size_in (decimal_text n) ≡ decimal_text n
  decimal_size = rw decimal_above

pub metres_says : (z : ℤ) → Says (metres_text z) z
unfolding sign_text bytes_in run
metres_says (pos n) =
    record {
      word = decimal_word n;
      reading = ap is_length (decimal_size n) ∙ decimal_length n;
      back = ap₂ signed (decimal_above n) (ap centimetres_in (decimal_size n) ∙ decimal_says n);
    }
metres_says (negsuc n) =
    record {
      word = record { some = omega arith; whole = ap suc (decimal_word (suc n)).whole };
      reading = decimal_length (suc n);
      back = ap (signed true) (decimal_says (suc n));
    }

reading_taken : (w : List ℕ) → is_reading w ≡ true → is_taken taken.Reading w ≡ true
unfolding is_taken
reading_taken w h = h

-- A draft: three numbers and two readings, in words that say them.
abbrev pub draft_words : Draft → List ℕ → List ℕ → List (List ℕ)
draft_words d x y = digits_of d.kind ∷ digits_of d.chain ∷ digits_of d.line ∷ x ∷ y ∷ []

module _ (d : Draft) (x y : List ℕ) (says-x : Says x d.x) (says_y : Says y d.y) where
  draft_words_lem : (i : ℕ) → word_at i (spaced_words (draft_words d x y)) ≡ get_or (draft_words d x y) i []
  draft_words_lem =
      words_back (draft_words d x y)
      (digits_word d.kind, (digits_word d.chain, (digits_word d.line, (says-x.word, (says_y.word, tt)))))

  is_draft : d.line < 2 ^ 32 → is_form form.Draft (spaced_words (draft_words d x y)) ≡ true
  unfolding taken_for words_of
  is_draft small =
      words_form form.Draft (draft_words d x y)
      (digits_word d.kind, (digits_word d.chain, (digits_word d.line, (says-x.word, (says_y.word, tt)))))
      (omega arith) each
    where
      each : (i : ℕ) → i < 5 → is_taken (taken_for form.Draft i) (get_or (draft_words d x y) i []) ≡ true
      each zero l = digits_number_taken d.kind
      each (suc zero) l = digits_number_taken d.chain
      each (suc (suc zero)) l = digits_line_taken d.line small
      each (suc (suc (suc zero))) l = reading_taken x says-x.reading
      each (suc (suc (suc (suc zero)))) l = reading_taken y says_y.reading
      each (suc (suc (suc (suc (suc i))))) l = absurd (omega (arith, l))

  draft_said : is_passed (spaced_words (draft_words d x y)) ≡ false
  draft_said = not_passed (spaced_words (draft_words d x y)) d.kind (draft_words_lem 0)

  same_draft : draft_typed (spaced_words (draft_words d x y)) ≡ d
  same_draft =
      let s = spaced_words (draft_words d x y) in
      let number : (i n : ℕ) → word_at i s ≡ digits_of n → value_at s i ≡ n = λ i n e. ap numeral e ∙ digits-back n in
      let reading : (i : ℕ) (w : List ℕ) → word_at i s ≡ w → reading_at s i ≡ signed (is_below w) (centimetres_in (size_in w)) =
      λ i w e. ap (λ (v : List ℕ). signed (is_below v) (centimetres_in (size_in v))) e in
      rw (
        number 0 d.kind (draft_words_lem 0),
        number 1 d.chain (draft_words_lem 1),
        number 2 d.line (draft_words_lem 2),
        reading 3 x (draft_words_lem 3) ∙ says-x.back,
        reading 4 y (draft_words_lem 4) ∙ says_y.back,
      )

-- A number of centimetres that was written is shown as it was.
centimetres_shown : (z : ℤ) → nat_abs z ≤ most_centimetres → centimetres_text (in_metres z) ≡ spaced_words (whole_text z ∷ [])
unfolding whole_or
centimetres_shown z h = ap (λ (a : Option ℤ). 32 ∷ whole_or a) (way_back z h) ∙ spaced_one (whole_text z)

raw_shown : (d : Draft) → nat_abs d.x ≤ most_centimetres → nat_abs d.y ≤ most_centimetres →
    raw_text (raw_for d) ≡ spaced_words (draft_words d (whole_text d.x) (whole_text d.y))
raw_shown d x y =
    let ns = d.kind ∷ d.chain ∷ d.line ∷ [] in
    let two = ap₂ ◌++◌ (centimetres_shown d.x x) (centimetres_shown d.y y) in
    ap₂ ◌++◌ (figures_spaced ns) (two ∙ spaced_both (whole_text d.x ∷ []) (whole_text d.y ∷ []))
    ∙ spaced_both (map digits_of ns) (whole_text d.x ∷ whole_text d.y ∷ [])

module _ (d : Draft) (small : d.line < 2 ^ 32) (accepted : refusal_of 32 d ≡ Ok tt) where
  record_shown : record_text (buffer_of 32 d) ≡ spaced_words (draft_words (used_of d) (whole_text (used_of d).x) (whole_text (used_of d).y))
  unfolding raw_fields
  record_shown =
      let fit = used_fits 32 d accepted in
      ap raw_fields (reads_back d small accepted).raw ∙ raw_shown (used_of d) fit.0 fit.1

  pub record_line_shown : record_line (buffer_of 32 d) ≡ bytes_in "LOG" ++ (record_text (buffer_of 32 d) ++ bytes_in "\n")
  unfolding record_line
  record_line_shown =
      plain_line (bytes_in "LOG") (record_text (buffer_of 32 d)) (number_told (log_entry_of (buffer_of 32 d))) (buffer_of 32 d)
      (ap number_told (reads_back d small accepted).entry)

  -- Three numbers and two words that say the readings that the kind uses, typed, give back what was written.
  said_again : (x y : List ℕ) → Says x (used_of d).x → Says y (used_of d).y →
      parsed_draft (spaced_words (draft_words (used_of d) x y)) ≡ Ok (Some (used_of d))
  said_again x y says-x says_y =
      let line : (used_of d).line < 2 ^ 32 = unfold used_of in small in
      draft_taken 32 (spaced_words (draft_words (used_of d) x y)) d (draft_said (used_of d) x y says-x says_y)
      (is_draft (used_of d) x y says-x says_y line) (same_draft (used_of d) x y says-x says_y) accepted

  -- The same record with its readings in metres.
  pub metres_typed_again : parsed_draft (spaced_words (draft_words (used_of d) (metres_text (used_of d).x) (metres_text (used_of d).y))) ≡ Ok (Some (used_of d))
  metres_typed_again =
      said_again (metres_text (used_of d).x) (metres_text (used_of d).y) (metres_says (used_of d).x) (metres_says (used_of d).y)

  pub metres_line_lem : parsed_draft (figures_text ((used_of d).kind ∷ (used_of d).chain ∷ (used_of d).line ∷ []) ++ ((32 ∷ metres_text (used_of d).x) ++ (32 ∷ metres_text (used_of d).y))) ≡ Ok (Some (used_of d))
  metres_line_lem =
      let used = used_of d in
      let ns = used.kind ∷ used.chain ∷ used.line ∷ [] in
      let x = metres_text used.x in
      let y = metres_text used.y in
      ap parsed_draft
      (ap₂ ◌++◌ (figures_spaced ns) (ap₂ ◌++◌ (spaced_one x) (spaced_one y) ∙ spaced_both (x ∷ []) (y ∷ []))
      ∙ spaced_both (map digits_of ns) (x ∷ y ∷ []))
      ∙ metres_typed_again

  pub record_typed_again : parsed_draft (record_text (buffer_of 32 d)) ≡ Ok (Some (used_of d))
  record_typed_again =
      ap parsed_draft record_shown
      ∙ said_again (whole_text (used_of d).x) (whole_text (used_of d).y) (whole_says (used_of d).x) (whole_says (used_of d).y)
