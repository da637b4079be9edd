-- A chain and a job typed with their lengths in metres are the same chain and the same job.
use Prim.Native.Nat.{ℕ, zero, suc, ◌+◌, ◌/◌, ◌%◌, ◌^◌, ◌<◌}
use mathlib.Core.Path.{◌≡◌, refl, ap, ap₂, ◌∙◌}
use mathlib.Core.Bool.{true, false, ◌||◌}
use mathlib.Core.List.{List, [], ◌∷◌, ◌++◌, map}
use native.Mathlib.Omega.{arith}
use borrow.Author.Tests.{ne_eqb}
use lib.Dec.{eqb}
use lib.ListN.{length, get_or, get_or-append}
use Rattle.std.specs.Prelude.{Some, Ok}
use Rattle.chart.specs.declared.Chain.{Chain}
use Rattle.chart.specs.Chains.{is_sound}
use Rattle.records.specs.declared.Job.{Job}
use Rattle.writing.specs.ChainWriting.{chain_refusal_of}
use Rattle.writing.specs.JobWriting.{job_refusal_of}
use Rattle.text.specs.Texts.{digits_of, spaced, numeral, bytes_in}
use Rattle.text.proofs.Digits.{all_digits, digits_some, reads_back}
use Rattle.parsing.specs.declared.Form.TheVariants as form
use Rattle.parsing.specs.declared.Taken.TheVariants as taken
use Rattle.parsing.specs.Words.{word_at, no_word, is_passed}
use Rattle.parsing.specs.Numbers.{centimetres_in, value_at, length_at}
use Rattle.parsing.specs.Forms.{words_of, taken_for, is_taken}
use Rattle.parsing.specs.Parsed.{parsed_job, parsed_chain}
use Rattle.parsing.proofs.WordLaws.{EachIsWord, spaced_words, spaced_one, spaced_both, words_back}
use Rattle.parsing.proofs.TypedLaws.{digits_word, digits_number_taken, digits_allowance_taken, digits_factor_taken, words_form}
use Rattle.parsing.proofs.Fields.{job_typed, chain_typed, job_taken, chain_taken}
use Rattle.shown.specs.Fields.{decimal_text}
use Rattle.shown.specs.Lines.{station_figures}
use Rattle.demands.specs.Typed.{metres_line}
use Rattle.demands.proofs.TextLaws.{decimal_word, decimal_length, decimal_says}

-- The text is that of its words.
pub metres_spaced : (ns : List ℕ) → metres_line ns ≡ spaced_words (map decimal_text ns)
unfolding metres_line spaced_words
metres_spaced [] = refl
metres_spaced (n ∷ ns) = ap (λ (rest : List ℕ). (32 ∷ decimal_text n) ++ rest) (metres_spaced ns)

decimal_taken : (n : ℕ) → is_taken taken.Length (decimal_text n) ≡ true
unfolding is_taken
decimal_taken n = decimal_length n

-- A line whose first word is metres is not passed over.
decimal_said : (s : List ℕ) (n : ℕ) → word_at 0 s ≡ decimal_text n → is_passed s ≡ false
decimal_said s n e =
    let digits = digits_of (n / 100) in
    let rest = bytes_in "." ++ ((48 + n / 10 % 10) ∷ (48 + n % 10) ∷ []) in
    let some : eqb (length (decimal_text n)) 0 ≡ false = ne_eqb (length (decimal_text n)) 0 (λ z. omega (arith, z, (decimal_word n).some)) in
    let digit : eqb (get_or (decimal_text n) 0 0) 35 ≡ false =
    ne_eqb (get_or (decimal_text n) 0 0) 35
    (λ z. omega (arith, z, get_or-append digits rest 0 0 (digits_some (n / 100)), (all_digits (n / 100) 0 (digits_some (n / 100))).low)) in
    ap (λ (w : List ℕ). eqb (length w) 0 || eqb (get_or w 0 0) 35) e ∙ rw (some, digit)

-- A chain.
module _ (c : Chain) (sound : is_sound c ≡ true) where
  accepted : chain_refusal_of 24 c ≡ Ok tt
  unfolding chain_refusal_of
  accepted = rw sound

  abbrev chain_words : List (List ℕ)
  chain_words = map decimal_text (station_figures c) ++ (digits_of c.factor ∷ [])

  each_is_word : EachIsWord chain_words
  each_is_word = (
    decimal_word c.master.easting,
    (
      decimal_word c.master.northing,
      (
        decimal_word c.a.easting,
        (decimal_word c.a.northing, (decimal_word c.b.easting, (decimal_word c.b.northing, (digits_word c.factor, tt)))),
      ),
    ),
  )

  words : (i : ℕ) → word_at i (spaced_words chain_words) ≡ get_or chain_words i []
  words = words_back chain_words each_is_word

  chain_taken_for : (i : ℕ) → i < 7 → is_taken (taken_for form.Chain i) (get_or chain_words i []) ≡ true
  unfolding taken_for
  chain_taken_for zero l = decimal_taken c.master.easting
  chain_taken_for (suc zero) l = decimal_taken c.master.northing
  chain_taken_for (suc (suc zero)) l = decimal_taken c.a.easting
  chain_taken_for (suc (suc (suc zero))) l = decimal_taken c.a.northing
  chain_taken_for (suc (suc (suc (suc zero)))) l = decimal_taken c.b.easting
  chain_taken_for (suc (suc (suc (suc (suc zero))))) l = decimal_taken c.b.northing
  chain_taken_for (suc (suc (suc (suc (suc (suc zero)))))) l = digits_factor_taken c.factor
  chain_taken_for (suc (suc (suc (suc (suc (suc (suc i))))))) l = absurd (omega (arith, l))

  pub chain_in_metres : parsed_chain (metres_line (station_figures c) ++ spaced c.factor) ≡ Ok (Some c)
  unfolding words_of
  chain_in_metres =
      let s = spaced_words chain_words in
      let at : (i n : ℕ) → word_at i s ≡ decimal_text n → length_at s i ≡ n = λ i n e. ap centimetres_in e ∙ decimal_says n in
      let given : no_word 6 s ≡ false =
      ne_eqb (length (word_at 6 s)) 0 (λ z. omega (arith, z, ap length (words 6), digits_some c.factor)) in
      let same : chain_typed s ≡ c =
      rw (
        at 0 c.master.easting (words 0),
        at 1 c.master.northing (words 1),
        at 2 c.a.easting (words 2),
        at 3 c.a.northing (words 3),
        at 4 c.b.easting (words 4),
        at 5 c.b.northing (words 5),
        given,
        ap numeral (words 6) ∙ reads_back c.factor,
      ) in
      ap parsed_chain
      (ap₂ ◌++◌ (metres_spaced (station_figures c)) (spaced_one (digits_of c.factor))
      ∙ spaced_both (map decimal_text (station_figures c)) (digits_of c.factor ∷ []))
      ∙ chain_taken 24 s (decimal_said s c.master.easting (words 0)) (words_form form.Chain chain_words each_is_word (omega arith) chain_taken_for)
      (ap (chain_refusal_of 24) same ∙ accepted)
      ∙ ap (λ (x : Chain). Ok (Some x)) same

-- A job: its corner and its tolerance are lengths.
module _ (j : Job) (small : j.allowance < 2 ^ 64) (accepted : job_refusal_of 32 j ≡ Ok tt) where
  abbrev job_words : List (List ℕ)
  job_words =
      decimal_text j.window.corner.easting
      ∷ decimal_text j.window.corner.northing
      ∷ digits_of j.window.k
      ∷ decimal_text j.tolerance
      ∷ digits_of j.allowance
      ∷ []

  are_words : EachIsWord job_words
  are_words = (
    decimal_word j.window.corner.easting,
    (
      decimal_word j.window.corner.northing,
      (digits_word j.window.k, (decimal_word j.tolerance, (digits_word j.allowance, tt))),
    ),
  )

  job_at : (i : ℕ) → word_at i (spaced_words job_words) ≡ get_or job_words i []
  job_at = words_back job_words are_words

  job_taken_for : (i : ℕ) → i < 5 → is_taken (taken_for form.Job i) (get_or job_words i []) ≡ true
  unfolding taken_for
  job_taken_for zero l = decimal_taken j.window.corner.easting
  job_taken_for (suc zero) l = decimal_taken j.window.corner.northing
  job_taken_for (suc (suc zero)) l = digits_number_taken j.window.k
  job_taken_for (suc (suc (suc zero))) l = decimal_taken j.tolerance
  job_taken_for (suc (suc (suc (suc zero)))) l = digits_allowance_taken j.allowance small
  job_taken_for (suc (suc (suc (suc (suc i))))) l = absurd (omega (arith, l))

  job_as_words : spaced_words (decimal_text j.window.corner.easting ∷ decimal_text j.window.corner.northing ∷ [])
      ++ (spaced j.window.k ++ (metres_line (j.tolerance ∷ []) ++ spaced j.allowance))
      ≡ spaced_words job_words
  job_as_words =
      ap (λ (t : List ℕ). spaced_words (decimal_text j.window.corner.easting ∷ decimal_text j.window.corner.northing ∷ []) ++ t)
      (ap₂ ◌++◌ (spaced_one (digits_of j.window.k))
      (ap₂ ◌++◌ (metres_spaced (j.tolerance ∷ [])) (spaced_one (digits_of j.allowance))
      ∙ spaced_both (decimal_text j.tolerance ∷ []) (digits_of j.allowance ∷ []))
      ∙ spaced_both (digits_of j.window.k ∷ []) (decimal_text j.tolerance ∷ digits_of j.allowance ∷ []))
      ∙ spaced_both (decimal_text j.window.corner.easting ∷ decimal_text j.window.corner.northing ∷ [])
      (digits_of j.window.k ∷ decimal_text j.tolerance ∷ digits_of j.allowance ∷ [])

  pub job_in_metres : parsed_job (metres_line (j.window.corner.easting ∷ j.window.corner.northing ∷ [])
      ++ (spaced j.window.k ++ (metres_line (j.tolerance ∷ []) ++ spaced j.allowance)))
      ≡ Ok j
  unfolding words_of
  job_in_metres =
      let s = spaced_words job_words in
      let corner = j.window.corner in
      let length-of : (i n : ℕ) → word_at i s ≡ decimal_text n → length_at s i ≡ n = λ i n e. ap centimetres_in e ∙ decimal_says n in
      let number-of : (i n : ℕ) → word_at i s ≡ digits_of n → value_at s i ≡ n = λ i n e. ap numeral e ∙ reads_back n in
      let given : no_word 4 s ≡ false =
      ne_eqb (length (word_at 4 s)) 0 (λ z. omega (arith, z, ap length (job_at 4), digits_some j.allowance)) in
      let same : job_typed s ≡ j =
      rw (
        length-of 0 corner.easting (job_at 0),
        length-of 1 corner.northing (job_at 1),
        number-of 2 j.window.k (job_at 2),
        length-of 3 j.tolerance (job_at 3),
        given,
        number-of 4 j.allowance (job_at 4),
      ) in
      ap parsed_job
      (ap (λ (t : List ℕ). t ++ (spaced j.window.k ++ (metres_line (j.tolerance ∷ []) ++ spaced j.allowance)))
      (metres_spaced (corner.easting ∷ corner.northing ∷ []))
      ∙ job_as_words)
      ∙ job_taken 32 s (words_form form.Job job_words are_words (omega arith) job_taken_for) (ap (job_refusal_of 32) same ∙ accepted)
      ∙ ap Ok same
