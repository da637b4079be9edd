-- Theorems about the records: the line number does not affect what a record says, and each answer has its own refusals.
-- The functions of `records` are proved to answer by its definitions; these theorems say what the definitions guarantee.
use Prim.Native.Nat.{ℕ, ◌-◌}
use mathlib.Core.Path.{◌≡◌, refl, subst⁻¹}
use mathlib.Core.Bool.{true}
use mathlib.Core.List.{List, [], ◌∷◌}
use native.Mathlib.Omega.{arith}
use lib.Dec.{leb, eqb}
use lib.ListN.{length}
use Rattle.std.specs.Prelude.{Result}
use Rattle.refusals.specs.declared.Refusal.{Refusal}
use Rattle.refusals.specs.Numbers.{number_told}
use Rattle.fields.specs.Fields.{put_at}
use Rattle.metres.specs.Metres.{centimetres_of}
use Rattle.chart.specs.Chains.{is_sound}
use Rattle.search.specs.Windows.{is_window}
use Rattle.search.specs.Questions.{most_tolerance}
use Rattle.records.specs.declared.LogRecord.{LogRecord}
use Rattle.records.specs.Bytes.{number_in}
use Rattle.records.specs.LogRecords.{log_bytes, raw_record_of, is_hyperbolic, is_grid, is_hold, log_record_of, is_place, two_readings, placed, in_centimetres, log_entry_of}
use Rattle.records.specs.ChainTables.{one_to, chains_in, is_table, chain_count_of, is_scale, scaled_count_of, chain_in, chain_of}
use Rattle.records.specs.Jobs.{job_bytes, job_in, job_of}
use Rattle.records.specs.Refusals.{is_among}
use Rattle.records.proofs.RefusalLaws.{Among, unless-either, either_kind, both_or_three}
use Rattle.records.proofs.LineLaws.{line_away}
use Rattle.records.proofs.JobLaws.{zeros_kept, job_by_tests}

-- The line number does not affect what a record says: "any value, repeats allowed" (01, The records).
pub line_ignored : (s : List ℕ) (n : ℕ) → length s ≡ 32 → log_entry_of (put_at 4 s 4 n) ≡ log_entry_of s
line_ignored s n h = line_away s n (omega arith)

-- Each answer has its own refusals, by 01's numbers, with 0 for none. A raw record can be refused with 1.
pub raw_refusals : (s : List ℕ) → is_among (number_told (raw_record_of s)) (0 ∷ 1 ∷ []) ≡ true
unfolding raw_record_of is_among
raw_refusals s = unless-either (Among (0 ∷ 1 ∷ [])) (eqb (length s) log_bytes) refl refl

-- A log record in metres can be refused with 1 or 2.
pub log_refusals : (s : List ℕ) → is_among (number_told (log_record_of s)) (0 ∷ 1 ∷ 2 ∷ []) ≡ true
unfolding log_record_of is_among
log_refusals s =
    let among = Among (0 ∷ 1 ∷ 2 ∷ []) in
    unless-either among (eqb (length s) log_bytes) refl
    (either_kind among (is_hyperbolic s) refl (either_kind among (is_grid s) refl (either_kind among (is_hold s) refl refl)))

-- A log record in centimetres can be refused with 1, 2, 3 or 4.
pub entry_refusals : (s : List ℕ) → is_among (number_told (log_entry_of s)) (0 ∷ 1 ∷ 2 ∷ 3 ∷ 4 ∷ []) ≡ true
unfolding log_entry_of log_record_of in_centimetres placed is_among
entry_refusals s =
    let among = Among (0 ∷ 1 ∷ 2 ∷ 3 ∷ 4 ∷ []) in
    let of-record : Result LogRecord Refusal → Type 0 = λ r. among (in_centimetres r) in
    unless-either of-record (eqb (length s) log_bytes) refl
    (either_kind of-record (is_hyperbolic s)
    (both_or_three among two_readings (centimetres_of (number_in s 8)) (centimetres_of (number_in s 16)) refl (λ a b. refl))
    (either_kind of-record (is_grid s)
    (both_or_three among placed (centimetres_of (number_in s 8)) (centimetres_of (number_in s 16)) refl (λ e n. unless-either among (is_place e n) refl refl))
    (either_kind of-record (is_hold s) refl refl)))

-- The count of a chain table can be refused with 1, also if its side file is looked at.
pub count_refusals : (s : List ℕ) → is_among (number_told (chain_count_of s)) (0 ∷ 1 ∷ []) ≡ true
unfolding chain_count_of is_among
count_refusals s = unless-either (Among (0 ∷ 1 ∷ [])) (is_table s) refl refl

pub scaled_refusals : (s scale : List ℕ) → is_among (number_told (scaled_count_of s scale)) (0 ∷ 1 ∷ []) ≡ true
unfolding scaled_count_of is_among
scaled_refusals s scale =
    let among = Among (0 ∷ 1 ∷ []) in
    unless-either among (is_table s) refl (unless-either among (is_scale (chains_in s) scale) refl refl)

-- A chain of a table can be refused with 1 or 5.
pub chain_refusals : (s scale : List ℕ) (number : ℕ) → is_among (number_told (chain_of s scale number)) (0 ∷ 1 ∷ 5 ∷ []) ≡ true
unfolding chain_of is_among
chain_refusals s scale number =
    let among = Among (0 ∷ 1 ∷ 5 ∷ []) in
    unless-either among (is_table s) refl
    (unless-either among (is_scale (chains_in s) scale) refl
    (unless-either among (one_to (chains_in s) number) refl (unless-either among (is_sound (chain_in s scale (number - 1))) refl refl)))

-- A job can be refused with 1, 2, 6 or 7.
pub job_refusals : (s : List ℕ) → is_among (number_told (job_of s)) (0 ∷ 1 ∷ 2 ∷ 6 ∷ 7 ∷ []) ≡ true
unfolding is_among
job_refusals s =
    let among = Among (0 ∷ 1 ∷ 2 ∷ 6 ∷ 7 ∷ []) in
    subst⁻¹ among (job_by_tests s)
    (unless-either among (eqb (length s) job_bytes) refl
    (unless-either among (zeros_kept s) refl
    (unless-either among (is_window (job_in s).window) refl (unless-either among (leb (job_in s).tolerance most_tolerance) refl refl))))
