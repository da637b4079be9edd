-- Demand 2, the writers: what they accept is read back, and a refused write leaves zeros.
-- `write`, `write_chain`, `write_factor` and `write_job` are proved to answer by the definitions; these theorems say what the definitions
-- guarantee.
use Prim.Native.Nat.{ℕ, ◌-◌, ◌*◌, ◌^◌, ◌≤◌, ◌<◌}
use mathlib.Core.Path.{◌≡◌, refl, sym, ap, ◌∙◌, subst⁻¹}
use mathlib.Core.Bool.{true}
use mathlib.Core.List.{List, [], ◌∷◌}
use native.Mathlib.Omega.{arith}
use lib.Dec.{leb, eqb}
use lib.IntN.{pos}
use lib.Ieee.{to_bits}
use lib.ListN.{length, get_or, replicate}
use borrow.Author.Tests.{le-leb}
use Rattle.std.specs.Prelude.{Ok}
use Rattle.refusals.specs.Numbers.{number_told}
use Rattle.fields.specs.Fields.{bytes_of, field_at}
use Rattle.metres.specs.Metres.{metres_of, length_figures}
use Rattle.chart.specs.declared.Chain.{Chain}
use Rattle.chart.specs.Chains.{is_sound}
use Rattle.chart.specs.Factors.{is_factor}
use Rattle.chart.proofs.PlaceLaws.{and_both}
use Rattle.chart.proofs.ChainLaws.{factor_allowed}
use Rattle.search.specs.Windows.{is_window}
use Rattle.search.specs.Questions.{most_tolerance}
use Rattle.records.specs.declared.Job.{Job}
use Rattle.records.specs.LogRecords.{log_bytes}
use Rattle.records.specs.ChainTables.{chain_bytes, most_chains, factor_bytes, one_to, chain_count_of, chain_of}
use Rattle.records.specs.Jobs.{job_bytes, job_of}
use Rattle.records.specs.Refusals.{is_among}
use Rattle.records.proofs.TableLaws.{table_counted, chain_named_lem}
use Rattle.records.proofs.RefusalLaws.{Among, unless-either}
use Rattle.writing.specs.declared.Draft.{Draft}
use Rattle.writing.specs.Writing.{is_kind, numbers_fit, place_fits, chain_fits, refusal_of, used_of, metres_bytes, record_bytes, buffer_of, ReadsAs}
use Rattle.writing.specs.ChainWriting.{chain_refusal_of, chain_buffer_of, all_sound, table_of}
use Rattle.writing.specs.FactorWriting.{factor_refusal_of, factor_buffer_of, scale_of}
use Rattle.writing.specs.JobWriting.{job_refusal_of, job_buffer_of}
use Rattle.writing.proofs.BufferLaws.{left_length}
use Rattle.writing.proofs.WriteLaws.{buffer_written, buffer_zero, written_bytes, record_length}
use Rattle.writing.proofs.ChainWriteLaws.{chain_accepted, chain_zero}
use Rattle.writing.proofs.FactorWriteLaws.{factor_accepted, factor_zero}
use Rattle.writing.proofs.JobWriteLaws.{job_accepted, job_passed, job_written, job_zero}
use Rattle.writing.proofs.ReadBack.{raw_back, entry_back}
use Rattle.writing.proofs.TableBack.{scale_length, factor_back, chain_back, sound_there, chains_there, is_table_lem, is_scale_lem}
use Rattle.writing.proofs.JobBack.{job_back}

-- What the writer accepts is read back: the same kind, chain number, line number and centimetres.
pub reads_back : (d : Draft) → d.line < 2 ^ 32 → refusal_of 32 d ≡ Ok tt → ReadsAs (used_of d) (buffer_of 32 d)
unfolding used_of
reads_back d small e =
    subst⁻¹ (ReadsAs (used_of d)) (buffer_written 32 d e)
    (record { raw = raw_back (used_of d) small; entry = entry_back d e })

-- 0 is written as plus zero: eight zero bytes.
pub plus_zero_written : metres_bytes (pos 0) ≡ replicate 8 0
unfolding bytes_of metres_of length_figures to_bits
plus_zero_written = refl

-- A refused write leaves its whole buffer zero.
pub refused_write_zeros : (bytes : ℕ) (d : Draft) → (refusal_of bytes d ≡ Ok tt → ⊥) → buffer_of bytes d ≡ replicate bytes 0
refused_write_zeros bytes d refused = buffer_zero bytes d refused

-- No write changes the length of its buffer.
pub same_length : (bytes : ℕ) (d : Draft) → length (buffer_of bytes d) ≡ bytes
unfolding buffer_of
same_length bytes d =
    left_length bytes (refusal_of bytes d) (record_bytes (used_of d)) (λ e. record_length (used_of d) ∙ sym (written_bytes bytes d e))

-- A write can be refused with 1 to 5, by 01's numbers, with 0 for none.
pub write_refusals : (bytes : ℕ) (d : Draft) → is_among (number_told (refusal_of bytes d)) (0 ∷ 1 ∷ 2 ∷ 3 ∷ 4 ∷ 5 ∷ []) ≡ true
unfolding refusal_of is_among
write_refusals bytes d =
    let among = Among (0 ∷ 1 ∷ 2 ∷ 3 ∷ 4 ∷ 5 ∷ []) in
    unless-either among (eqb bytes log_bytes) refl
    (unless-either among (is_kind d.kind) refl
    (unless-either among (numbers_fit d) refl (unless-either among (place_fits d) refl (unless-either among (chain_fits d) refl refl))))

-- The writer of chains accepts each chain of a list of sound ones. `other` is what `get_or` gives past the end of the list, which
-- no number here reaches.
pub chains_written : (cs : List Chain) (number : ℕ) (other : Chain) → all_sound cs ≡ true →
    1 ≤ number → number ≤ length cs → chain_refusal_of chain_bytes (get_or cs (number - 1) other) ≡ Ok tt
chains_written cs number other sound first last =
    chain_accepted chain_bytes (get_or cs (number - 1) other) refl (sound_there cs (number - 1) other sound (omega arith))

-- The writer of factors accepts the factor of each of them.
pub factors_written : (cs : List Chain) (number : ℕ) (other : Chain) → all_sound cs ≡ true →
    1 ≤ number → number ≤ length cs → factor_refusal_of factor_bytes (get_or cs (number - 1) other).factor ≡ Ok tt
factors_written cs number other sound first last =
    factor_accepted factor_bytes (get_or cs (number - 1) other).factor refl (factor_allowed _ (sound_there cs (number - 1) other sound (omega arith)))

-- 1 to 16 chains that are written one after the other are a table of that many chains.
pub chains_counted : (cs : List Chain) → 1 ≤ length cs → length cs ≤ most_chains → chain_count_of (table_of cs) ≡ Ok (length cs)
chains_counted cs some few = table_counted (table_of cs) (is_table_lem cs some few) ∙ ap Ok (chains_there cs)

-- Each of them, if all are sound, is read back by its number.
pub chains_read_back : (cs : List Chain) (number : ℕ) (other : Chain) → all_sound cs ≡ true → length cs ≤ most_chains →
    1 ≤ number → number ≤ length cs → chain_of (table_of cs) (scale_of cs) number ≡ Ok (get_or cs (number - 1) other)
chains_read_back cs number other sound few first last =
    let same = chain_back cs (number - 1) other sound (omega arith) in
    chain_named_lem (table_of cs) (scale_of cs) number (is_table_lem cs (omega arith) few) (is_scale_lem cs)
    (subst⁻¹ (λ (n : ℕ). one_to n number ≡ true) (chains_there cs) (and_both (le-leb 1 number first) (le-leb number (length cs) last)))
    (ap is_sound same ∙ sound_there cs (number - 1) other sound (omega arith))
    ∙ ap Ok same

-- The side file has the factor of each of them, four bytes for each.
pub factors_read_back : (cs : List Chain) (number : ℕ) (other : Chain) → all_sound cs ≡ true → 1 ≤ number → number ≤ length cs →
    (length (scale_of cs) ≡ factor_bytes * length cs) × (field_at factor_bytes (scale_of cs) (factor_bytes * (number - 1)) ≡ (get_or cs (number - 1) other).factor)
factors_read_back cs number other sound first last = (scale_length cs, factor_back cs (number - 1) other sound (omega arith))

-- The writer of jobs accepts every allowed window, with a tolerance up to 100,000 and any allowance.
pub window_written : (j : Job) → is_window j.window ≡ true → j.tolerance ≤ most_tolerance → job_refusal_of job_bytes j ≡ Ok tt
window_written j window few = job_accepted job_bytes j refl window few

-- What it accepts is read back as the same job.
pub job_reads_back : (j : Job) → j.allowance < 2 ^ 64 → job_refusal_of job_bytes j ≡ Ok tt → job_of (job_buffer_of job_bytes j) ≡ Ok j
job_reads_back j small e =
    let tests = job_passed job_bytes j e in
    ap job_of (job_written job_bytes j e) ∙ job_back j tests.1 tests.2 small

-- A refused chain, factor or job leaves its whole buffer zero.
pub refused_chain_zeros : (bytes : ℕ) (c : Chain) → (chain_refusal_of bytes c ≡ Ok tt → ⊥) → chain_buffer_of bytes c ≡ replicate bytes 0
refused_chain_zeros bytes c refused = chain_zero bytes c refused

pub refused_factor_zeros : (bytes f : ℕ) → (factor_refusal_of bytes f ≡ Ok tt → ⊥) → factor_buffer_of bytes f ≡ replicate bytes 0
refused_factor_zeros bytes f refused = factor_zero bytes f refused

pub refused_job_zeros : (bytes : ℕ) (j : Job) → (job_refusal_of bytes j ≡ Ok tt → ⊥) → job_buffer_of bytes j ≡ replicate bytes 0
refused_job_zeros bytes j refused = job_zero bytes j refused

-- A chain or a factor can be refused with 1 or 5, and a job with 1, 6 or 7, with 0 for none.
pub chain_write_refusals : (bytes : ℕ) (c : Chain) → is_among (number_told (chain_refusal_of bytes c)) (0 ∷ 1 ∷ 5 ∷ []) ≡ true
unfolding chain_refusal_of is_among
chain_write_refusals bytes c =
    let among = Among (0 ∷ 1 ∷ 5 ∷ []) in
    unless-either among (eqb bytes chain_bytes) refl (unless-either among (is_sound c) refl refl)

pub factor_write_refusals : (bytes f : ℕ) → is_among (number_told (factor_refusal_of bytes f)) (0 ∷ 1 ∷ 5 ∷ []) ≡ true
unfolding factor_refusal_of is_among
factor_write_refusals bytes f =
    let among = Among (0 ∷ 1 ∷ 5 ∷ []) in
    unless-either among (eqb bytes factor_bytes) refl (unless-either among (is_factor f) refl refl)

pub job_write_refusals : (bytes : ℕ) (j : Job) → is_among (number_told (job_refusal_of bytes j)) (0 ∷ 1 ∷ 6 ∷ 7 ∷ []) ≡ true
unfolding job_refusal_of is_among
job_write_refusals bytes j =
    let among = Among (0 ∷ 1 ∷ 6 ∷ 7 ∷ []) in
    unless-either among (eqb bytes job_bytes) refl
    (unless-either among (is_window j.window) refl (unless-either among (leb j.tolerance most_tolerance) refl refl))
