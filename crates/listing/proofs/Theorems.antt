-- What the definitions of a listing guarantee: it may be made in parts; and what it is for an empty log, a short last record, a
-- refused job or table, and a hold. The contracts of `listing` are stated with the same definitions.
use Prim.Native.Nat.{ℕ, ◌%◌, ◌≤◌, ◌<◌}
use mathlib.Core.Path.{◌≡◌, refl, ap, ap₂, ◌∙◌}
use mathlib.Core.Bool.{Bool, true, false, cond}
use mathlib.Core.List.{List, [], ◌∷◌, ◌++◌}
use lib.ListN.{length}
use Rattle.std.specs.Prelude.{Option, Some, None, Result, Ok, Err}
use Rattle.refusals.specs.declared.Refusal.{Refusal}
use Rattle.refusals.specs.declared.Refusal.TheVariants as refusal
use Rattle.refusals.specs.Numbers.{refusal_number}
use Rattle.chart.specs.declared.Place.{Place}
use Rattle.records.specs.declared.Job.{Job}
use Rattle.records.specs.declared.LogEntry.TheVariants as entry
use Rattle.records.specs.LogRecords.{log_bytes, log_entry_of}
use Rattle.records.specs.ChainTables.{chain_count_of, is_scale}
use Rattle.records.specs.Jobs.{job_of}
use Rattle.text.specs.Texts.{spaced, bytes_in, digits_of, last_digits}
use Rattle.listing.specs.declared.Carried.{Carried}
use Rattle.listing.specs.Answers.{Fix, Grid, Hold, Refused, hold_of, answer_by, answer_of, places_of, says_rounded, only, carried_by}
use Rattle.listing.specs.Listings.{Part, joined, lines_from, listing_by, listing_from, listing_of, notice_of, lines_of}
use Rattle.listing.proofs.Parts.{short_line, listing_lines, listing_joined}

-- In this module the job, the table and its side file are accepted.
module _ (job table scale : List ℕ) (j : Job) (n : ℕ)
    (good : job_of job ≡ Ok j) (known : chain_count_of table ≡ Ok n) (fits : is_scale n scale ≡ true) where
  -- Listing a log in parts of whole records, each with the place carried from the one before, gives the listing of the whole log.
  -- So the program may read and list a log part by part.
  pub in_parts : (before : Option Carried) (a b : List ℕ) → length a % log_bytes ≡ 0 →
      listing_from job table scale (a ++ b) before
      ≡ joined (listing_from job table scale a before) (listing_from job table scale b (listing_from job table scale a before).carried)
  in_parts = listing_joined job table scale j n good known fits

  -- So the whole output is that of the first part, then the listing of the rest with the place carried to it.
  pub then_the_rest : (a b : List ℕ) → length a % log_bytes ≡ 0 →
      listing_of job table scale (a ++ b)
      ≡ listing_of job table scale a ++ (listing_from job table scale b (listing_from job table scale a None).carried).text
  unfolding listing_of
  then_the_rest a b h = ap (λ (p : Part). p.text) (in_parts None a b h)

  -- Nothing is printed for an empty log.
  pub empty_log : listing_of job table scale [] ≡ []
  unfolding listing_of lines_from
  empty_log = ap (λ (p : Part). p.text) (listing_lines job table scale j n good known fits [] None)

  -- A log may end in 1 to 31 bytes after its whole records: they have a line of their own, with a dash.
  pub short_tail : (a b : List ℕ) → length a % log_bytes ≡ 0 → 1 ≤ length b → length b < log_bytes →
      listing_of job table scale (a ++ b) ≡ listing_of job table scale a ++ bytes_in "- REFUSED 1 0\n"
  short_tail a b h some few =
      let after = (listing_from job table scale a None).carried in
      then_the_rest a b h
      ∙ ap (λ (t : List ℕ). listing_of job table scale a ++ t)
      (ap (λ (p : Part). p.text) (listing_lines job table scale j n good known fits b after) ∙ short_line j table scale after b some few)

-- A refused job prints its refusal and nothing else, whatever the table, the side file and the log.
pub job_first : (job table scale log : List ℕ) (why : Refusal) → job_of job ≡ Err why →
    listing_of job table scale log ≡ bytes_in "JOB REFUSED" ++ (spaced (refusal_number why) ++ bytes_in "\n")
unfolding listing_of listing_from listing_by bytes_in
job_first job table scale log why e =
    ap (λ (t : Result Job Refusal). (listing_by t (chain_count_of table) table scale log None).text) e

-- An accepted job and a refused table print the refusal of the table, whatever the side file.
pub then_chain : (job table scale log : List ℕ) (j : Job) (why : Refusal) →
    job_of job ≡ Ok j → chain_count_of table ≡ Err why →
    listing_of job table scale log ≡ bytes_in "CHAIN REFUSED" ++ (spaced (refusal_number why) ++ bytes_in "\n")
unfolding listing_of listing_from listing_by bytes_in
then_chain job table scale log j why good e =
    ap₂ (λ (t : Result Job Refusal) (c : Result ℕ Refusal). (listing_by t c table scale log None).text) good e

-- If both are accepted and the side file does not fit the table, its refusal is printed.
pub then_scale : (job table scale log : List ℕ) (j : Job) (n : ℕ) →
    job_of job ≡ Ok j → chain_count_of table ≡ Ok n → is_scale n scale ≡ false →
    listing_of job table scale log ≡ bytes_in "SCALE REFUSED 1\n"
unfolding listing_of listing_from listing_by bytes_in digits_of last_digits
then_scale job table scale log j n good known unfit =
    ap₂ (λ (t : Result Job Refusal) (c : Result ℕ Refusal). (listing_by t c table scale log None).text) good known
    ∙ ap (λ (b : Bool). (cond b (lines_of j table scale None log) (notice_of (bytes_in "SCALE") refusal.Length)).text) unfit

-- What a record hands on to a hold after it. A refused record hands on nothing.
pub refused_carries : (why : Refusal) (visits : ℕ) → carried_by (Refused why visits) ≡ None
unfolding places_of says_rounded only
refused_carries why visits = refl

-- The place that is carried is the only one.
same_only : (q p : Place) (rounded : Bool) → ◌≡◌ {A = Option Carried} (Some (record { place = q; rounded = rounded })) (Some (record { place = p; rounded = rounded })) → q ∷ [] ≡ p ∷ []
same_only q p rounded e =
    let c : ◌≡◌ {A = Carried} (record { place = q; rounded = rounded }) (record { place = p; rounded = rounded }) = cc in
    ap (λ (x : Carried). x.place ∷ []) c

-- A fix hands on a place exactly if that is its only one.
pub fix_carries : (visits : ℕ) (ps : List Place) (p : Place) (rounded : Bool) →
    (carried_by (Fix visits ps rounded) ≡ Some (record { place = p; rounded = rounded }) → ps ≡ p ∷ []) × (ps ≡ p ∷ [] → carried_by (Fix visits ps rounded) ≡ Some (record { place = p; rounded = rounded }))
unfolding places_of says_rounded only
fix_carries visits [] p rounded = ((λ e. cc), (λ e. cc))
fix_carries visits (q ∷ []) p rounded = ((λ e. same_only q p rounded e), (λ e. cc))
fix_carries visits (q ∷ r ∷ ps) p rounded = ((λ e. cc), (λ e. cc))

-- A grid record and a hold hand on their place. Each of the three hands on its last field with it.
pub grid_carries : (p : Place) (rounded : Bool) → carried_by (Grid p rounded) ≡ Some (record { place = p; rounded = rounded })
unfolding places_of says_rounded only
grid_carries p rounded = refl

pub hold_carries : (p : Place) (rounded : Bool) → carried_by (Hold p rounded) ≡ Some (record { place = p; rounded = rounded })
unfolding places_of says_rounded only
hold_carries p rounded = refl

-- A hold repeats the place carried to it, and the last field. If nothing is carried to it, it is refused with 11.
pub hold_repeats : (j : Job) (table scale s : List ℕ) (p : Place) (rounded : Bool) → log_entry_of s ≡ Ok entry.Hold →
    answer_of j table scale (Some (record { place = p; rounded = rounded })) s ≡ Hold p rounded
unfolding answer_of answer_by hold_of
hold_repeats j table scale s p rounded e = rw e

pub hold_alone : (j : Job) (table scale s : List ℕ) → log_entry_of s ≡ Ok entry.Hold → answer_of j table scale None s ≡ Refused refusal.Hold 0
unfolding answer_of answer_by hold_of
hold_alone j table scale s e = rw e
