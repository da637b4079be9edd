-- A part is no longer than what is listed at once, the buffer has room for its listing, and the listing of the rest goes on from the
-- place that the part carries on.
use Prim.Native.Nat.{ℕ, ◌/◌, ◌%◌, ◌≤◌, ◌<◌, min}
use mathlib.Core.Bool.{Bool, true, false, true≢false, cond}
use mathlib.Core.List.{List, [], ◌++◌}
use mathlib.Core.Path.{◌≡◌, refl, sym, ap, ap₂, ◌∙◌}
use native.Mathlib.Decide.{dec_le}
use native.Mathlib.Nat.{lt_of_not-le}
use native.Mathlib.Omega.{arith}
use borrow.Author.Tests.{lt-ltb, le-ltb}
use lib.ListN.{length, take, drop, take-append-drop, drop_of_length-le}
use lib.Seq.{length-take-le, take_all}
use Rattle.std.specs.Prelude.{Option, Result, Ok, Err, is_ok}
use Rattle.std.proofs.lemmas.List.{nil_from_length}
use Rattle.refusals.specs.declared.Refusal.{Refusal}
use Rattle.records.specs.declared.Job.{Job}
use Rattle.records.specs.LogRecords.{log_bytes}
use Rattle.records.specs.ChainTables.{scaled_count_of}
use Rattle.records.specs.Jobs.{usual_allowance, job_of}
use Rattle.records.proofs.TableLaws.{scaled_says}
use Rattle.listing.specs.declared.Carried.{Carried}
use Rattle.listing.specs.Listings.{Part, lines_from, listing_by, listing_from, has_listing_room}
use Rattle.listing.proofs.Chunks.{chunk_is, behind_chunk}
use Rattle.listing.proofs.Theorems.{in_parts}
use Rattle.laylist.specs.declared.Inputs.{Inputs}
use Rattle.laylist.specs.Walks.{AllGood, listing_with, part_bytes, part_room, may_take_long, bytes_at_once}

-- The buffer has room for the listing of a part.
pub roomy : (out part : List ℕ) → length out ≡ part_room → length part ≤ part_bytes → has_listing_room (length out) part ≡ true
roomy out part size few = lt-ltb (length part / log_bytes) (length out / _) (omega arith)

-- How many bytes are listed at once, by the job's allowance.
pub under_large : (j : Job) → usual_allowance < j.allowance → log_bytes ≡ bytes_at_once (Ok j)
unfolding may_take_long
under_large j h = rw (lt-ltb usual_allowance j.allowance h)

pub under_usual : (j : Job) → j.allowance ≤ usual_allowance → part_bytes ≡ bytes_at_once (Ok j)
unfolding may_take_long
under_usual j h = rw (le-ltb usual_allowance j.allowance h)

-- What is listed at once are whole records, and at least one.
whole_at_once : (long : Bool) → (0 < cond long log_bytes part_bytes) × (cond long log_bytes part_bytes % log_bytes ≡ 0)
whole_at_once true = (omega arith, refl)
whole_at_once false = (omega arith, refl)

pub whole_records : (j : Result Job Refusal) {bytes : ℕ} → bytes ≡ bytes_at_once j → (0 < bytes) × (bytes % log_bytes ≡ 0)
whole_records j e = rw e (whole_at_once (may_take_long j))

-- What an answer that is accepted holds.
accepted : {A : Type 0} (a : Result A Refusal) → is_ok a ≡ true → (x : A) × (a ≡ Ok x)
accepted (Ok x) h = (x, refl)
accepted (Err why) h = absurd (true≢false (sym h))

module _ (i : Inputs) (ok : AllGood i) where
  -- If nothing is left of a log, the place carried so far is the one that is carried on.
  pub nothing_left : (rest : List ℕ) (place : Option Carried) → length rest ≡ 0 → (listing_with i rest place).carried ≡ place
  unfolding lines_from listing_by listing_from
  nothing_left rest place none =
      let chains = scaled_says i.table.now i.scale.now (accepted (scaled_count_of i.table.now i.scale.now) ok.by_table).1 in
      rw (nil_from_length rest none, (accepted (job_of i.job.now) ok.by_job).1, chains.0, chains.1)

  module _ (bytes : ℕ) (whole : bytes % log_bytes ≡ 0) where
    -- A log carries on the same place as the rest of it after its first part, when the rest starts from the place of that part.
    rest_carries : (log : List ℕ) (place : Option Carried) →
        (listing_with i log place).carried ≡ (listing_with i (drop bytes log) (listing_with i (take bytes log) place).carried).carried
    rest_carries log place = go (dec_le bytes (length log))
      where
        part : List ℕ
        part = take bytes log

        after : Option Carried
        after = (listing_with i part place).carried

        go : Dec (bytes ≤ length log) → (listing_with i log place).carried ≡ (listing_with i (drop bytes log) after).carried
        go (yes h) =
            let j = accepted (job_of i.job.now) ok.by_job in
            let n = accepted (scaled_count_of i.table.now i.scale.now) ok.by_table in
            let chains = scaled_says i.table.now i.scale.now n.1 in
            ap (λ (l : List ℕ). (listing_with i l place).carried) (sym (take-append-drop bytes log))
            ∙ ap (λ (p : Part). p.carried)
            (in_parts i.job.now i.table.now i.scale.now j.0 n.0 j.1 chains.0 chains.1 place part (drop bytes log) (omega (arith, whole, length-take-le bytes log h)))
        go (no h) =
            let all = lt_of_not-le h in
            let none : drop bytes log ≡ [] = drop_of_length-le log {i = bytes} (omega arith) in
            ap (λ (l : List ℕ). (listing_with i l place).carried) (sym (take_all bytes log (omega arith)))
            ∙ sym (nothing_left (drop bytes log) after (ap length none))

    -- So the place that is carried on at the end stays the same when a part is listed and its place is handed to the rest.
    pub goes_on : (rest s behind : List ℕ) → rest ≡ s ++ behind → length s ≡ min bytes (length rest) → (place after : Option Carried) → after ≡ (listing_with i s place).carried →
        (listing_with i rest place).carried ≡ (listing_with i behind after).carried
    goes_on rest s behind cut size place after handed =
        rest_carries rest place
        ∙ ap₂ (λ (x r : List ℕ). (listing_with i r (listing_with i x place).carried).carried) (sym (chunk_is bytes rest s behind cut size)) (sym (behind_chunk bytes rest s behind cut size))
        ∙ ap (λ (c : Option Carried). (listing_with i behind c).carried) (sym handed)
