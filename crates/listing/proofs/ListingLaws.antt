-- A listing as it depends on its job and its table, and the answer when it is put into a buffer.
use Prim.Native.Nat.{ℕ, ◌+◌, ◌/◌, ◌≤◌, ◌<◌}
use mathlib.Core.Path.{◌≡◌, refl, sym, ap, ap₂, ◌∙◌, subst}
use mathlib.Core.List.{List, ◌++◌}
use native.Mathlib.Omega.{arith}
use borrow.Author.Tests.{lt-ltb, le-ltb}
use lib.ListN.{length, drop}
use Rattle.std.specs.Prelude.{Option, Result, Ok, Err}
use Rattle.refusals.specs.declared.Refusal.{Refusal}
use Rattle.refusals.specs.declared.Refusal.TheVariants as refusal
use Rattle.records.specs.declared.Job.{Job}
use Rattle.records.specs.LogRecords.{log_bytes}
use Rattle.records.specs.ChainTables.{chain_count_of}
use Rattle.records.specs.Jobs.{job_of}
use Rattle.text.specs.Puts.{Put}
use Rattle.listing.specs.declared.Carried.{Carried}
use Rattle.listing.specs.declared.Listed.{Listed}
use Rattle.listing.specs.Listings.{Part, listing_by, listing_from, longest_line, listed_in, buffer_with}
use Rattle.listing.specs.Putting.{Gives}

-- If a listing was put into a buffer, so was any equal listing.
pub gives_as : {o : List ℕ} {p q : Part} {o' : List ℕ} {a : Listed} → p ≡ q → Gives o p o' a → Gives o q o' a
gives_as {o} {p} {q} {o'} {a} e h = subst (λ (x : Part). Gives o x o' a) e h

-- If the text of a listing was put at the start of a buffer, so was the listing.
pub put_first : {o : List ℕ} {p : Part} {o' : List ℕ} {end : ℕ} (place : Option Carried) → place ≡ p.carried → Put o 0 p.text o' end → Gives o p o' (record { length = end; carried = place })
put_first {o} {p} {o'} {end} place e h =
    let none : 0 + length p.text ≡ length p.text = omega arith in
    record {
      answer_is = ap₂ (λ (n : ℕ) (c : Option Carried). record { length = n; carried = c }) (h.end_is ∙ none) e;
      now_is = h.now_is ∙ ap (λ (n : ℕ). p.text ++ drop n o) none;
    }

module _ (table scale log : List ℕ) (before : Option Carried) where
  -- The listing with an accepted job, when the count of chains is `c`.
  pub by_count : (j : Job) (c : Result ℕ Refusal) → chain_count_of table ≡ c → listing_by (Ok j) c table scale log before ≡ listing_by (Ok j) (chain_count_of table) table scale log before
  by_count j c e = sym (ap (λ (x : Result ℕ Refusal). listing_by (Ok j) x table scale log before) e)

  -- The listing when the job's bytes answer `a`.
  pub by_job : (s : List ℕ) (a : Result Job Refusal) → job_of s ≡ a → listing_by a (chain_count_of table) table scale log before ≡ listing_from s table scale log before
  unfolding listing_from
  by_job s a e = sym (ap (λ (x : Result Job Refusal). listing_by x (chain_count_of table) table scale log before) e)

module _ (out log : List ℕ) (p : Part) where
  -- With room, the answer and the buffer are those of the listing; without it, the answer is refusal 9 and the buffer is unchanged.
  pub with_room : length log / log_bytes < length out / longest_line → (out' : List ℕ) (a : Listed) → Gives out p out' a →
      (Ok a ≡ listed_in (length out) log p) × (out' ≡ buffer_with out log p)
  unfolding listed_in buffer_with
  with_room h out' a g = rw (lt-ltb (length log / log_bytes) (length out / longest_line) h) (ap (λ (x : Listed). Ok x) g.answer_is, g.now_is)

  pub without_room : length out / longest_line ≤ length log / log_bytes → (Err refusal.NoRoom ≡ listed_in (length out) log p) × (out ≡ buffer_with out log p)
  unfolding listed_in buffer_with
  without_room h = rw (le-ltb (length log / log_bytes) (length out / longest_line) h) (refl, refl)
