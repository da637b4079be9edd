-- The lines of a log, one after the other: what is listed so far, and the listing of the rest from the place carried on.
use Prim.Native.Nat.{ℕ, ◌+◌, ◌*◌, ◌/◌, ◌≤◌, ◌<◌, min}
use mathlib.Core.Path.{◌≡◌, refl, sym, ap, ap₂, ◌∙◌}
use mathlib.Core.List.{List, [], ◌++◌}
use native.Mathlib.Omega.{arith}
use lib.ListN.{length, drop}
use Rattle.std.specs.Prelude.{Option}
use Rattle.std.proofs.lemmas.List.{nil_from_length}
use Rattle.records.specs.declared.Job.{Job}
use Rattle.records.specs.LogRecords.{log_bytes}
use Rattle.records.proofs.Pieces.{record_width}
use Rattle.text.specs.Puts.{Put}
use Rattle.text.proofs.Series.{Reached, reached_none, reached_more, reached_all}
use Rattle.listing.specs.declared.Carried.{Carried}
use Rattle.listing.specs.Answers.{answer_of, carried_by}
use Rattle.listing.specs.Listings.{line_of, Part, line_before, first_answer, first_line, lines_from, records_in, lines_of, longest_line}
use Rattle.listing.specs.Putting.{Gives}
use Rattle.listing.proofs.Chunks.{chunk_is, behind_chunk}
use Rattle.listing.proofs.ListingLaws.{put_first}

module _ (j : Job) (table scale : List ℕ) where
  -- The lines of a log that is not empty: its first line, then the lines of the rest.
  lines_step : (place : Option Carried) (s : List ℕ) → 0 < length s →
      lines_of j table scale place s ≡ line_before (first_line j table scale place s) (lines_of j table scale (carried_by (first_answer j table scale place s)) (drop log_bytes s))
  unfolding lines_from
  lines_step place s some = ap (λ (n : ℕ). lines_from n j table scale place s) (record_width.one_more s some)

  -- A log is listed up to `rest`: the text so far is in a buffer, the rest goes on from `place`, and there is room for its lines.
  pub record ListedTo (before : Option Carried) (log rest : List ℕ) (out₀ out : List ℕ) (end : ℕ) (place : Option Carried) : Type 0 where
    pub lines : Reached out₀ 0 (lines_of j table scale before log).text (lines_of j table scale place rest).text out end
    pub carries : (lines_of j table scale before log).carried ≡ (lines_of j table scale place rest).carried
    pub room : end + longest_line * records_in rest ≤ length out₀

  pub listed_none : (before : Option Carried) (log out : List ℕ) → length log / log_bytes < length out / longest_line → ListedTo before log log out out 0 before
  listed_none before log out h = record { lines = reached_none (lines_of j table scale before log).text (omega arith); carries = refl; room = omega arith }

  module _ (before : Option Carried) (log rest : List ℕ) (out₀ out : List ℕ) (end : ℕ) (place : Option Carried) (l : ListedTo before log rest out₀ out end place) where
    -- One more record is listed.
    pub listed_more : 0 < length rest → (s behind : List ℕ) → rest ≡ s ++ behind → length s ≡ min log_bytes (length rest) →
        (out' : List ℕ) (end' : ℕ) (place' : Option Carried) → Put out end (line_of s (answer_of j table scale place s)) out' end' → end' ≤ end + longest_line →
        place' ≡ carried_by (answer_of j table scale place s) → ListedTo before log behind out₀ out' end' place'
    listed_more some s behind cut size out' end' place' put short handed =
        let line = line_of s (answer_of j table scale place s) in
        let left : lines_of j table scale place rest ≡ line_before line (lines_of j table scale place' behind) =
        lines_step place rest some
        ∙ ap₂ (λ (x r : List ℕ). line_before (line_of x (answer_of j table scale place x)) (lines_of j table scale (carried_by (answer_of j table scale place x)) r))
        (sym (chunk_is log_bytes rest s behind cut size)) (sym (behind_chunk log_bytes rest s behind cut size))
        ∙ ap (λ (c : Option Carried). line_before line (lines_of j table scale c behind)) (sym handed) in
        let fewer : records_in rest ≡ records_in behind + 1 = omega (arith, record_width.one_more rest some, ap records_in (behind_chunk log_bytes rest s behind cut size)) in
        record {
          lines = reached_more l.lines (ap (λ (p : Part). p.text) left) put;
          carries = l.carries ∙ ap (λ (p : Part). p.carried) left;
          room = omega (arith, l.room, fewer, short);
        }

    -- The whole log is listed.
    pub listed_all : length rest ≡ 0 → Gives out₀ (lines_of j table scale before log) out (record { length = end; carried = place })
    unfolding lines_from
    listed_all none =
        let nothing : rest ≡ [] = nil_from_length rest none in
        put_first place (sym (l.carries ∙ rw nothing)) (reached_all l.lines (rw nothing))
