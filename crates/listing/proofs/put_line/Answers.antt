-- `listing::put_line` meets its contract: its head, what the record answers, its last field and the newline, one after the other.
use Prim.Native.Nat.{◌+◌, ◌*◌, ◌≤◌}
use mathlib.Core.Path.{◌≡◌, sym, ◌∙◌, subst}
use native.Mathlib.Omega.{arith}
use lib.Seq.{length-take-le}
use Rattle.std.specs.Prelude.{Result, IfOk}
use Rattle.search.specs.declared.Stopped.{Stopped}
use Rattle.listing.specs.declared.Told.{Told}
use Rattle.text.specs.Texts.{bytes_in}
use Rattle.text.specs.Puts.{Put}
use Rattle.text.proofs.PutLaws.{put_from, put_then, put_as}
use Rattle.listing.specs.Answers.{program_room}
use Rattle.listing.specs.Listings.{longest_line}
use Rattle.listing.specs.Putting.{middle_text, last_text}
use Rattle.listing.proofs.LineLaws.{line_text}
use Rattle.listing.proofs.put_line.Goals.{After-put_last-f, in-Ok, in-Err}
use Rattle.listing.proofs.put_line.Goals as goal

-- What the record answers, put after the head.
middle_put : (c : After-put_last-f) → Put c.put_head-a.new.out c.put_head-a.result (middle_text c.args.t c.args.list.now) c.match-t.out c.match-t.end
unfolding middle_text
middle_put c =
    elim c.match-t.branch [
      | in-Ok w ↦ rw (w.in-Ok.is, w.out-is, w.end-is)
          (put_then w.put_word-b.ensures.text (put_then w.put_figure-c.ensures.text (put_then w.put_figure-d.ensures.text w.put_entries-end.ensures.text)))
      | in-Err w ↦ rw (w.in-Err.is, w.out-is, w.end-is) w.put_refused-end.ensures.text
    ]

-- The last field, put after that.
last_put : (c : After-put_last-f) → Put c.match-t.out c.match-t.end (last_text c.args.t) c.put_last-f.new.out c.put_last-f.result
last_put c = subst (λ (t : Result Told Stopped). Put c.match-t.out c.match-t.end (last_text t) c.put_last-f.new.out c.put_last-f.result) (same_told c) c.put_last-f.ensures.text
  where
    same_told : (c : After-put_last-f) → c.match-t.t ≡ c.args.t
    same_told c = elim c.match-t.branch [ in-Ok w ↦ w.t-is ∙ sym w.in-Ok.is | in-Err w ↦ w.t-is ∙ sym w.in-Err.is ]

-- 256 places and all before them take less than the longest line.
short : (c : After-put_last-f) → c.put_last-f.result + 1 ≤ c.args.at + longest_line
short c =
    elim c.match-t.branch [
      | in-Ok w ↦
          let few : w.in-Ok.t.count ≤ program_room = subst (λ (t : Result Told Stopped). IfOk t (λ (x : Told). x.count ≤ program_room)) w.in-Ok.is c.requires.1.0 in
          let entries = length-take-le (2 * w.in-Ok.t.count) c.args.list.now (omega (arith, few, c.requires.0)) in
          omega (arith, few, entries, c.put_head-a.ensures.end, w.put_word-b.ensures.end, w.put_figure-c.ensures.end, w.put_figure-d.ensures.end, w.put_entries-end.ensures.end, w.end-is, c.put_last-f.ensures.end)
      | in-Err w ↦ omega (arith, c.put_head-a.ensures.end, w.put_refused-end.ensures.end, w.end-is, c.put_last-f.ensures.end)
    ]

pub returns : goal.returns
unfolding bytes_in
returns c =
    let d = (goal.at.returns c).After-put_last-f in
    let newline = put_from (c.put.ensures.end, c.put.ensures.out) (omega (arith, short d, c.requires.1.1, c.put_last-f.auto.out, c.match-t.auto.out, c.put_head-a.auto.out)) in
    record {
      text = λ a told.
          put_as (line_text c.args.s.now a c.args.t c.args.list.now told)
          (put_then c.put_head-a.ensures.text (put_then (middle_put d) (put_then (last_put d) newline)));
      end = omega (arith, newline.end_is, short d);
    }
