-- The lines of pieces, one after the other: those so far are put, and those of the rest follow.
use Prim.Native.Nat.{ℕ, suc, ◌+◌, ◌*◌, ◌≤◌, ◌<◌, min}
use mathlib.Core.List.{List, [], ◌++◌, append-nil}
use mathlib.Core.Path.{◌≡◌, sym, ap, ap₂, ◌∙◌}
use native.Mathlib.Decide.{dec_le}
use native.Mathlib.Nat.{lt_of_not-le, mul-suc}
use native.Mathlib.Omega.{arith}
use lib.ListN.{length, take, drop, length-append, drop_of_length-le}
use lib.Seq.{take_all, take-append_seam, drop-append_seam}
use Rattle.std.proofs.lemmas.List.{nil_from_length}
use Rattle.records.specs.Bytes.{pieces_in}
use Rattle.records.proofs.Pieces.{Width}
use Rattle.text.specs.Puts.{Put}
use Rattle.text.proofs.Series.{Reached, reached_none, reached_more, reached_all}
use Rattle.shown.specs.Rooms.{line_room}
use Rattle.layshow.specs.Walks.{piece_lines, all_lines, PutLine}

-- The bytes `rest` of `s` are still to be shown, the others have their lines in a buffer. The next piece has the number `number`, and
-- all the rest have room up to `most`.
pub record ShownTo (line : ℕ → List ℕ → List ℕ) (width at most : ℕ) (s o rest : List ℕ) (number : ℕ) (o' : List ℕ) (end : ℕ) : Type 0 where
  pub lines : Reached o at (all_lines line width 1 s) (all_lines line width number rest) o' end
  pub room : end + line_room width * pieces_in width rest ≤ most
  pub within : most ≤ length o

pub shown_none : {line : ℕ → List ℕ → List ℕ} {width at most : ℕ} {s o : List ℕ} → at + line_room width * pieces_in width s ≤ most → most ≤ length o →
    ShownTo line width at most s o s 1 o at
shown_none {line} {width} {at} {most} {s} {o} room within =
    record { lines = reached_none (all_lines line width 1 s) (omega arith); room = room; within = within }

-- The chunk that comes off some bytes is their first piece, and what is left is what follows it.
chunk_first : (width : ℕ) (s x rest : List ℕ) → s ≡ x ++ rest → length x ≡ min width (length s) → (x ≡ take width s) × (rest ≡ drop width s)
chunk_first width s x rest cut size = go (dec_le width (length s))
  where
    both : length s ≡ length x + length rest
    both = ap length cut ∙ length-append x rest

    go : Dec (width ≤ length s) → (x ≡ take width s) × (rest ≡ drop width s)
    go (yes h) =
        let full : length x ≡ width = omega (arith, size) in (
          sym (ap (take width) cut ∙ ap (λ (n : ℕ). take n (x ++ rest)) (sym full) ∙ take-append_seam x rest),
          sym (ap (drop width) cut ∙ ap (λ (n : ℕ). drop n (x ++ rest)) (sym full) ∙ drop-append_seam x rest),
        )
    go (no h) =
        let none : rest ≡ [] = nil_from_length rest (omega (arith, size, both, lt_of_not-le h)) in (
          sym (take_all width s (omega (arith, lt_of_not-le h)) ∙ cut ∙ ap (λ (l : List ℕ). x ++ l) none ∙ append-nil x),
          none ∙ sym (drop_of_length-le s {i = width} (omega (arith, lt_of_not-le h))),
        )

-- The lines of bytes that are not empty: the line of the first piece, then those of the rest.
lines_step : (line : ℕ → List ℕ → List ℕ) {width : ℕ} → Width width → (number : ℕ) (s : List ℕ) → 0 < length s →
    all_lines line width number s ≡ line number (take width s) ++ all_lines line width (number + 1) (drop width s)
unfolding piece_lines
lines_step line {width} w number s some = ap (λ (n : ℕ). piece_lines line width n number s) (w.one_more s some)

module _ {line : ℕ → List ℕ → List ℕ} {width : ℕ} (w : Width width) where
  module _ {at most : ℕ} {s o rest : List ℕ} {number : ℕ} {o' : List ℕ} {end : ℕ} (r : ShownTo line width at most s o rest number o' end) where
    -- The next piece, and that there is room for its line.
    module _ (x rest' : List ℕ) (cut : rest ≡ x ++ rest') (size : length x ≡ min width (length rest)) (some : 0 < length rest) where
      first : (x ≡ take width rest) × (rest' ≡ drop width rest)
      first = chunk_first width rest x rest' cut size

      more : pieces_in width rest ≡ suc (pieces_in width rest')
      more = w.one_more rest some ∙ ap (λ (l : List ℕ). suc (pieces_in width l)) (sym first.1)

      pub room_next : end + (line_room width * pieces_in width rest' + line_room width) ≤ most
      room_next = rw (more, mul-suc) at r.room

      -- When its line is put, the buffer has the lines of one more piece.
      pub shown_more : {o'' : List ℕ} {end' : ℕ} → PutLine o' end (line number x) (length x) o'' end' → ShownTo line width at most s o rest' (number + 1) o'' end'
      shown_more p =
          record {
            lines = reached_more r.lines (lines_step line w number rest some ∙ ap₂ (λ (x l : List ℕ). line number x ++ all_lines line width (number + 1) l) (sym first.0) (sym first.1)) p.put;
            room = omega (arith, room_next, p.short, size);
            within = r.within;
          }

    -- When no piece is left, the buffer has the lines of all.
    pub shown_all : length rest ≡ 0 → Put o at (all_lines line width 1 s) o' end
    unfolding piece_lines
    shown_all none = reached_all r.lines (rw (nil_from_length rest none, w.none))
