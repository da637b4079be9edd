-- Bytes cut into pieces of one width, of which the last may be short: the next piece, what follows it, and how many there are.
use Prim.Native.Nat.{ℕ, suc, ◌+◌, ◌-◌, ◌*◌, ◌≤◌, ◌<◌}
use mathlib.Core.Path.{◌≡◌, refl, sym, ap, ap₂, ◌∙◌}
use mathlib.Core.List.{List, []}
use native.Mathlib.Decide.{dec_le}
use native.Mathlib.Nat.{lt_of_not-le, mul-suc}
use native.Mathlib.Omega.{arith}
use lib.ListN.{length, take, drop, length-drop, drop_of_length-le}
use lib.Seq.{take_all, drop-drop}
use Rattle.records.specs.Bytes.{pieces_in, piece_end}
use Rattle.records.specs.LogRecords.{log_bytes}
use Rattle.records.specs.ChainTables.{chain_bytes}

module _ (width : ℕ) (s : List ℕ) (done next : ℕ) (e : next ≡ piece_end done width (length s)) where
  piece_is : take (next - done) (drop done s) ≡ take width (drop done s)
  piece_is = go (dec_le (done + width) (length s))
    where
      go : Dec (done + width ≤ length s) → take (next - done) (drop done s) ≡ take width (drop done s)
      go (yes h) =
          let whole : next - done ≡ width = omega (arith, e) in
          ap (λ (n : ℕ). take n (drop done s)) whole
      go (no h) =
          take_all (next - done) (drop done s) (omega (arith, e, length-drop done s))
          ∙ sym (take_all width (drop done s) (omega (arith, length-drop done s, lt_of_not-le h)))

  behind_is : drop next s ≡ drop width (drop done s)
  behind_is = go (dec_le (done + width) (length s)) ∙ sym (drop-drop width done s)
    where
      go : Dec (done + width ≤ length s) → drop next s ≡ drop (done + width) s
      go (yes h) =
          let whole : next ≡ done + width = omega (arith, e) in
          ap (λ (n : ℕ). drop n s) whole
      go (no h) =
          drop_of_length-le s {i = next} (omega (arith, e, lt_of_not-le h))
          ∙ sym (drop_of_length-le s {i = done + width} (omega (arith, lt_of_not-le h)))

-- Suppose that what `of` gives for some bytes in a state is made from their first piece and from what `of` gives for the rest
-- in the state after that piece. Then the same holds for the bytes after the first `done`, with the next piece.
module _ {S P : Type 0} (width : ℕ) (of : S → List ℕ → P) (first : S → List ℕ → P → P) (after : S → List ℕ → S)
    (by_first : (c : S) (s : List ℕ) → 0 < length s → of c s ≡ first c (take width s) (of (after c (take width s)) (drop width s))) where
  pub next_piece : (s : List ℕ) (done next : ℕ) → done < length s → next ≡ piece_end done width (length s) → (c : S) →
      let piece = take (next - done) (drop done s) in of c (drop done s) ≡ first c piece (of (after c piece) (drop next s))
  next_piece s done next some e c =
      by_first c (drop done s) (omega (arith, length-drop done s))
      ∙ ap₂ (λ (x rest : List ℕ). first c x (of (after c x) rest)) (sym (piece_is width s done next e)) (sym (behind_is width s done next e))

-- Bytes have one piece more than what follows their first piece; no bytes have no piece.
pub record Width (width : ℕ) : Type 0 where
  pub one_more : (s : List ℕ) → 0 < length s → pieces_in width s ≡ suc (pieces_in width (drop width s))
  pub none : pieces_in width [] ≡ 0

pub record_width : Width log_bytes
record_width = record { one_more = λ s some. omega (arith, length-drop log_bytes s); none = refl }

pub chain_width : Width chain_bytes
chain_width = record { one_more = λ s some. omega (arith, length-drop chain_bytes s); none = refl }

-- Room for every piece that is left is room for the next piece and for every piece after it.
pub room_left : {width : ℕ} → Width width → (s : List ℕ) (done next : ℕ) → done < length s → next ≡ piece_end done width (length s) → (end room : ℕ) {most : ℕ} →
    end + room * pieces_in width (drop done s) ≤ most → end + (room * pieces_in width (drop next s) + room) ≤ most
room_left {width} w s done next some e end room h =
    let more = w.one_more (drop done s) (omega (arith, length-drop done s)) in
    rw (behind_is width s done next e) (rw (more, mul-suc) at h)
