-- A line is put into its room in a buffer. Only this part of the buffer is lent to the function that puts it.
use Prim.Native.Nat.{ℕ, ◌+◌, ◌-◌, ◌*◌, ◌≤◌}
use mathlib.Core.Bool.{true}
use mathlib.Core.List.{List, ◌++◌, append_assoc}
use mathlib.Core.Path.{◌≡◌, sym, ap, ◌∙◌}
use native.Mathlib.Omega.{arith}
use borrow.Author.Tests.{le-leb}
use lib.ListN.{length, take, drop, take-append-drop, length-append, length-drop}
use lib.Seq.{length-take-le, drop-append-le, drop-drop}
use Rattle.std.specs.Prelude.{Result, Ok}
use Rattle.refusals.specs.declared.Refusal.{Refusal}
use Rattle.shown.specs.Rooms.{line_for, buffer_for, text_of, line_room, has_line_room, in_room}
use Rattle.layshow.specs.Walks.{PutLine}

module _ (o : List ℕ) (at bytes : ℕ) (fits : at + line_room bytes ≤ length o) where
  -- The room that is lent, and what is after it.
  abbrev lent : ℕ
  lent = at + 208 + 2 * bytes - at

  abbrev room : List ℕ
  room = take lent (drop at o)

  abbrev behind : List ℕ
  behind = drop lent (drop at o)

  room_long : length room ≡ line_room bytes
  room_long = length-take-le lent (drop at o) (omega (arith, length-drop at o)) ∙ omega arith

  -- So the line is not refused: it is put, and the rest of the buffer is unchanged.
  pub line_put : (x : List ℕ) {line : Result ℕ Refusal} {room' : List ℕ} {end : ℕ} →
      line ≡ line_for (in_room (length room) bytes (Ok x)) → room' ≡ buffer_for room (in_room (length room) bytes (Ok x)) →
      length room' ≡ length room → end ≡ at + text_of line → PutLine o at x bytes (take at o ++ (room' ++ behind)) end
  unfolding line_for buffer_for
  line_put x {line} {room'} {end} answer buffer kept is =
      let roomy : has_line_room (length room) bytes ≡ true = le-leb (line_room bytes) (length room) (omega (arith, room_long)) in
      let told : line ≡ Ok (length x) = rw roomy at answer in
      let put : room' ≡ x ++ drop (length x) room = rw roomy at buffer in
      let short : length x ≤ length room = omega (arith, kept, simp length-append at (ap length put)) in
      let ends : end ≡ at + length x = is ∙ ap (λ (l : Result ℕ Refusal). at + text_of l) told in
      let rest : drop (length x) room ++ behind ≡ drop (at + length x) o =
      sym (drop-append-le (length x) room behind short)
      ∙ ap (drop (length x)) (take-append-drop lent (drop at o))
      ∙ drop-drop (length x) at o in
      record {
        put = record {
          fits = omega (arith, short, room_long);
          end_is = ends;
          now_is =
              ap (λ (l : List ℕ). take at o ++ (l ++ behind)) put
              ∙ ap (λ (l : List ℕ). take at o ++ l) (append_assoc x (drop (length x) room) behind ∙ ap (λ (l : List ℕ). x ++ l) rest);
        };
        short = omega (arith, ends, short, room_long);
      }
