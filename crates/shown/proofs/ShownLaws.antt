-- Texts that are put if there is room for them, how long they are, and what is returned for them.
use Prim.Native.Nat.{ℕ, ◌+◌, ◌-◌, ◌*◌, ◌/◌, ◌≤◌, ◌<◌}
use mathlib.Core.Path.{◌≡◌, refl, sym, ap, ◌∙◌, subst}
use mathlib.Core.Bool.{Bool, true, false, true≢false}
use mathlib.Core.List.{List, [], ◌∷◌, ◌++◌, append-nil}
use native.Mathlib.Omega.{arith}
use borrow.Author.Tests.{ltb-true, leb-true, leb-false, le-leb, lt-leb, eq-eqb, ne_eqb}
use lib.Dec.{leb}
use lib.IntN.{ℤ, pos, negsuc, nat_abs}
use lib.ListN.{length, drop, drop_of_length-le, length-append}
use lib.Signed.{lt_z}
use Rattle.std.specs.Prelude.{Result, Ok, Err}
use Rattle.refusals.specs.declared.Refusal.{Refusal}
use Rattle.refusals.specs.declared.Refusal.TheVariants as refusal
use Rattle.fields.specs.Fields.{bytes_of, put_at}
use Rattle.fields.proofs.FieldLaws.{put_inside}
use Rattle.metres.specs.Metres.{most_centimetres}
use Rattle.writing.specs.Writing.{metres_bytes}
use Rattle.text.specs.Texts.{spaced, figures_text, hex_of, bytes_in, flag_text}
use Rattle.text.specs.Puts.{end_after, with_text}
use Rattle.text.proofs.PutLaws.{put_none, put_both, put_from}
use Rattle.shown.specs.Fields.{hex_text, refused_text, sign_text, decimal_text, metres_text}
use Rattle.shown.specs.Expected.{is_rounded_back, written_text}
use Rattle.shown.specs.Rooms.{line_for, buffer_for, has_line_room, Puts, IsShown}

-- Putting no text, an equal text, and a text that may be longer.
pub puts_none : (o : List ℕ) (at most : ℕ) → Puts o at [] most o at
puts_none o at most = record { put = λ room. put_none o at (omega (arith, room)); few = omega arith }

pub puts_as : {o : List ℕ} {at : ℕ} {x y : List ℕ} {most : ℕ} {o' : List ℕ} {end : ℕ} → x ≡ y → Puts o at x most o' end → Puts o at y most o' end
puts_as {o} {at} {x} {y} {most} {o'} {end} e p = subst (λ (z : List ℕ). Puts o at z most o' end) e p

pub puts_few : {o : List ℕ} {at : ℕ} {x : List ℕ} {some most : ℕ} {o' : List ℕ} {end : ℕ} → Puts o at x some o' end → some ≤ most → Puts o at x most o' end
puts_few p h = record { put = p.put; few = omega (arith, p.few, h) }

-- What the functions of `text` put.
pub puts_put : {o : List ℕ} {at : ℕ} {x o' : List ℕ} {end : ℕ} → end ≡ end_after (length o) at x → o' ≡ with_text o at x → Puts o at x (length x) o' end
puts_put e f = record { put = put_from (e, f); few = omega arith }

-- One text after the other.
pub puts_both : {o : List ℕ} {at : ℕ} {x : List ℕ} {some : ℕ} {o' : List ℕ} {end : ℕ} {y : List ℕ} {more : ℕ} {o'' : List ℕ} {end' : ℕ} →
    Puts o at x some o' end → Puts o' end y more o'' end' → Puts o at (x ++ y) (some + more) o'' end'
puts_both {x = x} {y = y} p q = record { put = put_both p.put q.put; few = omega (arith, length-append x y, p.few, q.few) }

-- Bytes in hexadecimal: when there are none, and when there are some.
pub hex_none : (s : List ℕ) → length s ≡ 0 → hex_text s ≡ []
unfolding hex_text
hex_none [] h = refl
hex_none (b ∷ bs) h = absurd (omega (arith, h))

pub hex_some : (s : List ℕ) → (length s ≡ 0 → ⊥) → hex_text s ≡ 32 ∷ hex_of s
unfolding hex_text
hex_some [] h = absurd (h refl)
hex_some (b ∷ bs) h = refl

-- A field that is put into a buffer of the field's width leaves exactly its bytes there.
pub put_filled : (width : ℕ) (s : List ℕ) (n : ℕ) → length s ≡ width → put_at width s 0 n ≡ bytes_of width n
put_filled width s n h =
    put_inside width s 0 n (le-leb (0 + width) (length s) (omega (arith, h)))
    ∙ ap (λ (rest : List ℕ). bytes_of width n ++ rest) (drop_of_length-le s {i = 0 + width} (omega (arith, h)))
    ∙ append-nil (bytes_of width n)

-- Centimetres as metres: below 0, and otherwise.
pub metres_below : (z : ℤ) → lt_z z (pos 0) ≡ true → 45 ∷ decimal_text (nat_abs z) ≡ metres_text z
unfolding sign_text bytes_in
metres_below (pos n) e = absurd (omega (arith, ltb-true n 0 e))
metres_below (negsuc n) e = refl

pub metres_above : (z : ℤ) → lt_z z (pos 0) ≡ false → decimal_text (nat_abs z) ≡ metres_text z
unfolding sign_text bytes_in
metres_above (pos n) e = refl
metres_above (negsuc n) e = absurd (true≢false e)

-- A reading that can be written, and one that cannot.
pub written_refused : (z : ℤ) → most_centimetres < nat_abs z → bytes_in " REFUSED 3" ≡ written_text z
unfolding written_text
written_refused z h = rw (lt-leb (nat_abs z) most_centimetres h)

pub written_told : (z : ℤ) → nat_abs z ≤ most_centimetres → (32 ∷ metres_text z) ++ ((32 ∷ hex_of (metres_bytes z)) ++ flag_text (is_rounded_back z)) ≡ written_text z
unfolding written_text
written_told z h = rw (le-leb (nat_abs z) most_centimetres h)

-- The test for room with a half in place of a product, as the code makes it.
pub half_room : (bytes count : ℕ) → 208 ≤ bytes → leb count ((bytes - 208) / 2) ≡ has_line_room bytes count
half_room bytes count h = go (leb count ((bytes - 208) / 2)) refl
  where
    go : (t : Bool) → leb count ((bytes - 208) / 2) ≡ t → t ≡ has_line_room bytes count
    go true e = sym (le-leb (208 + 2 * count) bytes (omega (arith, h, leb-true count ((bytes - 208) / 2) e)))
    go false e = sym (lt-leb (208 + 2 * count) bytes (omega (arith, h, leb-false count ((bytes - 208) / 2) e)))

-- What follows the fields of a record that is not refused, and of one that is.
pub refused_none : (number : ℕ) (s : List ℕ) → number ≡ 0 → [] ≡ refused_text number s
unfolding refused_text
refused_none number s h = rw (eq-eqb number 0 h)

pub refused_some : (number : ℕ) (s : List ℕ) → (number ≡ 0 → ⊥) → bytes_in " REFUSED" ++ (figures_text (number ∷ []) ++ hex_text s) ≡ refused_text number s
unfolding refused_text figures_text
refused_some number s h =
    rw (ne_eqb number 0 h) (ap (λ (x : List ℕ). bytes_in " REFUSED" ++ (x ++ hex_text s)) (append-nil (spaced number)))

-- With room for the line, and without.
pub line_shown : {o : List ℕ} (count : ℕ) {x : List ℕ} {most : ℕ} {o' : List ℕ} {end : ℕ} → has_line_room (length o) count ≡ true → Puts o 0 x most o' end → most ≤ 208 + 2 * count →
    IsShown o count (Ok x) (Ok end) o'
unfolding line_for buffer_for
line_shown {o} count {x} {most} {o'} {end} room p few =
    let put = p.put (omega (arith, leb-true (208 + 2 * count) (length o) room, p.few, few)) in
    let none : 0 + length x ≡ length x = omega arith in
    record { answer_is = rw (room) (ap Ok (put.end_is ∙ none)); now_is = rw (room) (put.now_is ∙ ap (λ (n : ℕ). x ++ drop n o) none) }

pub none_shown : (o : List ℕ) (count : ℕ) (reply : Result (List ℕ) Refusal) → has_line_room (length o) count ≡ false → IsShown o count reply (Err refusal.NoRoom) o
unfolding line_for buffer_for
none_shown o count reply none = record { answer_is = rw (none); now_is = rw (none) }

-- With room, a refusal leaves the buffer as it was.
pub refusal_shown : (o : List ℕ) (count : ℕ) {why : Refusal} {reply : Result (List ℕ) Refusal} → has_line_room (length o) count ≡ true → Err why ≡ reply → IsShown o count reply (Err why) o
unfolding line_for buffer_for
refusal_shown o count room e = record { answer_is = rw (room) (ap line_for e); now_is = rw (room) (ap (buffer_for o) e) }

-- What is shown for a reply is shown for an equal one.
pub shown_as : {o : List ℕ} {count : ℕ} {reply reply' : Result (List ℕ) Refusal} {r : Result ℕ Refusal} {o' : List ℕ} → reply ≡ reply' → IsShown o count reply r o' → IsShown o count reply' r o'
shown_as {o} {count} {reply} {reply'} {r} {o'} e shown = subst (λ (x : Result (List ℕ) Refusal). IsShown o count x r o') e shown

-- Where a line's word was put, there is room for the line; else the line is refused too.
pub begun : {o : List ℕ} {count : ℕ} {word : List ℕ} {r : Result ℕ Refusal} {o' : List ℕ} {a : ℕ} → r ≡ Ok a → IsShown o count (Ok word) r o' →
    (has_line_room (length o) count ≡ true) × Puts o 0 word (length word) o' a
unfolding line_for buffer_for
begun {o} {count} {word} {r} {o'} {a} is shown = go (has_line_room (length o) count) refl
  where
    go : (t : Bool) → has_line_room (length o) count ≡ t → (has_line_room (length o) count ≡ true) × Puts o 0 word (length word) o' a
    go true room =
        let none : length word ≡ 0 + length word = omega arith in
        let answer : r ≡ Ok (length word) = rw room at shown.answer_is in
        let end : a ≡ length word = cc in (
          room,
          record {
            put = λ fits. record { fits = fits; end_is = end ∙ none; now_is = (rw room at shown.now_is) ∙ ap (λ (n : ℕ). word ++ drop n o) none };
            few = omega arith;
          },
        )
    go false none =
        let answer : r ≡ Err refusal.NoRoom = rw none at shown.answer_is in
        absurd (cc)

pub not_begun : {o : List ℕ} {count : ℕ} {word : List ℕ} {r r' : Result ℕ Refusal} {o' : List ℕ} {why : Refusal} (reply : Result (List ℕ) Refusal) →
    r ≡ Err why → (e : Refusal) × (r' ≡ Err e) × (e ≡ why) → IsShown o count (Ok word) r o' → IsShown o count reply r' o'
unfolding line_for buffer_for
not_begun {o} {count} {word} {r} {r'} {o'} {why} reply was passed shown = go (has_line_room (length o) count) refl
  where
    same : r' ≡ r
    same = cc (was, passed.1, passed.2)

    go : (t : Bool) → has_line_room (length o) count ≡ t → IsShown o count reply r' o'
    go true room =
        let answer : r ≡ Ok (length word) = rw room at shown.answer_is in
        absurd (cc (was, answer))
    go false none = record { answer_is = rw none (same ∙ (rw none at shown.answer_is)); now_is = rw none (rw none at shown.now_is) }
