-- The last field of a line, and what it says of the numbers of its record.
use Prim.Native.Nat.{ℕ, ◌-◌}
use mathlib.Core.Path.{◌≡◌, refl, sym, ap, ◌∙◌, subst}
use mathlib.Core.Logic.{◌↔◌}
use mathlib.Core.Bool.{Bool, true, false, ◌||◌}
use mathlib.Core.List.{List, [], ◌∷◌, ◌++◌, map, append_assoc}
use native.Mathlib.Omega.{arith}
use lib.Dec.{T}
use lib.Ieee.{Float}
use lib.ListN.{length, drop, get_or, length-append}
use lib.Seq.{drop-append_seam}
use Rattle.std.specs.Prelude.{Option, Some, None, Result, Ok, Err}
use Rattle.refusals.specs.declared.Refusal.{Refusal}
use Rattle.metres.specs.declared.Mark.{Mark}
use Rattle.metres.specs.declared.Mark.TheVariants.{Equal, Below, Above}
use Rattle.metres.specs.Marks.{mark_of, is_rounded}
use Rattle.chart.specs.declared.Place.{Place}
use Rattle.chart.specs.declared.Chain.{Chain}
use Rattle.search.specs.declared.Found.{Found}
use Rattle.search.specs.declared.Unfound.{Unfound}
use Rattle.search.specs.Answers.{Outcome}
use Rattle.records.specs.declared.Job.{Job}
use Rattle.records.specs.declared.LogEntry.{LogEntry}
use Rattle.records.specs.declared.LogEntry.TheVariants as entry
use Rattle.records.specs.Bytes.{byte_at}
use Rattle.records.specs.LogRecords.{log_record_of, log_entry_of}
use Rattle.records.specs.Marks.{numbers_used, is_accepted, marks_of, any_rounded, is_rounded_in}
use Rattle.records.specs.ChainTables.{chain_of}
use Rattle.text.specs.Texts.{spaced, bytes_in, flag_text}
use Rattle.listing.specs.declared.Carried.{Carried}
use Rattle.listing.specs.Answers.{RecordAnswer, Fix, Grid, Hold, Refused, fix_with, searched, fix_by, hold_of, answer_by, answer_of, places_of, says_rounded, only, carried_by}
use Rattle.listing.specs.Listings.{head_of, places_text, answer_text, line_of}
use Rattle.demands.specs.Roundings.{EachExact, IsOwn, last_bytes}

-- A text that ends in three bytes.
ends_in : (text front end : List ℕ) → text ≡ front ++ end → length end ≡ 3 → last_bytes 3 text ≡ end
ends_in text front end e three =
    let before : length (front ++ end) - 3 ≡ length front = omega (arith, length-append front end, three) in
    ap (last_bytes 3) e ∙ ap (λ (n : ℕ). drop n (front ++ end)) before ∙ drop-append_seam front end

-- The last three bytes of a line: its last field, and the newline.
abbrev field_of : Bool → List ℕ
field_of rounded = flag_text rounded ++ bytes_in "\n"

three_bytes : (rounded : Bool) → length (field_of rounded) ≡ 3
unfolding flag_text bytes_in
three_bytes true = refl
three_bytes false = refl

module _ (s word count visits places : List ℕ) (rounded : Bool) where
  line_ends : last_bytes 3 (head_of s ++ ((word ++ (count ++ (visits ++ (places ++ flag_text rounded)))) ++ bytes_in "\n")) ≡ field_of rounded
  line_ends =
      let flag = flag_text rounded in
      let end = bytes_in "\n" in
      ends_in _ (head_of s ++ (word ++ (count ++ (visits ++ places)))) (field_of rounded)
      (ap (λ (z : List ℕ). head_of s ++ z)
      (append_assoc word (count ++ (visits ++ (places ++ flag))) end
      ∙ ap (λ (z : List ℕ). word ++ z) (append_assoc count (visits ++ (places ++ flag)) end)
      ∙ ap (λ (z : List ℕ). word ++ (count ++ z)) (append_assoc visits (places ++ flag) end)
      ∙ ap (λ (z : List ℕ). word ++ (count ++ (visits ++ z))) (append_assoc places flag end)
      ∙ ap (λ (z : List ℕ). word ++ (count ++ z)) (sym (append_assoc visits places (flag ++ end)))
      ∙ ap (λ (z : List ℕ). word ++ z) (sym (append_assoc count (visits ++ places) (flag ++ end)))
      ∙ sym (append_assoc word (count ++ (visits ++ places)) (flag ++ end)))
      ∙ sym (append_assoc (head_of s) (word ++ (count ++ (visits ++ places))) (flag ++ end)))
      (three_bytes rounded)

-- The line of a fix, of a grid record and of a hold ends with what its answer says of roundings.
fix_ends : (s : List ℕ) (visits : ℕ) (ps : List Place) (rounded : Bool) → last_bytes 3 (line_of s (Fix visits ps rounded)) ≡ field_of rounded
unfolding answer_text
fix_ends s visits ps rounded = line_ends s (bytes_in " FIX") (spaced (length ps)) (spaced visits) (places_text ps) rounded

grid_ends : (s : List ℕ) (p : Place) (rounded : Bool) → last_bytes 3 (line_of s (Grid p rounded)) ≡ field_of rounded
unfolding answer_text
grid_ends s p rounded = line_ends s (bytes_in " GRID") (spaced 1) (spaced 0) (places_text (p ∷ [])) rounded

hold_ends : (s : List ℕ) (p : Place) (rounded : Bool) → last_bytes 3 (line_of s (Hold p rounded)) ≡ field_of rounded
unfolding answer_text
hold_ends s p rounded = line_ends s (bytes_in " HOLD") (spaced 1) (spaced 0) (places_text (p ∷ [])) rounded

own_ends : (s : List ℕ) (a : RecordAnswer) → IsOwn a → last_bytes 3 (line_of s a) ≡ field_of (says_rounded a)
unfolding says_rounded IsOwn
own_ends s (Fix visits ps rounded) h = fix_ends s visits ps rounded
own_ends s (Grid p rounded) h = grid_ends s p rounded
own_ends s (Hold p rounded) h = absurd h
own_ends s (Refused r visits) h = absurd h

place_ends : (s : List ℕ) (a : RecordAnswer) (p : Place) → places_of a ≡ p ∷ [] → last_bytes 3 (line_of s a) ≡ field_of (says_rounded a)
unfolding says_rounded places_of
place_ends s (Fix visits ps rounded) p h = fix_ends s visits ps rounded
place_ends s (Grid q rounded) p h = grid_ends s q rounded
place_ends s (Hold q rounded) p h = hold_ends s q rounded
place_ends s (Refused r visits) p h = absurd (omega (arith, ap length h))

-- A hold after an answer with one place ends its line as that answer's line ends.
pub hold_as_before : (s t : List ℕ) (a : RecordAnswer) (p : Place) → places_of a ≡ p ∷ [] → last_bytes 3 (line_of s (hold_of (carried_by a))) ≡ last_bytes 3 (line_of t a)
unfolding only hold_of
hold_as_before s t a p one =
    ap (λ (ps : List Place). last_bytes 3 (line_of s (hold_of (only (says_rounded a) ps)))) one
    ∙ hold_ends s p (says_rounded a)
    ∙ sym (place_ends t a p one)

-- An answer printed as a fix or a grid record says what was given to it, and its record is accepted.
module _ (j : Job) (before : Option Carried) (rounded : Bool) where
  searched_says : (o : Outcome) → IsOwn (searched rounded o) → says_rounded (searched rounded o) ≡ rounded
  unfolding fix_with says_rounded IsOwn
  searched_says o h = go o.answer h
    where
      go : (a : Result Found Unfound) → IsOwn (fix_with rounded o.places a) → says_rounded (fix_with rounded o.places a) ≡ rounded
      go (Ok found) h = refl
      go (Err why) h = absurd h

  hold_not_own : (c : Option Carried) → IsOwn (hold_of c) → ⊥
  unfolding hold_of IsOwn
  hold_not_own (Some held) h = h
  hold_not_own None h = h

  own_says : (chain : Result Chain Refusal) (e : Result LogEntry Refusal) → IsOwn (answer_by j chain before rounded e) →
      (says_rounded (answer_by j chain before rounded e) ≡ rounded) × (is_accepted e ≡ true)
  unfolding answer_by fix_by IsOwn says_rounded is_accepted
  own_says (Ok c) (Ok (entry.Readings a b)) h = (searched_says _ h, refl)
  own_says (Err r) (Ok (entry.Readings a b)) h = absurd h
  own_says chain (Ok (entry.Place p)) h = (refl, refl)
  own_says chain (Ok entry.Hold) h = absurd (hold_not_own before h)
  own_says chain (Err r) h = absurd h

-- Of some numbers none was rounded exactly if each is exact.
first_and_rest : (m : Mark) (t : Bool) (P : Type 0) → (t ≡ false) ↔ P → ((is_rounded m || t) ≡ false) ↔ ((m ≡ Equal) × P)
unfolding is_rounded
first_and_rest Equal t P rest = ((λ e. (refl, rest.0 e)), (λ h. rest.1 h.1))
first_and_rest Below t P rest = ((λ e. absurd (subst T e tt)), (λ h. absurd (subst T (ap is_rounded h.0) tt)))
first_and_rest Above t P rest = ((λ e. absurd (subst T e tt)), (λ h. absurd (subst T (ap is_rounded h.0) tt)))

none_rounded : (xs : List Float) → (any_rounded (map mark_of xs) ≡ false) ↔ EachExact xs
unfolding any_rounded EachExact
none_rounded [] = ((λ e. tt), (λ e. refl))
none_rounded (x ∷ xs) = first_and_rest (mark_of x) (any_rounded (map mark_of xs)) (EachExact xs) (none_rounded xs)

-- So a fix or a grid record says that nothing was rounded exactly if each of its numbers is exact.
own_exact : (j : Job) (table scale : List ℕ) (before : Option Carried) (s : List ℕ) → IsOwn (answer_of j table scale before s) →
    (says_rounded (answer_of j table scale before s) ≡ false) ↔ EachExact (numbers_used (log_record_of s))
unfolding answer_of log_entry_of marks_of
own_exact j table scale before s own =
    let told = own_says j before (is_rounded_in s) (chain_of table scale (byte_at s 1)) (log_entry_of s) own in
    let marks : is_rounded_in s ≡ any_rounded (map mark_of (numbers_used (log_record_of s))) = rw told.1 in
    let says = told.0 ∙ marks in
    let exact = none_rounded (numbers_used (log_record_of s)) in
    ((λ e. exact.0 (sym says ∙ e)), (λ h. says ∙ exact.1 h))

-- What the last field shows: 0 or 1.
shows_0 : (rounded : Bool) → (field_of rounded ≡ bytes_in " 0\n") ↔ (rounded ≡ false)
unfolding flag_text bytes_in
shows_0 false = ((λ e. refl), (λ e. refl))
shows_0 true =
    ((λ e. let z : ◌≡◌ {A = ℕ} 49 48 = ap (λ (l : List ℕ). get_or l 1 0) e in absurd (omega arith)), (λ e. absurd (subst T e tt)))

shows_1 : (rounded : Bool) → (field_of rounded ≡ bytes_in " 1\n") ↔ (rounded ≡ false → ⊥)
unfolding flag_text bytes_in
shows_1 true = ((λ e z. subst T z tt), (λ e. refl))
shows_1 false =
    ((λ e. let z : ◌≡◌ {A = ℕ} 48 49 = ap (λ (l : List ℕ). get_or l 1 0) e in absurd (omega arith)), (λ e. absurd (e refl)))

pub own_field : (j : Job) (table scale : List ℕ) (before : Option Carried) (s : List ℕ) →
    let a = answer_of j table scale before s in
    let exact = EachExact (numbers_used (log_record_of s)) in
    IsOwn a →
    ((last_bytes 3 (line_of s a) ≡ bytes_in " 0\n") ↔ exact) × ((last_bytes 3 (line_of s a) ≡ bytes_in " 1\n") ↔ (exact → ⊥))
own_field j table scale before s own =
    let a = answer_of j table scale before s in
    let ends = own_ends s a own in
    let exact = own_exact j table scale before s own in
    let nought = shows_0 (says_rounded a) in
    let one = shows_1 (says_rounded a) in (
      ((λ e. exact.0 (nought.0 (sym ends ∙ e))), (λ h. ends ∙ nought.1 (exact.1 h))),
      ((λ e h. one.0 (sym ends ∙ e) (exact.1 h)), (λ h. ends ∙ one.1 (λ z. h (exact.0 z)))),
    )
