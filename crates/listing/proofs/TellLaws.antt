-- What a record answers, as it is returned, with its places in a list.
use Prim.Native.Nat.{ℕ, ◌-◌, ◌*◌, ◌≤◌}
use mathlib.Core.Path.{◌≡◌, refl, sym, ap, ap₂, ◌∙◌, subst, subst⁻¹}
use mathlib.Core.Bool.{Bool}
use mathlib.Core.List.{List, [], ◌∷◌}
use native.Mathlib.Omega.{arith}
use lib.IntN.{ℤ}
use lib.ListN.{length, get_or, take, set, replicate, length-append}
use lib.Seq.{take_at, get_or-take}
use Rattle.std.specs.Prelude.{Option, Some, None, Result, Ok, Err, IfOk}
use Rattle.refusals.specs.declared.Refusal.{Refusal}
use Rattle.chart.specs.declared.Place.{Place}
use Rattle.chart.specs.declared.Chain.{Chain}
use Rattle.search.specs.declared.Found.{Found}
use Rattle.search.specs.declared.Unfound.{Unfound}
use Rattle.search.specs.declared.Stopped.{Stopped}
use Rattle.search.specs.Answers.{Outcome, search_of, entries_of, list_of, refusal_for, visits_before, search_figures}
use Rattle.search.specs.Questions.{Question, question_of}
use Rattle.search.proofs.AnswerLaws.{length_entries}
use Rattle.search.proofs.Theorems.{listed_are_counted}
use Rattle.records.specs.declared.Job.{Job}
use Rattle.records.specs.declared.LogEntry.{LogEntry}
use Rattle.records.specs.declared.MarkedEntry.{MarkedEntry}
use Rattle.records.specs.Bytes.{byte_at}
use Rattle.records.specs.Marks.{any_rounded, marked_entry_of}
use Rattle.records.proofs.MarkLaws.{rounded_read, entry_read}
use Rattle.records.specs.ChainTables.{chain_of}
use Rattle.listing.specs.declared.Carried.{Carried}
use Rattle.listing.specs.declared.Word.TheVariants as word
use Rattle.listing.specs.declared.Told.{Told}
use Rattle.listing.specs.Answers.{RecordAnswer, Fix, Grid, Hold, Refused, program_room, fix_with, searched, fix_by, answer_by, answer_of, places_of, says_rounded, only, carried_by}
use Rattle.listing.specs.Putting.{Begins, Tells, list_entries, told_of, told_found}

-- A list that begins with one place, or with none.
one_first : (p : Place) (l : List ℕ) → take 2 l ≡ p.easting ∷ p.northing ∷ [] → Begins (p ∷ []) l
unfolding entries_of
one_first p l e = record { few = omega arith; entries = e }

none_first : (l : List ℕ) → Begins [] l
unfolding entries_of
none_first l = record { few = omega arith; entries = refl }

-- A refused answer, one with a single place, and a fix.
pub refused_tells : (why : Refusal) (visits : ℕ) (l : List ℕ) → Tells (Refused why visits) (Err (record { refusal = why; visits = visits })) l
unfolding told_of places_of
refused_tells why visits l = record { told = refl; places = none_first l }

pub grid_tells : (p : Place) (rounded : Bool) (l : List ℕ) → take 2 l ≡ p.easting ∷ p.northing ∷ [] → Tells (Grid p rounded) (Ok (record { word = word.Grid; count = 1; visits = 0; rounded = rounded })) l
unfolding told_of places_of
grid_tells p rounded l e = record { told = refl; places = one_first p l e }

pub hold_tells : (p : Place) (rounded : Bool) (l : List ℕ) → take 2 l ≡ p.easting ∷ p.northing ∷ [] → Tells (Hold p rounded) (Ok (record { word = word.Hold; count = 1; visits = 0; rounded = rounded })) l
unfolding told_of places_of
hold_tells p rounded l e = record { told = refl; places = one_first p l e }

fix_tells : (visits : ℕ) (ps : List Place) (rounded : Bool) (count : ℕ) (l : List ℕ) → count ≡ length ps → Begins ps l → Tells (Fix visits ps rounded) (Ok (record { word = word.Fix; count = count; visits = visits; rounded = rounded })) l
unfolding told_of places_of
fix_tells visits ps rounded count l e b = record { told = ap (λ (n : ℕ). Ok (record { word = word.Fix; count = n; visits = visits; rounded = rounded })) e; places = b }

-- The list of a search begins with its places.
search_first : (ps : List Place) (l : List ℕ) → length l ≡ list_entries → l ≡ list_of list_entries ps → Begins ps l
unfolding list_of
search_first ps l size e =
    let rest : List ℕ = replicate (list_entries - 2 * length ps) 0 in
    record {
      few = omega (arith, size, ap length e, length-append (entries_of ps) rest, length_entries ps);
      entries =
          ap (λ (x : List ℕ). take (2 * length ps) x) e
          ∙ take_at (entries_of ps) rest (2 * length ps) (length_entries ps);
    }

-- The only place of a list is in its first two entries.
only_none : (rounded : Bool) (ps : List Place) → (length ps ≡ 1 → ⊥) → None ≡ only rounded ps
unfolding only
only_none rounded [] h = refl
only_none rounded (p ∷ []) h = absurd (h refl)
only_none rounded (p ∷ q ∷ ps) h = refl

only_one : (rounded : Bool) (ps : List Place) (l : List ℕ) → length ps ≡ 1 → Begins ps l → Some (record { place = record { easting = get_or l 0 0; northing = get_or l 1 0 }; rounded = rounded }) ≡ only rounded ps
unfolding only entries_of
only_one rounded [] l h b = absurd (omega (arith, h))
only_one rounded (p ∷ []) l h b =
    let e : take 2 l ≡ p.easting ∷ p.northing ∷ [] = b.entries in
    ap₂ (λ (x y : ℕ). Some (record { place = record { easting = x; northing = y }; rounded = rounded }))
    (sym (get_or-take 2 l 0 0 (omega arith)) ∙ ap (λ (x : List ℕ). get_or x 0 0) e)
    (sym (get_or-take 2 l 1 0 (omega arith)) ∙ ap (λ (x : List ℕ). get_or x 1 0) e)
only_one rounded (p ∷ q ∷ ps) l h b = absurd (omega (arith, h))

-- Two entries that are set at the start of a list are its first two.
pub two_first : (l : List ℕ) (e n : ℕ) → 2 ≤ length l → take 2 (set (set l 0 e) 1 n) ≡ e ∷ n ∷ []
two_first [] e n h = absurd (omega (arith, h))
two_first (a ∷ []) e n h = absurd (omega (arith, h))
two_first (a ∷ b ∷ l) e n h = refl

-- What is told of an answer that has places: their count, which the list has room for, and the last field.
told_ok : (a : RecordAnswer) (x : Told) → Ok x ≡ told_of a → (x.count ≡ length (places_of a)) × (x.rounded ≡ says_rounded a)
unfolding told_of places_of says_rounded
told_ok (Fix visits ps rounded) x e =
    let same : x ≡ record { word = word.Fix; count = length ps; visits = visits; rounded = rounded } = cc in
    (ap (λ (t : Told). t.count) same, ap (λ (t : Told). t.rounded) same)
told_ok (Grid p rounded) x e =
    let same : x ≡ record { word = word.Grid; count = 1; visits = 0; rounded = rounded } = cc in
    (ap (λ (t : Told). t.count) same, ap (λ (t : Told). t.rounded) same)
told_ok (Hold p rounded) x e =
    let same : x ≡ record { word = word.Hold; count = 1; visits = 0; rounded = rounded } = cc in
    (ap (λ (t : Told). t.count) same, ap (λ (t : Told). t.rounded) same)
told_ok (Refused why visits) x e = absurd cc

pub few_told : (a : RecordAnswer) (t : Result Told Stopped) (l : List ℕ) → Tells a t l → IfOk t (λ (x : Told). x.count ≤ program_room)
few_told a (Ok x) l h = omega (arith, (told_ok a x h.told).0, h.places.few)
few_told a (Err s) l h = tt

-- What is carried on from an answer: nothing if it is refused or has not exactly one place, else the place in the first two entries.
pub carried_refused : (a : RecordAnswer) (t : Result Told Stopped) (l : List ℕ) (s : Stopped) → t ≡ Err s → Tells a t l → None ≡ carried_by a
unfolding told_of places_of says_rounded only
carried_refused (Fix visits ps rounded) t l s e h = let told : t ≡ told_of (Fix visits ps rounded) = h.told in absurd cc
carried_refused (Grid p rounded) t l s e h = let told : t ≡ told_of (Grid p rounded) = h.told in absurd cc
carried_refused (Hold p rounded) t l s e h = let told : t ≡ told_of (Hold p rounded) = h.told in absurd cc
carried_refused (Refused why visits) t l s e h = refl

pub carried_others : (a : RecordAnswer) (t : Result Told Stopped) (l : List ℕ) (x : Told) → t ≡ Ok x → (x.count ≡ 1 → ⊥) → Tells a t l → None ≡ carried_by a
carried_others a t l x e more h =
    let told = told_ok a x (sym e ∙ h.told) in
    only_none (says_rounded a) (places_of a) (λ one. more (told.0 ∙ one))

pub carried_one : (a : RecordAnswer) (t : Result Told Stopped) (l : List ℕ) (x : Told) → t ≡ Ok x → x.count ≡ 1 → Tells a t l →
    Some (record { place = record { easting = get_or l 0 0; northing = get_or l 1 0 }; rounded = x.rounded }) ≡ carried_by a
carried_one a t l x e one h =
    let told = told_ok a x (sym e ∙ h.told) in
    ap (λ (b : Bool). Some (record { place = record { easting = get_or l 0 0; northing = get_or l 1 0 }; rounded = b })) told.1
    ∙ only_one (says_rounded a) (places_of a) l (sym told.0 ∙ one) h.places

-- What a search answers, with its places in the program's list.
found_tells : (rounded : Bool) (places : List Place) (answer : Result Found Unfound) (l : List ℕ) → IfOk answer (λ (f : Found). f.count ≡ length places) → Begins places l →
    Tells (fix_with rounded places answer) (told_found rounded answer) l
unfolding fix_with told_found
found_tells rounded places (Ok f) l counted b = fix_tells f.visits places rounded f.count l counted b
found_tells rounded places (Err why) l counted b = refused_tells (refusal_for why) (visits_before why) l

-- A search counts the places that it lists.
count_shown : (answer : Result Found Unfound) (n : ℕ) → (search_figures answer).count ≡ n → IfOk answer (λ (f : Found). f.count ≡ n)
unfolding search_figures
count_shown (Ok f) n e = e
count_shown (Err why) n e = tt

-- Equal answers are told alike, and what is told of an answer may be given in another way.
pub tells_as : {a b : RecordAnswer} {t : Result Told Stopped} {l : List ℕ} → a ≡ b → Tells a t l → Tells b t l
tells_as {a} {b} {t} {l} e h = subst (λ (x : RecordAnswer). Tells x t l) e h

pub told_as : {a : RecordAnswer} {t u : Result Told Stopped} {l : List ℕ} → t ≡ u → Tells a u l → Tells a t l
told_as {a} {t} {u} {l} e h = subst⁻¹ (λ (x : Result Told Stopped). Tells a x l) e h

-- A fix by a chain of the table: the answer of its search, with the program's list.
pub fix_answers : (j : Job) (rounded : Bool) (chain : Result Chain Refusal) (c : Chain) (a b a' b' : ℤ) (n : ℕ) → chain ≡ Ok c → a' ≡ a → b' ≡ b → n ≡ list_entries →
    let o = search_of (question_of c (a' ∷ b' ∷ []) j.tolerance j.allowance n) j.window in
    (answer : Result Found Unfound) (t : Result Told Stopped) (l : List ℕ) → answer ≡ o.answer → l ≡ list_of n o.places → length l ≡ list_entries → t ≡ told_found rounded answer →
    Tells (fix_by j (a ∷ b ∷ []) rounded chain) t l
unfolding fix_by
fix_answers j rounded chain c a b a' b' n chained first second entries answer t l answered list size told =
    let asked : ℤ → ℤ → ℕ → Question = λ x y m. question_of c (x ∷ y ∷ []) j.tolerance j.allowance m in
    let same : asked a' b' n ≡ asked a b list_entries = ap₂ (λ (x y : ℤ). asked x y n) first second ∙ ap (asked a b) entries in
    let o : Outcome = search_of (asked a' b' n) j.window in
    tells_as (ap (λ (q : Question). searched rounded (search_of q j.window)) same ∙ sym (ap (fix_by j (a ∷ b ∷ []) rounded) chained))
    (told_as (told ∙ ap (told_found rounded) answered)
    (found_tells rounded o.places o.answer l (count_shown o.answer (length o.places) (listed_are_counted (asked a' b' n) j.window)) (search_first o.places l size (list ∙ ap (λ (m : ℕ). list_of m o.places) entries))))

pub fix_same : (j : Job) (rounded : Bool) (a b a' b' : ℤ) (x y : Result Chain Refusal) → a' ≡ a → b' ≡ b → x ≡ y → fix_by j (a' ∷ b' ∷ []) rounded x ≡ fix_by j (a ∷ b ∷ []) rounded y
fix_same j rounded a b a' b' x y first second e = ap₂ (λ (u v : ℤ). fix_by j (u ∷ v ∷ []) rounded x) first second ∙ ap (fix_by j (a ∷ b ∷ []) rounded) e

-- What a record answers, when it was read as `m` and its entry is `e`.
pub answer_by_lem : (j : Job) (table scale : List ℕ) (before : Option Carried) (s : List ℕ) (m : MarkedEntry) (rounded : Bool) (e : Result LogEntry Refusal) →
    m ≡ marked_entry_of s → rounded ≡ any_rounded (m.first ∷ m.second ∷ []) → m.entry ≡ e →
    answer_by j (chain_of table scale (byte_at s 1)) before rounded e ≡ answer_of j table scale before s
unfolding answer_of
answer_by_lem j table scale before s m rounded e read flag is =
    ap₂ (answer_by j (chain_of table scale (byte_at s 1)) before) (flag ∙ rounded_read s m read) (sym (entry_read s m read ∙ is))
