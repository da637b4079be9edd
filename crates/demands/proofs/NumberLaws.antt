-- Which refusal numbers an answer may have, and what a refused search leaves. The proofs go through the ways in which the
-- tests and the walk can end.
use Prim.Native.Nat.{ℕ, ◌-◌, ◌*◌, ◌≤◌}
use mathlib.Core.Path.{◌≡◌, refl, sym, ap, ◌∙◌, subst, subst⁻¹}
use mathlib.Core.Bool.{Bool, true, false, cond, ◌&&◌, ◌||◌, false≢true}
use mathlib.Core.List.{List, [], ◌∷◌}
use native.Mathlib.Omega.{arith}
use borrow.Author.Tests.{eqb-true, ne_eqb}
use lib.Dec.{leb, eqb}
use lib.IntN.{ℤ, pos}
use lib.Ieee.{Float}
use lib.ListN.{length, replicate, length-append, length-replicate}
use Rattle.std.specs.Prelude.{Option, Some, None, Result, Ok, Err}
use Rattle.refusals.specs.declared.Refusal.{Refusal}
use Rattle.refusals.specs.declared.Refusal.TheVariants as refusal
use Rattle.refusals.specs.Numbers.{refusal_number, number_told}
use Rattle.fields.specs.Choices.{where_so}
use Rattle.metres.specs.declared.Mark.TheVariants.{Equal}
use Rattle.metres.specs.Metres.{centimetres_of, whole_figures, length_figures, plus_zero}
use Rattle.metres.specs.Marks.{mark_by, mark_of}
use Rattle.chart.specs.declared.Place.{Place}
use Rattle.chart.specs.declared.Chain.{Chain}
use Rattle.chart.specs.Places.{in_range}
use Rattle.chart.specs.Chains.{is_sound}
use Rattle.chart.specs.Readings.{readings_of, expected_at, no_figures, figures_of}
use Rattle.chart.proofs.PlaceLaws.{both}
use Rattle.search.specs.declared.Window.{Window}
use Rattle.search.specs.declared.Found.{Found}
use Rattle.search.specs.declared.Unfound.{Unfound}
use Rattle.search.specs.declared.Unfound.TheVariants.{ReadingTooLarge, Unsound, BadWindow, BadTolerance, NoMatch, NoRoom, AllowanceUsed}
use Rattle.search.specs.Windows.{is_window}
use Rattle.search.specs.Questions.{Question, question_of, most_tolerance, none_too_large}
use Rattle.search.specs.Walk.{Halt, Full, Spent, Standing, start}
use Rattle.search.specs.Answers.{Outcome, refused, gone, ended, refusal_for, search_of, entries_of, list_of, search_figures}
use Rattle.search.specs.Cells.{matching_in, visits_in}
use Rattle.search.proofs.AnswerLaws.{ended_out, ended_full, ended-gone, length_entries}
use Rattle.search.proofs.Keeping.{visit_keeps}
use Rattle.search.proofs.Outcomes.{walk, Ending, early, done, full, out}
use Rattle.records.specs.declared.Job.{Job}
use Rattle.records.specs.declared.LogEntry.{LogEntry}
use Rattle.records.specs.declared.LogEntry.TheVariants as entry
use Rattle.records.specs.Bytes.{unless}
use Rattle.records.specs.Jobs.{job_bytes, job_in, job_of}
use Rattle.records.proofs.JobLaws.{zeros_kept, job_by_tests}
use Rattle.records.specs.Refusals.{is_among}
use Rattle.listing.specs.declared.Carried.{Carried}
use Rattle.listing.specs.declared.Listed.{Listed}
use Rattle.listing.specs.Answers.{searched, fix_with, fix_by, hold_of, answer_by, program_room}
use Rattle.listing.specs.Listings.{Part}
use Rattle.demands.specs.Numbers.{record_refusal, NoneOr, Refuses}

-- If every number of one list is in another list, then a number of the first list is in the second.
abbrev pub all_among : List ℕ → List ℕ → Bool
all_among [] numbers = true
all_among (n ∷ ns) numbers = is_among n numbers && all_among ns numbers

pub wider : (n : ℕ) (few many : List ℕ) → all_among few many ≡ true → is_among n few ≡ true → is_among n many ≡ true
unfolding is_among
wider n [] many all h = absurd (false≢true h)
wider n (m ∷ ms) many all h =
    let split = both (is_among m many) (all_among ms many) all in
    go (eqb n m) refl h split.0 (wider n ms many split.1)
  where
    go : (b : Bool) → eqb n m ≡ b → (b || is_among n ms) ≡ true → is_among m many ≡ true → (is_among n ms ≡ true → is_among n many ≡ true) → is_among n many ≡ true
    go true e h is rest = subst⁻¹ (λ (x : ℕ). is_among x many ≡ true) (eqb-true n m e) is
    go false e h is rest = rest h

-- A number that is not 0, and is 0 or one of `numbers`, is one of `numbers`.
pub some_number : (n : ℕ) (numbers : List ℕ) → NoneOr numbers n → Refuses n → is_among n numbers ≡ true
unfolding is_among
some_number n numbers h r = subst (λ (b : Bool). (b || is_among n numbers) ≡ true) (ne_eqb n 0 r) h

-- No refusal has the number 0.
pub numbered : (r : Refusal) → Refuses (refusal_number r)
numbered refusal.Length e = omega (arith, e)
numbered refusal.Form e = omega (arith, e)
numbered refusal.Number e = omega (arith, e)
numbered refusal.Place e = omega (arith, e)
numbered refusal.Chain e = omega (arith, e)
numbered refusal.Window e = omega (arith, e)
numbered refusal.Tolerance e = omega (arith, e)
numbered refusal.NoMatch e = omega (arith, e)
numbered refusal.NoRoom e = omega (arith, e)
numbered refusal.Allowance e = omega (arith, e)
numbered refusal.Hold e = omega (arith, e)
numbered refusal.Line e = omega (arith, e)

-- So an answer with a number is a refusal.
pub not_done : {A : Type 0} (a : Result A Refusal) (x : A) → Refuses (number_told a) → a ≡ Ok x → ⊥
not_done a x some e = some (ap number_told e)

-- Metres to centimetres, centimetres to metres, and the readings at a place: the refusal number, and the value after a
-- refusal.
pub whole_number : (a : Option ℤ) → NoneOr (3 ∷ []) (whole_figures a).refusal × (Refuses (whole_figures a).refusal → (whole_figures a).centimetres ≡ pos 0)
unfolding whole_figures is_among
whole_number (Some z) = (refl, λ r. absurd (r refl))
whole_number None = (refl, λ r. refl)

marked_by : (x : Float) (a : Option ℤ) → Refuses (whole_figures a).refusal → mark_by x a ≡ Equal
unfolding whole_figures mark_by
marked_by x (Some z) r = absurd (r refl)
marked_by x None r = refl

pub whole_marked : (x : Float) → Refuses (whole_figures (centimetres_of x)).refusal → mark_of x ≡ Equal
unfolding mark_of
whole_marked x = marked_by x (centimetres_of x)

pub length_number : (a : Option Float) → NoneOr (3 ∷ []) (length_figures a).refusal × (Refuses (length_figures a).refusal → (length_figures a).metres ≡ plus_zero)
unfolding length_figures is_among
length_number (Some x) = (refl, λ r. absurd (r refl))
length_number None = (refl, λ r. refl)

pub readings_number : (c : Chain) (p : Place) →
    let f = figures_of (expected_at c p) in
    NoneOr (4 ∷ 5 ∷ []) f.refusal × (Refuses f.refusal → f ≡ no_figures f.refusal)
unfolding expected_at figures_of is_among
readings_number c p = go (in_range p) (is_sound c)
  where
    go : (s t : Bool) →
        let f = figures_of (cond s (cond t (Ok (readings_of c p)) (Err refusal.Chain)) (Err refusal.Place)) in
        NoneOr (4 ∷ 5 ∷ []) f.refusal × (Refuses f.refusal → f ≡ no_figures f.refusal)
    go true true = (refl, λ r. absurd (r refl))
    go true false = (refl, λ r. refl)
    go false t = (refl, λ r. refl)

-- A listing that has room in its buffer (b is true), and one that has not.
pub listed_number : (b : Bool) (p : Part) (held text : List ℕ) →
    let answer : Result Listed Refusal = cond b (Ok (record { length = length p.text; carried = p.carried })) (Err refusal.NoRoom) in
    NoneOr (9 ∷ []) (number_told answer) × (Refuses (number_told answer) → cond b text held ≡ held)
unfolding is_among
listed_number true p held text = (refl, λ r. absurd (r refl))
listed_number false p held text = (refl, λ r. refl)

-- If P holds of both results of a test, or of the one that the test selects, it holds after the test.
module _ (P : Outcome → Type 0) where
  tested : (b : Bool) (a : Unfound) (rest : Unit {0} → Outcome) → P (refused a) → P (rest tt) → P (where_so b (refused a) rest)
  tested true a rest h k = k
  tested false a rest h k = h

  passed : (b : Bool) (a : Unfound) (rest : Unit {0} → Outcome) → b ≡ true → P (rest tt) → P (where_so b (refused a) rest)
  passed b a rest e h = subst⁻¹ (λ (x : Bool). P (where_so x (refused a) rest)) e h

  pub at_end_lem : (s : Standing) → P (refused (AllowanceUsed s.visits)) → P (refused (NoRoom s.visits)) → P (gone s.places s.visits) → P (ended s)
  at_end_lem s h k l = go s.stop refl
    where
      go : (stop : Option Halt) → s.stop ≡ stop → P (ended s)
      go (Some Spent) e = subst⁻¹ P (ended_out s e) h
      go (Some Full) e = subst⁻¹ P (ended_full s e) k
      go None e = subst⁻¹ P (ended-gone s e) l

  -- The same for every search, and for a search whose window and tolerance pass their tests.
  module _ (q : Question) (w : Window) where
    pub any_search : P (refused ReadingTooLarge) → P (refused Unsound) → P (refused BadWindow) → P (refused BadTolerance) →
        ((v : ℕ) → P (refused (AllowanceUsed v))) → ((v : ℕ) → P (refused (NoRoom v))) → P (gone (walk q w).places (walk q w).visits) →
        P (search_of q w)
    unfolding search_of
    any_search three five six seven ten nine on =
        tested (none_too_large q.rule.wanted) ReadingTooLarge _ three
        (tested (is_sound q.rule.chain) Unsound _ five
        (tested (is_window w) BadWindow _ six
        (tested (leb q.rule.tolerance most_tolerance) BadTolerance _ seven (at_end_lem (walk q w) (ten _) (nine _) on))))

    pub good_search : is_window w ≡ true → leb q.rule.tolerance most_tolerance ≡ true →
        P (refused ReadingTooLarge) → P (refused Unsound) →
        ((v : ℕ) → P (refused (AllowanceUsed v))) → ((v : ℕ) → P (refused (NoRoom v))) → P (gone (walk q w).places (walk q w).visits) →
        P (search_of q w)
    unfolding search_of
    good_search window tolerance three five ten nine on =
        tested (none_too_large q.rule.wanted) ReadingTooLarge _ three
        (tested (is_sound q.rule.chain) Unsound _ five
        (passed (is_window w) BadWindow _ window
        (passed (leb q.rule.tolerance most_tolerance) BadTolerance _ tolerance (at_end_lem (walk q w) (ten _) (nine _) on))))

-- Every answer of a search has the number 0 or one of these.
pub search_number : (a : Result Found Unfound) → NoneOr (3 ∷ 5 ∷ 6 ∷ 7 ∷ 8 ∷ 9 ∷ 10 ∷ []) (search_figures a).refusal
unfolding search_figures is_among
search_number (Ok f) = refl
search_number (Err ReadingTooLarge) = refl
search_number (Err Unsound) = refl
search_number (Err BadWindow) = refl
search_number (Err BadTolerance) = refl
search_number (Err (NoMatch visits)) = refl
search_number (Err (NoRoom visits)) = refl
search_number (Err (AllowanceUsed visits)) = refl

-- Every answer without a place has a number.
pub unfound_number : (why : Unfound) → Refuses (search_figures (Err why)).refusal
unfolding search_figures
unfound_number why = numbered (refusal_for why)

-- A search that is refused lists nothing.
pub refused_lists : (q : Question) (w : Window) (o : Outcome) → Ending q w o → Refuses (search_figures o.answer).refusal → o.places ≡ []
unfolding search_figures
refused_lists q w _ (early a f) r = refl
refused_lists q w _ (done ok most) r = go (matching_in q.rule w) r
  where
    go : (ps : List Place) → Refuses (search_figures (gone ps (visits_in q.rule w)).answer).refusal → (gone ps (visits_in q.rule w)).places ≡ []
    go [] r = refl
    go (p ∷ ps) r = absurd (r refl)
refused_lists q w _ (full v most) r = refl
refused_lists q w _ out r = refl

-- One that is refused before its walk makes no visit.
pub refused_early : (q : Question) (w : Window) (o : Outcome) → Ending q w o → is_among (search_figures o.answer).refusal (3 ∷ 5 ∷ 6 ∷ 7 ∷ []) ≡ true → (search_figures o.answer).visits ≡ 0
unfolding search_figures is_among
refused_early q w _ (early a f) r = f.unvisited
refused_early q w _ (done ok most) r = go (matching_in q.rule w) r
  where
    go : (ps : List Place) → is_among (search_figures (gone ps (visits_in q.rule w)).answer).refusal (3 ∷ 5 ∷ 6 ∷ 7 ∷ []) ≡ true → (search_figures (gone ps (visits_in q.rule w)).answer).visits ≡ 0
    go [] r = absurd (false≢true r)
    go (p ∷ ps) r = absurd (false≢true r)
refused_early q w _ (full v most) r = absurd (false≢true r)
refused_early q w _ out r = absurd (false≢true r)

-- One that is not refused lists a place or more.
pub answered_lists : (q : Question) (w : Window) → (search_figures (search_of q w).answer).refusal ≡ 0 → 1 ≤ (search_figures (search_of q w).answer).count
unfolding search_figures
answered_lists q w =
    any_search (λ (o : Outcome). (search_figures o.answer).refusal ≡ 0 → 1 ≤ (search_figures o.answer).count) q w
    (λ e. absurd (omega arith)) (λ e. absurd (omega arith)) (λ e. absurd (omega arith)) (λ e. absurd (omega arith))
    (λ v e. absurd (omega arith)) (λ v e. absurd (omega arith))
    (go (walk q w).places (walk q w).visits)
  where
    go : (ps : List Place) (v : ℕ) → (search_figures (gone ps v).answer).refusal ≡ 0 → 1 ≤ (search_figures (gone ps v).answer).count
    go [] v e = absurd (omega arith)
    go (p ∷ ps) v e = omega arith

-- No list has more places than there is room for.
pub room_kept : (q : Question) (w : Window) → length (search_of q w).places ≤ q.limits.room
room_kept q w =
    any_search (λ (o : Outcome). length o.places ≤ q.limits.room) q w
    (omega arith) (omega arith) (omega arith) (omega arith) (λ v. omega arith) (λ v. omega arith)
    (go (walk q w).places (walk q w).visits walked)
  where
    walked : length (walk q w).places ≤ q.limits.room
    walked =
        visit_keeps q (λ (s : Standing). length s.places ≤ q.limits.room)
        (record {
          out = λ s h o. h;
          count = λ s h z l. h;
          full = λ s h r. h;
          list = λ p s h r. omega (arith, length-append s.places (p ∷ []));
        })
        w.k w.corner start (omega arith)

    go : (ps : List Place) (v : ℕ) → length ps ≤ q.limits.room → length (gone ps v).places ≤ q.limits.room
    go [] v h = h
    go (p ∷ ps) v h = h

-- A list keeps its length if it has room for the places.
pub list_length : (n : ℕ) (ps : List Place) → 2 * length ps ≤ n → length (list_of n ps) ≡ n
unfolding list_of
list_length n ps h =
    length-append (entries_of ps) (replicate (n - 2 * length ps) 0)
    ∙ omega (arith, length_entries ps, length-replicate {A = ℕ} (n - 2 * length ps) 0)

-- The window and the tolerance of an accepted job pass the tests of a search.
pub job_good : (s : List ℕ) (j : Job) → job_of s ≡ Ok j → (is_window j.window ≡ true) × (leb j.tolerance most_tolerance ≡ true)
job_good s j e = go (eqb (length s) job_bytes) (zeros_kept s) (is_window (job_in s).window) (leb (job_in s).tolerance most_tolerance) refl refl (sym (job_by_tests s) ∙ e)
  where
    go : (a b c d : Bool) → is_window (job_in s).window ≡ c → leb (job_in s).tolerance most_tolerance ≡ d →
        unless a (Err refusal.Length) (unless b (Err refusal.Form) (unless c (Err refusal.Window) (unless d (Err refusal.Tolerance) (Ok (job_in s))))) ≡ Ok j →
        (is_window j.window ≡ true) × (leb j.tolerance most_tolerance ≡ true)
    go false b c d ec ed e = (cc, cc)
    go true false c d ec ed e = (cc, cc)
    go true true false d ec ed e = (cc, cc)
    go true true true false ec ed e = (cc, cc)
    go true true true true ec ed e =
        let same : job_in s ≡ j = cc in
        subst (λ (x : Job). (is_window x.window ≡ true) × (leb x.tolerance most_tolerance ≡ true)) same (ec, ed)

-- The refusal numbers that the answer to a record of a log may have.
abbrev pub record_numbers : List ℕ
record_numbers = 1 ∷ 2 ∷ 3 ∷ 4 ∷ 5 ∷ 8 ∷ 9 ∷ 10 ∷ 11 ∷ []

module _ (j : Job) (window : is_window j.window ≡ true) (tolerance : leb j.tolerance most_tolerance ≡ true) where
  fix_number : (readings : List ℤ) (rounded : Bool) (chain : Result Chain Refusal) → is_among (number_told chain) (0 ∷ 1 ∷ 5 ∷ []) ≡ true → NoneOr record_numbers (record_refusal (fix_by j readings rounded chain))
  unfolding fix_by fix_with record_refusal is_among
  fix_number readings rounded (Err r) h = wider (refusal_number r) (0 ∷ 1 ∷ 5 ∷ []) (0 ∷ record_numbers) refl h
  fix_number readings rounded (Ok c) h =
      let q : Question = question_of c readings j.tolerance j.allowance (2 * program_room) in
      good_search (λ (o : Outcome). NoneOr record_numbers (record_refusal (searched rounded o))) q j.window window tolerance
      refl refl (λ v. refl) (λ v. refl) (go (walk q j.window).places (walk q j.window).visits)
    where
      go : (ps : List Place) (v : ℕ) → NoneOr record_numbers (record_refusal (searched rounded (gone ps v)))
      go [] v = refl
      go (p ∷ ps) v = refl

  hold_number : (before : Option Carried) → NoneOr record_numbers (record_refusal (hold_of before))
  unfolding hold_of record_refusal is_among
  hold_number (Some held) = refl
  hold_number None = refl

  pub answer_number : (chain : Result Chain Refusal) (before : Option Carried) (rounded : Bool) (e : Result LogEntry Refusal) →
      is_among (number_told chain) (0 ∷ 1 ∷ 5 ∷ []) ≡ true → is_among (number_told e) (0 ∷ 1 ∷ 2 ∷ 3 ∷ 4 ∷ []) ≡ true →
      NoneOr record_numbers (record_refusal (answer_by j chain before rounded e))
  unfolding answer_by record_refusal is_among
  answer_number chain before rounded (Ok (entry.Readings a b)) h k = fix_number (a ∷ b ∷ []) rounded chain h
  answer_number chain before rounded (Ok (entry.Place p)) h k = refl
  answer_number chain before rounded (Ok entry.Hold) h k = hold_number before
  answer_number chain before rounded (Err r) h k = wider (refusal_number r) (0 ∷ 1 ∷ 2 ∷ 3 ∷ 4 ∷ []) (0 ∷ record_numbers) refl k
