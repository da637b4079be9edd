-- What the library for C returns for each answer: the same refusal number, and zeros after a refusal.
use Prim.Native.Nat.{ℕ}
use mathlib.Core.Path.{◌≡◌, refl, sym, ap, ◌∙◌, subst}
use mathlib.Core.Bool.{Bool, true, false, ◌&&◌, false≢true}
use mathlib.Core.List.{List, [], ◌∷◌}
use lib.Dec.{eqb}
use lib.IntN.{ℤ, pos}
use lib.ListN.{length, replicate}
use Rattle.std.specs.Prelude.{None, Result, Ok, Err}
use Rattle.refusals.specs.declared.Refusal.{Refusal}
use Rattle.refusals.specs.declared.Refusal.TheVariants as refusal
use Rattle.refusals.specs.Numbers.{refusal_number, number_told}
use borrow.Author.Tests.{eqb-true, ne_eqb}
use Rattle.chart.specs.declared.Place.{Place}
use Rattle.chart.specs.declared.Chain.{Chain}
use Rattle.chart.specs.declared.Figures.{Figures}
use Rattle.chart.specs.Chains.{stations_of, is_sound}
use Rattle.chart.specs.Readings.{expected_at, figures_of}
use Rattle.search.specs.declared.Window.{Window}
use Rattle.search.specs.declared.HowMany.{HowMany}
use Rattle.search.specs.declared.HowMany.TheVariants as many
use Rattle.search.specs.declared.Stopped.{Stopped}
use Rattle.search.specs.Questions.{Rule, Question, rule_of, question_of}
use Rattle.search.specs.Answers.{entries_of, refusal_for, figures_in}
use Rattle.search.proofs.CountLaws.{Counting, early, none, one, several, out, counting}
use Rattle.records.specs.Bytes.{are_zero, unless}
use Rattle.records.specs.ChainTables.{chain_bytes, chain_at, raw_chain_of}
use Rattle.records.specs.Jobs.{job_bytes, job_in, formed_job_of, many_by}
use Rattle.writing.specs.ChainWriting.{chain_refusal_of}
use Rattle.writing.proofs.Theorems.{chain_write_refusals, refused_chain_zeros}
use Rattle.records.specs.declared.RawRecord.{RawRecord}
use Rattle.records.specs.declared.LogRecord.{LogRecord}
use Rattle.records.specs.declared.LogEntry.{LogEntry}
use Rattle.records.specs.declared.LogEntry.TheVariants as entry
use Rattle.records.specs.declared.Job.{Job}
use Rattle.records.specs.Refusals.{is_among}
use Rattle.listing.specs.declared.Listed.{Listed}
use Rattle.records.specs.LogRecords.{in_centimetres}
use Rattle.records.specs.Marks.{is_accepted, marks_of, with_marks_of}
use Rattle.lay.specs.Figures.{job_by, chain_numbers, chain_with, chain_by, refused_with, chain_lent, stations_lent, chain_readings, readings_lent, expected_lent, unsearched, searched_by, searched_in, search_told, many_figures, asked_in, mark_figure, entry_figures, marked_figures, record_by, count_figures, job_answered, held_figures, listed_figures, factor_after}
use Rattle.demands.specs.Numbers.{NoneOr, Refuses, Leaves, search_numbers, SearchIsTold, many_numbers, ManyIsTold}
use Rattle.demands.proofs.NumberLaws.{not_done, wider, readings_number}
use Rattle.demands.proofs.CountingLaws.{early_number}

-- After a refusal every figure but the line number is 0.
entry_told : (line chain : ℕ) (e : Result LogEntry Refusal) (numbers : List ℕ) → NoneOr numbers (number_told e) →
    let f = entry_figures line chain e in
    NoneOr numbers f.refusal × (Refuses f.refusal → (f.kind ≡ 0) × (f.chain ≡ 0) × (f.x ≡ pos 0) × (f.y ≡ pos 0))
unfolding entry_figures
entry_told line chain (Ok (entry.Readings a b)) numbers h = (h, λ r. absurd (r refl))
entry_told line chain (Ok (entry.Place p)) numbers h = (h, λ r. absurd (r refl))
entry_told line chain (Ok entry.Hold) numbers h = (h, λ r. absurd (r refl))
entry_told line chain (Err why) numbers h = (h, λ r. (refl, refl, refl, refl))

pub record_told : (r : Result RawRecord Refusal) (q : Result LogRecord Refusal) → NoneOr (1 ∷ []) (number_told r) → NoneOr (1 ∷ 2 ∷ 3 ∷ 4 ∷ []) (number_told (in_centimetres q)) →
    let f = (record_by r (with_marks_of q)).entry in
    NoneOr (1 ∷ 2 ∷ 3 ∷ 4 ∷ []) f.refusal × (Refuses f.refusal → (f.kind ≡ 0) × (f.chain ≡ 0) × (f.x ≡ pos 0) × (f.y ≡ pos 0))
unfolding record_by marked_figures with_marks_of is_among
record_told (Ok r) q h k = entry_told r.line r.chain (in_centimetres q) (1 ∷ 2 ∷ 3 ∷ 4 ∷ []) k
record_told (Err why) q h k =
    entry_told 0 0 (Err why) (1 ∷ 2 ∷ 3 ∷ 4 ∷ []) (wider (refusal_number why) (0 ∷ 1 ∷ []) (0 ∷ 1 ∷ 2 ∷ 3 ∷ 4 ∷ []) refl h)

-- And so are both marks.
not_accepted : (line chain : ℕ) (e : Result LogEntry Refusal) → Refuses (entry_figures line chain e).refusal → is_accepted e ≡ false
unfolding entry_figures is_accepted
not_accepted line chain (Ok (entry.Readings a b)) r = absurd (r refl)
not_accepted line chain (Ok (entry.Place p)) r = absurd (r refl)
not_accepted line chain (Ok entry.Hold) r = absurd (r refl)
not_accepted line chain (Err why) r = refl

pub marks_told : (r : Result RawRecord Refusal) (q : Result LogRecord Refusal) →
    let f = record_by r (with_marks_of q) in
    Refuses f.entry.refusal → (f.xmark ≡ 0) × (f.ymark ≡ 0)
unfolding record_by marked_figures with_marks_of marks_of mark_figure
marks_told (Ok r) q some = rw (not_accepted r.line r.chain (in_centimetres q) some) (refl, refl)
marks_told (Err why) q some = (refl, refl)

pub count_told_lem : (a : Result ℕ Refusal) (numbers : List ℕ) → NoneOr numbers (number_told a) →
    let f = count_figures a in
    NoneOr numbers f.refusal × (Refuses f.refusal → f.count ≡ 0)
unfolding count_figures
count_told_lem (Ok n) numbers h = (h, λ r. absurd (r refl))
count_told_lem (Err why) numbers h = (h, λ r. refl)

-- The bytes of a chain.
pub chain_told_lem : (bytes : ℕ) (a : Result Chain Refusal) → NoneOr (1 ∷ 5 ∷ []) (number_told a) →
    let l = chain_lent bytes a in
    NoneOr (1 ∷ 5 ∷ []) l.refusal × (Refuses l.refusal → l.holds ≡ replicate bytes 0)
unfolding chain_lent
chain_told_lem bytes (Ok c) h = (chain_write_refusals bytes c, λ some. refused_chain_zeros bytes c (not_done (chain_refusal_of bytes c) tt some))
chain_told_lem bytes (Err why) h = (h, λ r. refl)

-- After a refusal there is no factor.
pub no_factor : (refusal : ℕ) (a : Result Chain Refusal) → Refuses refusal → factor_after refusal a ≡ 0
unfolding factor_after
no_factor refusal (Ok c) some = rw (ne_eqb refusal 0 some)
no_factor refusal (Err why) some = refl

-- A chain given by its stations, and one given by its bytes: it is refused only if there are too few or too many of them.
pub stations_counted : (s : List ℕ) (factor : ℕ) → NoneOr (1 ∷ 5 ∷ []) (number_told (chain_by s factor))
unfolding chain_by is_among
stations_counted s factor = go (eqb (length s) chain_numbers)
  where
    go : (t : Bool) → NoneOr (1 ∷ 5 ∷ []) (number_told (unless t (Err refusal.Length) (Ok (chain_with s factor))))
    go true = refl
    go false = refl

pub bytes_counted : (s : List ℕ) (factor : ℕ) → NoneOr (1 ∷ []) (number_told (raw_chain_of s factor))
unfolding raw_chain_of is_among
bytes_counted s factor = go (eqb (length s) chain_bytes)
  where
    go : (t : Bool) → NoneOr (1 ∷ []) (number_told (unless t (Err refusal.Length) (Ok (chain_at s 0 factor))))
    go true = refl
    go false = refl

-- The stations of a chain.
pub stations_told_lem : (entries : ℕ) (a : Result Chain Refusal) → NoneOr (1 ∷ []) (number_told a) →
    let l = stations_lent entries a in
    NoneOr (1 ∷ 5 ∷ []) l.refusal × (Refuses l.refusal → l.holds ≡ replicate entries 0)
unfolding stations_lent is_among
stations_told_lem entries (Ok c) h = go (eqb entries chain_numbers) (is_sound c)
  where
    go : (t u : Bool) →
        let l = unless t (refused_with refusal.Length entries) (unless u (refused_with refusal.Chain entries) (record { refusal = 0; holds = entries_of (stations_of c) })) in
        NoneOr (1 ∷ 5 ∷ []) l.refusal × (Refuses l.refusal → l.holds ≡ replicate entries 0)
    go false u = (refl, λ r. refl)
    go true false = (refl, λ r. refl)
    go true true = (refl, λ r. absurd (r refl))
stations_told_lem entries (Err why) h = (wider (refusal_number why) (0 ∷ 1 ∷ []) (0 ∷ 1 ∷ 5 ∷ []) refl h, λ r. refl)

-- The readings expected at a place.
pub expected_told_lem : (entries : ℕ) (a : Result Chain Refusal) (p : Place) → NoneOr (1 ∷ []) (number_told a) →
    let l = expected_lent entries a p in
    NoneOr (1 ∷ 4 ∷ 5 ∷ []) l.refusal × (Refuses l.refusal → l.holds ≡ replicate entries (pos 0))
unfolding expected_lent is_among
expected_told_lem entries (Ok c) p h = go (eqb entries chain_readings) refl
  where
    f : Figures
    f = figures_of (expected_at c p)

    go : (t : Bool) → eqb entries chain_readings ≡ t →
        let l = unless t (record { refusal = 1; holds = replicate entries (pos 0) }) (readings_lent f) in
        NoneOr (1 ∷ 4 ∷ 5 ∷ []) l.refusal × (Refuses l.refusal → l.holds ≡ replicate entries (pos 0))
    go false e = (refl, λ r. refl)
    go true e =
        let told = readings_number c p in (
          wider f.refusal (0 ∷ 4 ∷ 5 ∷ []) (0 ∷ 1 ∷ 4 ∷ 5 ∷ []) refl told.0,
          λ r. ap (λ (x : Figures). (readings_lent x).holds) (told.1 r) ∙ ap (λ (n : ℕ). replicate n (pos 0)) (sym (eqb-true entries chain_readings e)),
        )
expected_told_lem entries (Err why) p h = (wider (refusal_number why) (0 ∷ 1 ∷ []) (0 ∷ 1 ∷ 4 ∷ 5 ∷ []) refl h, λ r. refl)

pub job_told_lem : (a : Result Job Refusal) (numbers : List ℕ) → NoneOr numbers (number_told a) →
    let f = job_answered a in
    NoneOr numbers f.refusal × (Refuses f.refusal → f.job ≡ job_by 0 0 0 0 0)
unfolding job_answered
job_told_lem (Ok j) numbers h = (h, λ r. absurd (r refl))
job_told_lem (Err why) numbers h = (h, λ r. refl)

pub listing_told : (a : Result Listed Refusal) (numbers : List ℕ) → NoneOr numbers (number_told a) →
    let f = listed_figures a in
    NoneOr numbers f.refusal × (Refuses f.refusal → (f.length ≡ 0) × (f.carried ≡ held_figures None))
unfolding listed_figures
listing_told (Ok l) numbers h = (h, λ r. absurd (r refl))
listing_told (Err why) numbers h = (h, λ r. (refl, refl))

-- A search: first what is refused for the bytes, then what the search itself answers.
not_searched : (why : Refusal) (entries : ℕ) → NoneOr (1 ∷ 2 ∷ []) (refusal_number why) → SearchIsTold entries (unsearched why entries)
unfolding is_among
not_searched why entries h = (wider (refusal_number why) (0 ∷ 1 ∷ 2 ∷ []) (0 ∷ search_numbers) refl h, λ r. (refl, refl))

formed_numbers : (s : List ℕ) → NoneOr (1 ∷ 2 ∷ []) (number_told (formed_job_of s))
unfolding formed_job_of is_among
formed_numbers s = go (eqb (length s) job_bytes) (are_zero 3 s 9 && are_zero 8 s 24)
  where
    go : (t u : Bool) → NoneOr (1 ∷ 2 ∷ []) (number_told (unless t (Err refusal.Length) (unless u (Err refusal.Form) (Ok (job_in s)))))
    go false u = refl
    go true false = refl
    go true true = refl

searched_told : (c : Chain) (readings : List ℤ) (j : Result Job Refusal) (entries : ℕ) → NoneOr (1 ∷ 2 ∷ []) (number_told j) →
    ((q : Question) (w : Window) → Leaves q w entries) → SearchIsTold entries (searched_by c readings j entries)
unfolding searched_by is_among
searched_told c readings (Ok j) entries h answered =
    let q = question_of c readings j.tolerance j.allowance entries in
    let left = answered q j.window in (
      wider (figures_in q j.window).refusal (0 ∷ 3 ∷ 5 ∷ 6 ∷ 7 ∷ 8 ∷ 9 ∷ 10 ∷ []) (0 ∷ search_numbers) refl left.number,
      λ r. (left.zeros r, left.nought r),
    )
searched_told c readings (Err why) entries h answered = not_searched why entries h

pub search_told_lem : (chain : List ℕ) (factor : ℕ) (readings : List ℤ) (job : List ℕ) (entries : ℕ) → ((q : Question) (w : Window) → Leaves q w entries) →
    SearchIsTold entries (search_told chain factor readings job entries)
unfolding searched_in is_among
search_told_lem chain factor readings job entries answered = by_chain_lem (raw_chain_of chain factor) (bytes_counted chain factor)
  where
    by_count : (c : Chain) (t : Bool) → SearchIsTold entries (unless t (unsearched refusal.Length entries) (searched_by c readings (formed_job_of job) entries))
    by_count c true = searched_told c readings (formed_job_of job) entries (formed_numbers job) answered
    by_count c false = not_searched refusal.Length entries refl

    by_chain_lem : (a : Result Chain Refusal) → NoneOr (1 ∷ []) (number_told a) → SearchIsTold entries (searched_in a readings (formed_job_of job) entries)
    by_chain_lem (Ok c) h = by_count c (eqb (length readings) chain_readings)
    by_chain_lem (Err why) h = not_searched why entries (wider (refusal_number why) (0 ∷ 1 ∷ []) (0 ∷ 1 ∷ 2 ∷ []) refl h)

-- How many places there are: a refusal has one of these numbers.
abbrev IsNumbered : Result HowMany Stopped → Type 0
IsNumbered (Ok m) = Unit {0}
IsNumbered (Err s) = is_among (refusal_number s.refusal) many_numbers ≡ true

question_numbered : (rule : Rule) (w : Window) (n : ℕ) (m : Result HowMany Stopped) → Counting rule w n m → IsNumbered m
unfolding is_among
question_numbered rule w n _ (early a f) =
    wider (refusal_number (refusal_for a)) (3 ∷ 5 ∷ 6 ∷ 7 ∷ []) many_numbers refl (early_number a f.high)
question_numbered rule w n _ (none a e h) = tt
question_numbered rule w n _ (one p a e h) = tt
question_numbered rule w n _ (several p o ps a e h) = tt
question_numbered rule w n _ (out a less) = refl

job_numbered : (c : Chain) (readings : List ℤ) (s : List ℕ) → IsNumbered (many_by (formed_job_of s) c readings)
unfolding formed_job_of many_by is_among
job_numbered c readings s = go (eqb (length s) job_bytes) (are_zero 3 s 9 && are_zero 8 s 24)
  where
    go : (t u : Bool) → IsNumbered (many_by (unless t (Err refusal.Length) (unless u (Err refusal.Form) (Ok (job_in s)))) c readings)
    go false u = refl
    go true false = refl
    go true true =
        let j = job_in s in
        question_numbered (rule_of c readings j.tolerance) j.window j.allowance _ (counting (rule_of c readings j.tolerance) j.window j.allowance)

asked_numbered : (chain : List ℕ) (factor : ℕ) (readings : List ℤ) (job : List ℕ) → IsNumbered (asked_in (raw_chain_of chain factor) readings (formed_job_of job))
unfolding raw_chain_of asked_in is_among
asked_numbered chain factor readings job = go (eqb (length chain) chain_bytes) (eqb (length readings) chain_readings)
  where
    go : (t u : Bool) → IsNumbered (asked_in (unless t (Err refusal.Length) (Ok (chain_at chain 0 factor))) readings (formed_job_of job))
    go false u = refl
    go true u = by_count (eqb (length readings) chain_readings)
      where
        by_count : (u : Bool) → IsNumbered (unless u (Err (record { refusal = refusal.Length; visits = 0 })) (many_by (formed_job_of job) (chain_at chain 0 factor) readings))
        by_count true = job_numbered (chain_at chain 0 factor) readings job
        by_count false = refl

-- Its figures.
figures_numbered : (m : Result HowMany Stopped) → IsNumbered m → ManyIsTold m
unfolding many_figures is_among
figures_numbered (Ok (many.None visits)) h = (refl, (λ r. absurd (r refl)), (λ e. refl), (λ n. refl))
figures_numbered (Ok (many.One p visits)) h = (refl, (λ r. absurd (r refl)), (λ e. refl), (λ n. absurd (n refl)))
figures_numbered (Ok (many.Several visits)) h = (refl, (λ r. absurd (r refl)), (λ e. refl), (λ n. refl))
figures_numbered (Err s) h = (
  wider (refusal_number s.refusal) many_numbers (0 ∷ many_numbers) refl h,
  (λ r. refl),
  (λ e. absurd (false≢true (subst (λ (n : ℕ). is_among n many_numbers ≡ true) e h))),
  (λ n. refl),
)

pub many_told_lem : (chain : List ℕ) (factor : ℕ) (readings : List ℤ) (job : List ℕ) → ManyIsTold (asked_in (raw_chain_of chain factor) readings (formed_job_of job))
many_told_lem chain factor readings job = figures_numbered _ (asked_numbered chain factor readings job)
