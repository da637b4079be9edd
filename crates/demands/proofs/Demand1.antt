-- Demand 1 of the request: A log, station table or job of any content gets an answer or a numbered refusal, and the work
-- ends. The program checks for itself. After a refusal the list of places holds zeros and the count of places is nought.
-- The work ends because every public function accepts any content and is proved to return. Definitions fix its answer, except
-- where the answer depends on the operating system; the theorems here say what the definitions answer. `NoneOr numbers n`
-- says that n is 0, which means no refusal, or one of `numbers`.
use Prim.Native.Nat.{ℕ, ◌-◌, ◌*◌, ◌≤◌}
use mathlib.Core.Path.{◌≡◌, refl, ap, ◌∙◌, subst}
use mathlib.Core.Bool.{true}
use mathlib.Core.List.{List, [], ◌∷◌, ◌++◌}
use native.Mathlib.Omega.{arith}
use lib.IntN.{ℤ, pos}
use lib.Ieee.{Float}
use lib.ListN.{length, drop, replicate}
use Rattle.std.specs.Prelude.{Option, None, Result, Ok, Err}
use Rattle.refusals.specs.declared.Refusal.{Refusal}
use Rattle.refusals.specs.Numbers.{refusal_number, number_told}
use Rattle.metres.specs.declared.Mark.TheVariants.{Equal}
use Rattle.metres.specs.Metres.{centimetres_of, metres_of, whole_figures, length_figures, plus_zero}
use Rattle.metres.specs.Marks.{mark_of}
use Rattle.chart.specs.declared.Place.{Place}
use Rattle.chart.specs.declared.Chain.{Chain}
use Rattle.chart.specs.Readings.{expected_at, no_figures, figures_of}
use Rattle.search.specs.declared.Window.{Window}
use Rattle.search.specs.Questions.{Question, question_of}
use Rattle.search.specs.Answers.{search_of, entries_of, list_of, figures_in}
use Rattle.search.proofs.Outcomes.{ending}
use Rattle.search.proofs.Theorems.{listed_are_counted, visits_in_allowance}
use Rattle.records.specs.declared.Job.{Job}
use Rattle.records.specs.Bytes.{byte_at}
use Rattle.records.specs.LogRecords.{raw_record_of, log_record_of, log_entry_of}
use Rattle.records.specs.Marks.{is_rounded_in, marked_entry_of}
use Rattle.records.specs.ChainTables.{chain_count_of, raw_chain_of, chain_of, scaled_count_of}
use Rattle.records.specs.Jobs.{formed_job_of, job_of}
use Rattle.records.specs.Refusals.{is_among}
use Rattle.records.proofs.Theorems.{raw_refusals, log_refusals, entry_refusals, count_refusals, chain_refusals, job_refusals, scaled_refusals}
use Rattle.writing.specs.declared.Draft.{Draft}
use Rattle.writing.specs.Writing.{refusal_of, buffer_of}
use Rattle.writing.specs.ChainWriting.{chain_refusal_of, chain_buffer_of}
use Rattle.writing.specs.JobWriting.{job_refusal_of, job_buffer_of}
use Rattle.writing.proofs.Theorems.{write_refusals, refused_write_zeros, chain_write_refusals, refused_chain_zeros, job_write_refusals, refused_job_zeros, factor_write_refusals, refused_factor_zeros}
use Rattle.writing.specs.FactorWriting.{factor_refusal_of, factor_buffer_of}
use Rattle.listing.specs.declared.Carried.{Carried}
use Rattle.listing.specs.Answers.{Refused, answer_of}
use Rattle.text.specs.Texts.{spaced, bytes_in}
use Rattle.listing.specs.Listings.{Part, listing_of, has_listing_room, listed_in, buffer_with}
use Rattle.listing.proofs.Theorems.{job_first, then_chain, then_scale}
use Rattle.chart.specs.Places.{place_of}
use Rattle.lay.specs.Figures.{job_by, chain_by, chain_told, chain_written, stations_told, expected_told, search_told, asked_in, record_figures, count_figures, job_answered, held_figures, listed_figures, factor_told}
use Rattle.demands.specs.Numbers.{record_refusal, NoneOr, Refuses, Leaves, SearchIsTold, ManyIsTold}
use Rattle.demands.proofs.NumberLaws.{numbered, not_done, some_number, whole_number, whole_marked, length_number, readings_number, listed_number, search_number, refused_lists, refused_early, answered_lists, room_kept, list_length, job_good, answer_number}
use Rattle.demands.proofs.LibraryLaws.{record_told, marks_told, count_told_lem, chain_told_lem, stations_counted, bytes_counted, stations_told_lem, expected_told_lem, job_told_lem, listing_told, search_told_lem, many_told_lem, no_factor}
use Rattle.fields.specs.Fields.{field_at}
use borrow.Author.Tests.{ne_eqb}

-- A number of metres gives its whole centimetres; or it is refused with 3, and gives 0 centimetres and the mark `Equal`.
pub metres_read : (x : Float) →
    let f = whole_figures (centimetres_of x) in
    NoneOr (3 ∷ []) f.refusal × (Refuses f.refusal → (f.centimetres ≡ pos 0) × (mark_of x ≡ Equal))
metres_read x = ((whole_number (centimetres_of x)).0, λ some. ((whole_number (centimetres_of x)).1 some, whole_marked x some))

-- A number of centimetres gives its metres; or it is refused with 3 and gives plus zero.
pub metres_written : (z : ℤ) →
    let f = length_figures (metres_of z) in
    NoneOr (3 ∷ []) f.refusal × (Refuses f.refusal → f.metres ≡ plus_zero)
metres_written z = length_number (metres_of z)

-- A place gives the readings expected there; or it is refused with 4 or 5 and gives 0 for each reading.
pub readings_told : (c : Chain) (p : Place) →
    let f = figures_of (expected_at c p) in
    NoneOr (4 ∷ 5 ∷ []) f.refusal × (Refuses f.refusal → f ≡ no_figures f.refusal)
readings_told c p = readings_number c p

-- Any bytes, read as a log record, give its fields, or refusal 1; its kind and its numbers in metres, or refusal 1 or 2; its
-- numbers in centimetres, or refusal 1 to 4.
pub log_record_read : (s : List ℕ) →
    NoneOr (1 ∷ []) (number_told (raw_record_of s))
    × NoneOr (1 ∷ 2 ∷ []) (number_told (log_record_of s))
    × NoneOr (1 ∷ 2 ∷ 3 ∷ 4 ∷ []) (number_told (log_entry_of s))
log_record_read s = (raw_refusals s, log_refusals s, entry_refusals s)

-- Any bytes, read as a station table, give the count of its chains, or refusal 1; so do any two, read as a table and its side file. Any
-- chain number gives a sound chain of the two, or refusal 1 or 5.
pub table_read : (s scale : List ℕ) (number : ℕ) →
    NoneOr (1 ∷ []) (number_told (chain_count_of s))
    × NoneOr (1 ∷ []) (number_told (scaled_count_of s scale))
    × NoneOr (1 ∷ 5 ∷ []) (number_told (chain_of s scale number))
table_read s scale number = (count_refusals s, scaled_refusals s scale, chain_refusals s scale number)

-- A factor matters only where its chain is named: if two side files fit the table and have the same factor for a chain, this chain is
-- the same, whatever their other factors are.
pub factor_alone : (s scale other : List ℕ) (number : ℕ) →
    length scale ≡ length other → field_at 4 scale (4 * (number - 1)) ≡ field_at 4 other (4 * (number - 1)) → chain_of s scale number ≡ chain_of s other number
unfolding chain_of
factor_alone s scale other number long same = rw (long, same)

-- Any bytes, read as a job, are accepted, or refused with 1, 2, 6 or 7.
pub job_read : (s : List ℕ) → NoneOr (1 ∷ 2 ∷ 6 ∷ 7 ∷ []) (number_told (job_of s))
job_read s = job_refusals s

-- A draft of a log record is written, or refused with 1 to 5. A refusal leaves the whole buffer zero, whatever its length.
pub record_written : (bytes : ℕ) (d : Draft) →
    NoneOr (1 ∷ 2 ∷ 3 ∷ 4 ∷ 5 ∷ []) (number_told (refusal_of bytes d))
    × (Refuses (number_told (refusal_of bytes d)) → buffer_of bytes d ≡ replicate bytes 0)
record_written bytes d = (write_refusals bytes d, λ some. refused_write_zeros bytes d (not_done (refusal_of bytes d) tt some))

-- A chain and a factor are each written, or refused with 1 or 5; a job is written, or refused with 1, 6 or 7. A refusal leaves
-- the whole buffer zero, whatever its length.
pub chain_written_lem : (bytes : ℕ) (c : Chain) →
    NoneOr (1 ∷ 5 ∷ []) (number_told (chain_refusal_of bytes c))
    × (Refuses (number_told (chain_refusal_of bytes c)) → chain_buffer_of bytes c ≡ replicate bytes 0)
chain_written_lem bytes c = (chain_write_refusals bytes c, λ some. refused_chain_zeros bytes c (not_done (chain_refusal_of bytes c) tt some))

pub factor_written : (bytes f : ℕ) →
    NoneOr (1 ∷ 5 ∷ []) (number_told (factor_refusal_of bytes f))
    × (Refuses (number_told (factor_refusal_of bytes f)) → factor_buffer_of bytes f ≡ replicate bytes 0)
factor_written bytes f = (factor_write_refusals bytes f, λ some. refused_factor_zeros bytes f (not_done (factor_refusal_of bytes f) tt some))

pub job_written : (bytes : ℕ) (j : Job) →
    NoneOr (1 ∷ 6 ∷ 7 ∷ []) (number_told (job_refusal_of bytes j))
    × (Refuses (number_told (job_refusal_of bytes j)) → job_buffer_of bytes j ≡ replicate bytes 0)
job_written bytes j = (job_write_refusals bytes j, λ some. refused_job_zeros bytes j (not_done (job_refusal_of bytes j) tt some))

-- Any search, whatever the question, answers with places, or with refusal 3, 5, 6, 7, 8, 9 or 10. After a refusal the list is
-- all zeros, whatever its length, even an odd one, and the count is 0. Refusals 3, 5, 6 and 7 report no visits, 10 reports
-- exactly the allowance, and no answer reports more visits than the allowance.
pub search_answered : (q : Question) (w : Window) (entries : ℕ) → Leaves q w entries
unfolding list_of entries_of
search_answered q w entries =
    let empty : Refuses (figures_in q w).refusal → (search_of q w).places ≡ [] = refused_lists q w (search_of q w) (ending q w) in
    record {
      number = search_number (search_of q w).answer;
      zeros = λ r. ap (list_of entries) (empty r) ∙ ap (λ (n : ℕ). replicate n 0) (let e : entries - 0 ≡ entries = omega arith in e);
      nought = λ r. listed_are_counted q w ∙ ap length (empty r);
      unvisited = refused_early q w (search_of q w) (ending q w);
      allowed = (visits_in_allowance q w).0;
      used_up = (visits_in_allowance q w).1;
    }

-- A search that is not refused gives at least one place. The places are the first entries of the list, easting and northing
-- in turn. All other entries, including a left-over half place, are zero. The list keeps its length.
pub places_listed : (c : Chain) (readings : List ℤ) (w : Window) (tolerance allowance entries : ℕ) →
    let q = question_of c readings tolerance allowance entries in
    let places = (search_of q w).places in
    (figures_in q w).refusal ≡ 0 →
    (1 ≤ (figures_in q w).count)
    × ((figures_in q w).count ≡ length places)
    × (list_of entries places ≡ entries_of places ++ replicate (entries - 2 * length places) 0)
    × (length (list_of entries places) ≡ entries)
unfolding list_of
places_listed c readings w tolerance allowance entries e =
    let q = question_of c readings tolerance allowance entries in (
      answered_lists q w e,
      listed_are_counted q w,
      refl,
      list_length entries (search_of q w).places (omega (arith, room_kept q w)),
    )

-- Any bytes as a record of a log, with an accepted job, any table and side file, and any place or none carried from the record before, give
-- places, or refusal 1, 2, 3, 4, 5, 8, 9, 10 or 11. Refusals 6 and 7 never come, since the job was accepted.
pub record_answered : (job table scale s : List ℕ) (j : Job) (before : Option Carried) → job_of job ≡ Ok j →
    NoneOr (1 ∷ 2 ∷ 3 ∷ 4 ∷ 5 ∷ 8 ∷ 9 ∷ 10 ∷ 11 ∷ []) (record_refusal (answer_of j table scale before s))
unfolding answer_of
record_answered job table scale s j before accepted =
    let good = job_good job j accepted in
    answer_number j good.0 good.1 (chain_of table scale (byte_at s 1)) before (is_rounded_in s) (log_entry_of s) (chain_refusals table scale (byte_at s 1)) (entry_refusals s)

-- No refusal has the number 0, since 0 means that nothing is refused. So every refusal r has one of the numbers above.
pub no_refusal_is_0 : (s table scale : List ℕ) (number visits : ℕ) (j : Job) (before : Option Carried) (r : Refusal) →
    (raw_record_of s ≡ Err r → Refuses (refusal_number r))
    × (log_record_of s ≡ Err r → Refuses (refusal_number r))
    × (log_entry_of s ≡ Err r → Refuses (refusal_number r))
    × (chain_count_of s ≡ Err r → Refuses (refusal_number r))
    × (scaled_count_of s scale ≡ Err r → Refuses (refusal_number r))
    × (chain_of s scale number ≡ Err r → Refuses (refusal_number r))
    × (job_of s ≡ Err r → Refuses (refusal_number r))
    × (answer_of j table scale before s ≡ Refused r visits → Refuses (refusal_number r))
no_refusal_is_0 s table scale number visits j before r =
    let some = numbered r in
    ((λ e. some), (λ e. some), (λ e. some), (λ e. some), (λ e. some), (λ e. some), (λ e. some), (λ e. some))

-- For a refused job the program prints only `JOB REFUSED` and the number, which is 1, 2, 6 or 7. For an accepted job and a
-- refused table it prints only `CHAIN REFUSED` and the number, which is 1. If both are accepted and the side file does not fit the
-- table, it prints only `SCALE REFUSED 1`.
pub job_refused : (job table scale log : List ℕ) (r : Refusal) → job_of job ≡ Err r →
    (is_among (refusal_number r) (1 ∷ 2 ∷ 6 ∷ 7 ∷ []) ≡ true)
    × (listing_of job table scale log ≡ bytes_in "JOB REFUSED" ++ (spaced (refusal_number r) ++ bytes_in "\n"))
job_refused job table scale log r e = (
  some_number (refusal_number r) (1 ∷ 2 ∷ 6 ∷ 7 ∷ []) (subst (λ (a : Result Job Refusal). NoneOr (1 ∷ 2 ∷ 6 ∷ 7 ∷ []) (number_told a)) e (job_refusals job)) (numbered r),
  job_first job table scale log r e,
)

pub table_refused : (job table scale log : List ℕ) (j : Job) (r : Refusal) → job_of job ≡ Ok j → chain_count_of table ≡ Err r →
    (is_among (refusal_number r) (1 ∷ []) ≡ true)
    × (listing_of job table scale log ≡ bytes_in "CHAIN REFUSED" ++ (spaced (refusal_number r) ++ bytes_in "\n"))
table_refused job table scale log j r good e = (
  some_number (refusal_number r) (1 ∷ []) (subst (λ (a : Result ℕ Refusal). NoneOr (1 ∷ []) (number_told a)) e (count_refusals table)) (numbered r),
  then_chain job table scale log j r good e,
)

pub scale_refused : (job table scale log : List ℕ) (j : Job) (n : ℕ) → job_of job ≡ Ok j → chain_count_of table ≡ Ok n →
    (length scale ≡ 4 * n → ⊥) → listing_of job table scale log ≡ bytes_in "SCALE REFUSED 1\n"
scale_refused job table scale log j n good known unfit = then_scale job table scale log j n good known (ne_eqb _ _ unfit)

-- A listing is put into a buffer; or it is refused with 9, if the buffer has too little room, and the buffer stays as it was.
pub listing_answered : (out log : List ℕ) (p : Part) →
    let answer = listed_in (length out) log p in
    NoneOr (9 ∷ []) (number_told answer) × (Refuses (number_told answer) → buffer_with out log p ≡ out)
unfolding listed_in buffer_with
listing_answered out log p = listed_number (has_listing_room (length out) log) p out (p.text ++ drop (length p.text) out)

-- The library for C returns the same refusal numbers in its figures. A log record: after 1 to 4 the kind, the chain number,
-- both numbers and both marks are 0.
pub record_figures_told : (s : List ℕ) →
    let f = (record_figures s).entry in
    NoneOr (1 ∷ 2 ∷ 3 ∷ 4 ∷ []) f.refusal
    × (Refuses f.refusal →
    ((f.kind ≡ 0) × (f.chain ≡ 0) × (f.x ≡ pos 0) × (f.y ≡ pos 0)) × ((record_figures s).xmark ≡ 0) × ((record_figures s).ymark ≡ 0))
unfolding marked_entry_of log_entry_of
record_figures_told s =
    let told = record_told (raw_record_of s) (log_record_of s) (raw_refusals s) (entry_refusals s) in
    let marks = marks_told (raw_record_of s) (log_record_of s) in
    (told.0, λ some. (told.1 some, (marks some).0, (marks some).1))

-- A table: after 1 the count is 0. A chain read from a table and its side file: after 1 or 5 all its bytes are 0, and so is its factor. A
-- chain written from its stations and its factor: after 1 or 5 all its bytes are 0.
pub table_figures_told : (s scale stations : List ℕ) (number bytes factor : ℕ) →
    let f = count_figures (chain_count_of s) in
    let g = chain_told bytes s scale number in
    let w = chain_written bytes stations factor in
    (NoneOr (1 ∷ []) f.refusal × (Refuses f.refusal → f.count ≡ 0))
    × (NoneOr (1 ∷ 5 ∷ []) g.refusal × (Refuses g.refusal → (g.holds ≡ replicate bytes 0) × (factor_told bytes s scale number ≡ 0)))
    × (NoneOr (1 ∷ 5 ∷ []) w.refusal × (Refuses w.refusal → w.holds ≡ replicate bytes 0))
table_figures_told s scale stations number bytes factor =
    let g = chain_told_lem bytes (chain_of s scale number) (chain_refusals s scale number) in (
      count_told_lem (chain_count_of s) (1 ∷ []) (count_refusals s),
      (g.0, λ some. (g.1 some, no_factor _ (chain_of s scale number) some)),
      chain_told_lem bytes (chain_by stations factor) (stations_counted stations factor),
    )

-- A chain of any bytes and any factor: after 1 or 5 the numbers of its stations are all 0; after 1, 4 or 5 the readings expected at a place
-- are all 0.
pub chain_figures_told : (chain : List ℕ) (factor entries e n : ℕ) →
    let s = stations_told entries chain factor in
    let x = expected_told entries chain factor e n in
    (NoneOr (1 ∷ 5 ∷ []) s.refusal × (Refuses s.refusal → s.holds ≡ replicate entries 0))
    × (NoneOr (1 ∷ 4 ∷ 5 ∷ []) x.refusal × (Refuses x.refusal → x.holds ≡ replicate entries (pos 0)))
chain_figures_told chain factor entries e n = (
  stations_told_lem entries (raw_chain_of chain factor) (bytes_counted chain factor),
  expected_told_lem entries (raw_chain_of chain factor) (place_of e n) (bytes_counted chain factor),
)

-- A search by the bytes of a chain, its factor, and the bytes of a job: refusal 1 or 2 if the bytes or the count of readings are
-- wrong, else what the search answers. After a refusal the list is zeros and the count is 0.
pub search_figures_told : (chain : List ℕ) (factor : ℕ) (readings : List ℤ) (job : List ℕ) (entries : ℕ) →
    SearchIsTold entries (search_told chain factor readings job entries)
search_figures_told chain factor readings job entries = search_told_lem chain factor readings job entries (λ q w. search_answered q w entries)

-- How many places there are, by the bytes of a chain, its factor, and the bytes of a job: refusal 1 or 2 if the bytes or the
-- count of readings are wrong, else what the question answers, which is never 8 or 9. After a refusal the answer is none of the
-- three, and the place is zeros.
pub how_many_figures_told : (chain : List ℕ) (factor : ℕ) (readings : List ℤ) (job : List ℕ) → ManyIsTold (asked_in (raw_chain_of chain factor) readings (formed_job_of job))
how_many_figures_told chain factor readings job = many_told_lem chain factor readings job

-- A job: after 1, 2, 6 or 7 window, tolerance and allowance are all 0.
pub job_figures_told : (s : List ℕ) →
    let f = job_answered (job_of s) in
    NoneOr (1 ∷ 2 ∷ 6 ∷ 7 ∷ []) f.refusal
    × (Refuses f.refusal → f.job ≡ job_by 0 0 0 0 0)
job_figures_told s = job_told_lem (job_of s) (1 ∷ 2 ∷ 6 ∷ 7 ∷ []) (job_refusals s)

-- A listing: after 9 the length of the text is 0, and no place and no last field is handed on.
pub listing_figures_told : (out log : List ℕ) (p : Part) →
    let f = listed_figures (listed_in (length out) log p) in
    NoneOr (9 ∷ []) f.refusal
    × (Refuses f.refusal → (f.length ≡ 0) × (f.carried ≡ held_figures None))
listing_figures_told out log p = listing_told (listed_in (length out) log p) (9 ∷ []) (listing_answered out log p).0
