-- Demand 2 of the request: A place gives the readings that the published rule for range differences gives, in whole
-- centimetres, and readings give back the places that the rule allows. Metres in the log are read by IEEE 754 and rounded as
-- the requirements say; centimetres written out read back the same.
use Prim.Native.Nat.{ℕ, ◌+◌, ◌-◌, ◌*◌, ◌/◌, ◌^◌, ◌≤◌, ◌<◌}
use mathlib.Core.Path.{◌≡◌, refl, sym, ap, ◌∙◌, subst⁻¹}
use mathlib.Core.Logic.{◌↔◌}
use mathlib.Core.Bool.{Bool, true, false}
use mathlib.Core.List.{List, [], ◌∷◌, ◌++◌, map}
use native.Mathlib.Omega.{arith}
use borrow.Author.Tests.{leb-true, le-leb}
use lib.Dec.{T}
use lib.IntN.{ℤ, pos, nat_abs, sub_ℕ, ◌*ℤ◌}
use lib.Signed.{◌<ℤ◌}
use lib.Ieee.{Float, fin, up, down, binary64, fits, of_int, div}
use lib.ListN.{length, get_or}
use Rattle.std.specs.Prelude.{Option, Some, None, Ok, Err}
use Rattle.refusals.specs.declared.Refusal.TheVariants as refusal
use Rattle.squares.proofs.RootLaws.{root_law, root_unique}
use Rattle.metres.specs.Metres.{signed, centimetres_of, hundredth_of, metres_of}
use Rattle.metres.specs.declared.Mark.{Mark}
use Rattle.metres.specs.declared.Mark.TheVariants as mark
use Rattle.metres.specs.Nearest.{MayAnswer}
use Rattle.metres.specs.Marks.{MayMark, mark_of}
use Rattle.metres.specs.Patterns.{number_of, pattern_of}
use Rattle.metres.proofs.Answers.{answers, answers_only}
use Rattle.metres.proofs.MarkLaws.{mark_says}
use Rattle.metres.proofs.Quarters.{quarters}
use Rattle.metres.proofs.Back.{written, not_written, hundredth_back}
use Rattle.metres.proofs.PatternLaws.{number_back}
use Rattle.chart.specs.declared.Place.{Place}
use Rattle.chart.specs.declared.Chain.{Chain}
use Rattle.chart.specs.Places.{in_range, squared_distance, distance_of}
use Rattle.chart.specs.Chains.{slaves_of, is_sound, all_in_range, no_two_equal, stations_of}
use Rattle.chart.specs.Readings.{expected_at, range_of, readings_of}
use Rattle.chart.proofs.RangeLaws.{readings_are, range_is_distance, range_is_on_ground, readings_unscaled}
use Rattle.chart.proofs.ReadingLaws.{expected_out, expected_unsound, expected_readings}
use Rattle.chart.specs.Factors.{is_factor}
use Rattle.chart.proofs.PlaceLaws.{and_both, both}
use Rattle.chart.proofs.ChainLaws.{factor_allowed}
use Rattle.chart.proofs.GroundLaws.{factor_says, factor_some, ground_high, ground_low, ground_only, says_factor}
use Rattle.search.specs.declared.Window.{Window}
use Rattle.search.specs.Windows.{is_window, IsCellIn}
use Rattle.search.specs.Questions.{rule_of, question_of}
use Rattle.search.specs.Answers.{search_of}
use Rattle.search.specs.Cells.{matching_in, IsListed, AmpleRoom, AmpleAllowance}
use Rattle.search.proofs.Theorems.{always_enough}
use Rattle.records.specs.declared.LogEntry.TheVariants as entry
use Rattle.records.specs.declared.Job.{Job}
use Rattle.records.specs.LogRecords.{raw_record_of, log_record_of, log_entry_of}
use Rattle.records.specs.Marks.{numbers_used, is_rounded_in}
use Rattle.records.specs.ChainTables.{chain_count_of, chain_of}
use Rattle.records.specs.Jobs.{job_of}
use Rattle.writing.specs.declared.Draft.{Draft}
use Rattle.writing.specs.Writing.{refusal_of, used_of, buffer_of, raw_for, entry_for}
use Rattle.writing.specs.ChainWriting.{chain_refusal_of, chain_buffer_of, all_sound, table_of}
use Rattle.writing.specs.JobWriting.{job_refusal_of, job_buffer_of}
use Rattle.writing.proofs.Theorems.{reads_back, chains_written, chains_counted, chains_read_back, window_written, job_reads_back, factors_read_back, factors_written}
use Rattle.writing.specs.FactorWriting.{factor_refusal_of, scale_of}
use Rattle.text.specs.Texts.{digits_of, spaced, figures_text, bytes_in}
use Rattle.parsing.specs.Numbers.{is_length, centimetres_in, is_below, size_in, is_reading, value_at, length_at, reading_at}
use Rattle.parsing.specs.Parsed.{parsed_job, parsed_chain, parsed_draft, parsed_question, parsed_readings}
use Rattle.shown.specs.Lines.{job_text, job_line, station_figures, chain_line, record_text, record_line}
use Rattle.shown.specs.Fields.{metres_text}
use Rattle.shown.specs.Expected.{expected_in}
use Rattle.shown.specs.Counted.{counted_in}
use Rattle.parsing.proofs.Lengths.{metres_length, metres_say}
use Rattle.parsing.proofs.TypedLaws.{digits_length, digits_centimetres}
use Rattle.listing.specs.declared.Carried.{Carried}
use Rattle.listing.specs.Answers.{RecordAnswer, fix_by, answer_by, answer_of, places_of, carried_by}
use Rattle.listing.specs.Listings.{line_of}
use Rattle.demands.specs.Typed.{metres_line}
use Rattle.demands.specs.Roundings.{EachExact, IsOwn, last_bytes}
use Rattle.demands.specs.Finding.{EachSmall}
use Rattle.demands.proofs.NumberLaws.{job_good}
use Rattle.demands.proofs.WritingLaws.{hyperbolic_accepted, grid_accepted, hold_accepted, chain_byte}
use Rattle.demands.proofs.TextLaws.{job_line_shown, job_typed_again, chain_line_shown, chain_typed_again, is_digit_lem, metres_says, record_line_shown, metres_line_lem, record_typed_again, chain_accepted_sound, chain_typed_short}
use Rattle.demands.proofs.MetresLaws.{chain_in_metres, job_in_metres}
use Rattle.demands.proofs.QuestionLaws.{expected_as_typed, counted_as_typed}
use Rattle.demands.proofs.RoundingLaws.{own_field, hold_as_before}
use Rattle.demands.proofs.AskingLaws.{own_readings, found_by, tests_pass, fix_places}

-- The distance of two places is the whole part of the square root of (easting difference squared plus northing difference
-- squared): its square is at most that sum, the square of the next number is more, and no other number has both properties.
pub distance_is_root : (p q : Place) →
    (distance_of p q * distance_of p q ≤ squared_distance p q)
    × (squared_distance p q < (distance_of p q + 1) * (distance_of p q + 1))
    × ((d : ℕ) → d * d ≤ squared_distance p q → squared_distance p q < (d + 1) * (d + 1) → d ≡ distance_of p q)
unfolding distance_of
distance_is_root p q = (
  (root_law (squared_distance p q)).low,
  (root_law (squared_distance p q)).high,
  λ d low high. root_unique (squared_distance p q) d (record { low = low; high = high }),
)

-- The range from a place to a station of a sound chain with the factor f is the whole part of (the distance times 1,000,000 divided by
-- f): f times the range is at most a million times the distance, f times the next number is more, and no other number has both
-- properties.
pub range_is_quotient : (c : Chain) (p station : Place) → is_sound c ≡ true →
    let f = c.factor in
    let d = distance_of p station in
    (range_of c p station * f ≤ d * 1_000_000)
    × (d * 1_000_000 < (range_of c p station + 1) * f)
    × ((r : ℕ) → r * f ≤ d * 1_000_000 → d * 1_000_000 < (r + 1) * f → r ≡ range_of c p station)
range_is_quotient c p station sound =
    let same = range_is_on_ground c p station in
    let d = distance_of p station in (
      subst⁻¹ (λ (r : ℕ). r * c.factor ≤ d * 1_000_000) same (ground_low c.factor d),
      subst⁻¹ (λ (r : ℕ). d * 1_000_000 < (r + 1) * c.factor) same (ground_high c.factor d (factor_some c.factor (factor_allowed c sound))),
      λ r low high. ground_only c.factor d r low high ∙ sym same,
    )

-- With the factor 1,000,000 every range is the distance, and the readings of a place are the differences of its distances: so 01's
-- figures stay as they are.
pub factor_of_one : (c : Chain) (p : Place) → c.factor ≡ 1_000_000 →
    ((station : Place) → range_of c p station ≡ distance_of p station)
    × (readings_of c p ≡ map (λ slave. sub_ℕ (distance_of p slave) (distance_of p c.master)) (slaves_of c))
factor_of_one c p one = ((λ station. range_is_distance c p station one), readings_unscaled c p one)

-- For a place in range and a sound chain, the reading of each slave is the range to the slave minus the range to the master, each
-- range cut to a whole number by itself. A place out of range is refused with 4, whatever the chain; then an unsound chain, also one
-- whose factor is not allowed, is refused with 5.
pub readings_are_differences : (c : Chain) (p : Place) →
    (in_range p ≡ true → is_sound c ≡ true →
    expected_at c p ≡ Ok (map (λ slave. sub_ℕ (range_of c p slave) (range_of c p c.master)) (slaves_of c)))
    × (in_range p ≡ false → expected_at c p ≡ Err refusal.Place)
    × (in_range p ≡ true → is_sound c ≡ false → expected_at c p ≡ Err refusal.Chain)
readings_are_differences c p = (
  (λ in-range sound. expected_readings c p in-range sound ∙ ap Ok (readings_are c p)),
  expected_out c p,
  expected_unsound c p,
)

-- A chain is sound exactly if its factor is 999,000 to 1,001,000, its stations are in range, and no two of them are equal.
pub sound_means : (c : Chain) →
    (is_sound c ≡ true) ↔ ((999_000 ≤ c.factor) × (c.factor ≤ 1_001_000) × (all_in_range (stations_of c) ≡ true) × (no_two_equal (stations_of c) ≡ true))
unfolding is_sound
sound_means c = (
  (λ e.
      let two = both (is_factor c.factor) _ e in
      let stations = both (all_in_range (stations_of c)) (no_two_equal (stations_of c)) two.1 in
      ((factor_says c.factor two.0).0, (factor_says c.factor two.0).1, stations.0, stations.1)),
  (λ h. and_both (says_factor c.factor h.0 h.1) (and_both h.2 h.3)),
)

-- A number of metres gives the whole number of centimetres nearest to exactly 100 times the number, a tie going to the even
-- one. It is refused if it is NaN, infinite or larger than 10,000,000 in size. No other answer is right. `MayAnswer` states
-- this rule without a method for finding the number.
pub metres_are_rounded : (x : Float) (answer : Option ℤ) → (answer ≡ centimetres_of x) ↔ MayAnswer x answer
metres_are_rounded x answer = ((λ e. subst⁻¹ (MayAnswer x) e (answers x)), answers_only x answer)

-- The mark of a number says where exactly 100 times the number lies, as seen from its z centimetres: it is `Equal` exactly if that is
-- z, `Below` exactly if it is below z, and `Above` exactly if it is above z. Both are counted in parts of which down e make one
-- centimetre, so that both are whole numbers.
pub mark_is_true : (s : Bool) (m : ℕ) (e z : ℤ) →
    let x = fin s m e in
    let exact = signed s (100 * (m * up e)) in
    let whole_number = z *ℤ pos (down e) in
    centimetres_of x ≡ Some z →
    ((mark_of x ≡ mark.Equal) ↔ (exact ≡ whole_number))
    × ((mark_of x ≡ mark.Below) ↔ (exact <ℤ whole_number))
    × ((mark_of x ≡ mark.Above) ↔ (whole_number <ℤ exact))
mark_is_true s m e z h = (mark_says (fin s m e) _ h mark.Equal, mark_says (fin s m e) _ h mark.Below, mark_says (fin s m e) _ h mark.Above)

-- A number that is refused has the mark `Equal`, and every number has exactly one mark: the one that `MayMark` allows beside its
-- centimetres or its refusal.
pub refused_is_equal : (x : Float) → centimetres_of x ≡ None → mark_of x ≡ mark.Equal
refused_is_equal x h = (mark_says x _ h mark.Equal).1 refl

pub metres_are_marked : (x : Float) (k : Mark) → (k ≡ mark_of x) ↔ MayMark x (centimetres_of x) k
metres_are_marked x k = ((λ e. (mark_says x _ refl k).0 (sym e)), (λ h. sym ((mark_says x _ refl k).1 h)))

-- A number that is read is exact exactly if it is a whole number of quarters of a metre: 4 times the number is some k.
pub exact_are_quarters : (s : Bool) (m : ℕ) (e z : ℤ) →
    let x = fin s m e in
    centimetres_of x ≡ Some z → (mark_of x ≡ mark.Equal) ↔ ((k : ℕ) × (4 * (m * up e) ≡ k * down e))
exact_are_quarters = quarters

-- The last field of a line `FIX` or `GRID` is 0 exactly if every number that its record uses is exact, and 1 exactly if not.
pub field_is_true : (j : Job) (table scale : List ℕ) (before : Option Carried) (s : List ℕ) →
    let line = line_of s (answer_of j table scale before s) in
    let exact = EachExact (numbers_used (log_record_of s)) in
    IsOwn (answer_of j table scale before s) →
    ((last_bytes 3 line ≡ bytes_in " 0\n") ↔ exact) × ((last_bytes 3 line ≡ bytes_in " 1\n") ↔ (exact → ⊥))
field_is_true = own_field

-- A hold after a record t with one place, which may be a hold itself, ends its line as the line of t ends.
pub hold_repeats_field : (j : Job) (table scale s t : List ℕ) (a : RecordAnswer) (p : Place) → log_entry_of s ≡ Ok entry.Hold → places_of a ≡ p ∷ [] →
    last_bytes 3 (line_of s (answer_of j table scale (carried_by a) s)) ≡ last_bytes 3 (line_of t a)
unfolding answer_of answer_by
hold_repeats_field j table scale s t a p held one = rw held (hold_as_before s t a p one)

-- Each of the 2,000,000,001 numbers of centimetres from -1,000,000,000 to 1,000,000,000 is written as its quotient by 100,
-- rounded once; and this quotient is read back as the same number.
pub centimetres_there_and_back : (z : ℤ) → nat_abs z ≤ 1_000_000_000 →
    let x = div binary64 (of_int binary64 z) (of_int binary64 (pos 100)) in
    (metres_of z ≡ Some x) × (centimetres_of x ≡ Some z)
unfolding hundredth_of
centimetres_there_and_back z h = (written z h, hundredth_back z h)

-- Any other number of centimetres is refused.
pub centimetres_beyond : (z : ℤ) → 1_000_000_000 < nat_abs z → metres_of z ≡ None
centimetres_beyond z h = not_written z h

-- A binary64 number, stored as the pattern of its eight bytes, is read back as the same number.
pub number_there_and_back : (x : Float) → T (fits binary64 x) → number_of (pattern_of x) ≡ x
number_there_and_back x held = number_back x held

-- Whatever the writer accepts is read back: the same kind, chain number, line number and centimetres. What the kind does not
-- use is read as zero.
pub record_there_and_back : (d : Draft) → d.line < 2 ^ 32 → refusal_of 32 d ≡ Ok tt →
    (raw_record_of (buffer_of 32 d) ≡ Ok (raw_for (used_of d))) × (log_entry_of (buffer_of 32 d) ≡ Ok (entry_for (used_of d)))
record_there_and_back d line accepted = ((reads_back d line accepted).raw, (reads_back d line accepted).entry)

-- Every sound chain is written, and its factor. 1 to 16 of them, written one after the other, are a table of that many chains, their
-- factors are a side file that fits it, and each is read back by its number. `other` is what `get_or` gives past the end of the list,
-- which no number here reaches.
pub chains_there_and_back : (cs : List Chain) (number : ℕ) (other : Chain) →
    let c = get_or cs (number - 1) other in
    all_sound cs ≡ true → length cs ≤ 16 → 1 ≤ number → number ≤ length cs →
    (chain_refusal_of 24 c ≡ Ok tt)
    × (factor_refusal_of 4 c.factor ≡ Ok tt)
    × (chain_count_of (table_of cs) ≡ Ok (length cs))
    × (chain_of (table_of cs) (scale_of cs) number ≡ Ok c)
chains_there_and_back cs number other sound few first last = (
  chains_written cs number other sound first last,
  factors_written cs number other sound first last,
  chains_counted cs (omega arith) few,
  chains_read_back cs number other sound few first last,
)

-- A job with any allowed window, a tolerance up to 100,000 and any allowance of 64 bits is written; and every job that the
-- writer accepts is read back as the same job.
pub job_there_and_back : (j : Job) → j.allowance < 2 ^ 64 →
    (is_window j.window ≡ true → j.tolerance ≤ 100_000 → job_refusal_of 32 j ≡ Ok tt)
    × (job_refusal_of 32 j ≡ Ok tt → job_of (job_buffer_of 32 j) ≡ Ok j)
job_there_and_back j small = (window_written j, job_reads_back j small)

-- Every record that the writer accepts is shown as one line: `LOG`, its fields and a newline, with no refusal. The fields,
-- typed in, give the same draft again, with 0 for what its kind does not use.
pub record_shown_and_typed : (d : Draft) → d.line < 2 ^ 32 → refusal_of 32 d ≡ Ok tt →
    let fields = record_text (buffer_of 32 d) in
    (record_line (buffer_of 32 d) ≡ bytes_in "LOG" ++ (fields ++ bytes_in "\n")) × (parsed_draft fields ≡ Ok (Some (used_of d)))
record_shown_and_typed d small accepted = (record_line_shown d small accepted, record_typed_again d small accepted)

-- Every chain of a list of sound ones that are written is shown as one line: `CHAIN`, its number in the table, its fields, the factor
-- last, and a newline, with no refusal. The fields, typed in, give the same chain again; without the factor they do if it is
-- 1,000,000.
pub chain_shown_and_typed : (cs : List Chain) (number : ℕ) (other : Chain) → all_sound cs ≡ true → 1 ≤ number → number ≤ length cs →
    let c = get_or cs (number - 1) other in
    let fields = figures_text (station_figures c ++ (c.factor ∷ [])) in
    (chain_line (scale_of cs) number (chain_buffer_of 24 c) ≡ bytes_in "CHAIN" ++ (spaced number ++ (fields ++ bytes_in "\n")))
    × (parsed_chain fields ≡ Ok (Some c))
chain_shown_and_typed cs number other sound first last =
    let c = get_or cs (number - 1) other in
    let back = factors_read_back cs number other sound first last in
    let good = chain_accepted_sound c (chains_written cs number other sound first last) in
    let there = and_both (le-leb 1 number first) (le-leb number (length (scale_of cs) / 4) (omega (arith, back.0, last))) in
    (chain_line_shown c good (scale_of cs) number there back.1, chain_typed_again c good)

pub chain_typed_without_factor : (c : Chain) → is_sound c ≡ true → c.factor ≡ 1_000_000 → parsed_chain (figures_text (station_figures c)) ≡ Ok (Some c)
chain_typed_without_factor c sound one = chain_typed_short c sound one

-- Every job that the writer accepts is shown as one line: `JOB`, its fields and a newline, with no refusal. The fields, typed
-- in, give the same job again.
pub job_shown_and_typed : (j : Job) → j.allowance < 2 ^ 64 → job_refusal_of 32 j ≡ Ok tt →
    let fields = job_text (job_buffer_of 32 j) in
    (job_line (job_buffer_of 32 j) ≡ bytes_in "JOB" ++ (fields ++ bytes_in "\n")) × (parsed_job fields ≡ Ok j)
job_shown_and_typed j small accepted = (job_line_shown j small accepted, job_typed_again j small accepted)

-- The readings shown for a typed question are those for the chain number and the place exactly as they were typed, however
-- large these numbers are.
pub question_as_typed : (table scale s : List ℕ) (number : ℕ) (p : Place) → parsed_question s ≡ Ok (record { chain = number; place = p }) →
    expected_in table scale number p ≡ expected_in table scale (value_at s 0) (record { easting = length_at s 1; northing = length_at s 2 })
question_as_typed table scale s number p e = expected_as_typed table scale s number p e

-- How many places are shown for typed readings is the answer for the chain number and the readings exactly as they were typed,
-- however large these numbers are.
pub readings_as_typed : (table scale job s : List ℕ) (number : ℕ) (a b : ℤ) → parsed_readings s ≡ Ok (record { chain = number; a = a; b = b }) →
    counted_in table scale job number (a ∷ b ∷ []) ≡ counted_in table scale job (value_at s 0) (reading_at s 1 ∷ reading_at s 2 ∷ [])
readings_as_typed table scale job s number a b e = counted_as_typed table scale job s number a b e

-- A length that is typed in digits alone says so many centimetres; one that is typed in metres, with a point and two decimals, says
-- a hundred times the metres and the decimals.
pub centimetres_as_typed : (n : ℕ) → (is_length (digits_of n) ≡ true) × (centimetres_in (digits_of n) ≡ n)
centimetres_as_typed n = (digits_length n, digits_centimetres n)

pub metres_as_typed : (m tenths hundredths : ℕ) → tenths < 10 → hundredths < 10 →
    let w = digits_of m ++ (46 ∷ (48 + tenths) ∷ (48 + hundredths) ∷ []) in
    (is_length w ≡ true) × (centimetres_in w ≡ 100 * m + (10 * tenths + hundredths))
metres_as_typed m t h tenth hundredth =
    let first = is_digit_lem t tenth in
    let second = is_digit_lem h hundredth in
    (metres_length m (48 + t) (48 + h) first second, metres_say m (48 + t) (48 + h) first second ∙ omega arith)

-- The metres that `layexpect` prints for a reading, typed in, are the same reading. And every record that the writer accepts, typed
-- with its readings or its place in metres, gives the same draft again.
pub reading_in_metres : (z : ℤ) → (is_reading (metres_text z) ≡ true) × (signed (is_below (metres_text z)) (centimetres_in (size_in (metres_text z))) ≡ z)
reading_in_metres z = ((metres_says z).reading, (metres_says z).back)

pub record_in_metres : (d : Draft) → d.line < 2 ^ 32 → refusal_of 32 d ≡ Ok tt →
    let used = used_of d in
    parsed_draft (figures_text (used.kind ∷ used.chain ∷ used.line ∷ []) ++ ((32 ∷ metres_text used.x) ++ (32 ∷ metres_text used.y)))
    ≡ Ok (Some used)
record_in_metres d small accepted = metres_line_lem d small accepted

-- So do every sound chain, and every job that the writer accepts, typed with their lengths in metres.
pub chain_typed_in_metres : (c : Chain) → is_sound c ≡ true → parsed_chain (metres_line (station_figures c) ++ spaced c.factor) ≡ Ok (Some c)
chain_typed_in_metres c sound = chain_in_metres c sound

pub job_typed_in_metres : (j : Job) → j.allowance < 2 ^ 64 → job_refusal_of 32 j ≡ Ok tt →
    let corner = metres_line (j.window.corner.easting ∷ j.window.corner.northing ∷ []) in
    parsed_job (corner ++ (spaced j.window.k ++ (metres_line (j.tolerance ∷ []) ++ spaced j.allowance))) ≡ Ok j
job_typed_in_metres j small accepted = job_in_metres j small accepted

-- The writer accepts any two readings up to 1,000,000,000 in size for a chain from 1 to 16, any place in range, and any hold;
-- and each of these is read back the same.
pub readings_there_and_back : (chain line : ℕ) (x y : ℤ) →
    1 ≤ chain → chain ≤ 16 → line < 2 ^ 32 → nat_abs x ≤ 1_000_000_000 → nat_abs y ≤ 1_000_000_000 →
    let d : Draft = record { kind = 1; chain = chain; line = line; x = x; y = y } in
    (refusal_of 32 d ≡ Ok tt) × (log_entry_of (buffer_of 32 d) ≡ Ok (entry.Readings x y))
unfolding used_of entry_for
readings_there_and_back chain line x y some few small hx hy =
    let accepted = hyperbolic_accepted chain line x y some few hx hy in
    (accepted, (reads_back _ small accepted).entry)

pub place_there_and_back : (chain line : ℕ) (p : Place) → line < 2 ^ 32 → in_range p ≡ true →
    let d : Draft = record { kind = 2; chain = chain; line = line; x = pos p.easting; y = pos p.northing } in
    (refusal_of 32 d ≡ Ok tt) × (log_entry_of (buffer_of 32 d) ≡ Ok (entry.Place p))
unfolding used_of entry_for
place_there_and_back chain line p small h =
    let accepted = grid_accepted chain line p h in
    (accepted, (reads_back _ small accepted).entry)

pub hold_there_and_back : (chain line : ℕ) (x y : ℤ) → line < 2 ^ 32 →
    let d : Draft = record { kind = 3; chain = chain; line = line; x = x; y = y } in
    (refusal_of 32 d ≡ Ok tt) × (log_entry_of (buffer_of 32 d) ≡ Ok entry.Hold)
unfolding used_of entry_for
hold_there_and_back chain line x y small =
    let accepted = hold_accepted chain line x y in
    (accepted, (reads_back _ small accepted).entry)

-- The readings of a place, if they are at most 1,000,000,000 in size, give back the place: a search for them lists it, in any
-- allowed window that contains the place, at any allowed tolerance, with ample room and allowance.
pub readings_give_place : (c : Chain) (p : Place) (readings : List ℤ) (w : Window) (tolerance allowance entries : ℕ) →
    let q = question_of c readings tolerance allowance entries in
    expected_at c p ≡ Ok readings → EachSmall readings →
    is_window w ≡ true → IsCellIn w p → tolerance ≤ 100_000 → AmpleRoom q w → AmpleAllowance q w →
    IsListed p (search_of q w).places
readings_give_place c p readings w tolerance allowance entries e small window inside few room enough =
    found_by c p readings w tolerance allowance entries e inside
    (tests_pass c readings w tolerance small (own_readings c p readings e).1 window few)
    room enough

-- The whole way, from a place to a record and from the record back to the place. The readings expected at the place, if they
-- are at most 1,000,000,000 in size, are written as a record that names a chain of the table, and the record is read back the
-- same. The answer to this record lists the place, if the job is accepted, its window contains the place, its allowance is at
-- least the greatest that may be needed, and at most 256 cells of the window match.
pub place_to_place : (c : Chain) (p : Place) (x y : ℤ) (chain line : ℕ) (job table scale : List ℕ) (j : Job) (before : Option Carried) →
    let s = buffer_of 32 (record { kind = 1; chain = chain; line = line; x = x; y = y }) in
    expected_at c p ≡ Ok (x ∷ y ∷ []) → nat_abs x ≤ 1_000_000_000 → nat_abs y ≤ 1_000_000_000 →
    1 ≤ chain → chain ≤ 16 → line < 2 ^ 32 → chain_of table scale chain ≡ Ok c →
    job_of job ≡ Ok j → IsCellIn j.window p → (4 ^ (j.window.k + 1) - 1) / 3 ≤ j.allowance →
    length (matching_in (rule_of c (x ∷ y ∷ []) j.tolerance) j.window) ≤ 256 →
    (log_entry_of s ≡ Ok (entry.Readings x y)) × IsListed p (places_of (answer_of j table scale before s))
unfolding answer_of answer_by fix_by EachSmall
place_to_place c p x y chain line job table scale j before e hx hy some few small known good inside enough room =
    let there = readings_there_and_back chain line x y some few small hx hy in
    let s = buffer_of 32 (record { kind = 1; chain = chain; line = line; x = x; y = y }) in
    let q = question_of c (x ∷ y ∷ []) j.tolerance j.allowance 512 in
    let accepted = job_good job j good in
    let found = readings_give_place c p (x ∷ y ∷ []) j.window j.tolerance j.allowance 512 e (hx, (hy, tt)) accepted.0 inside (leb-true _ _ accepted.1) room (always_enough q j.window enough) in
    (there.1, rw (there.1, chain_byte chain line x y there.0, known) (subst⁻¹ (IsListed p) (fix_places (is_rounded_in s) q j.window) found))
