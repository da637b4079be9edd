-- The marks of a record's numbers, from its kind: two for an accepted record with two numbers, else none.
use Prim.Native.Nat.{ℕ}
use mathlib.Core.Path.{◌≡◌, refl, sym, ap, ◌∙◌}
use mathlib.Core.Bool.{Bool, true, false, cond}
use mathlib.Core.List.{List, [], ◌∷◌}
use lib.Ieee.{Float}
use lib.ListN.{get_or}
use Rattle.std.specs.Prelude.{Result, Ok, Err}
use Rattle.refusals.specs.declared.Refusal.{Refusal}
use Rattle.metres.specs.Metres.{centimetres_of}
use Rattle.metres.specs.declared.Mark.{Mark}
use Rattle.metres.specs.declared.Mark.TheVariants.{Equal}
use Rattle.metres.specs.Marks.{mark_of, is_rounded}
use Rattle.records.specs.declared.LogRecord.{LogRecord}
use Rattle.records.specs.declared.LogRecord.TheVariants as log
use Rattle.records.specs.declared.LogEntry.{LogEntry}
use Rattle.records.specs.declared.LogEntry.TheVariants as entry
use Rattle.records.specs.declared.MarkedEntry.{MarkedEntry}
use Rattle.records.specs.LogRecords.{log_record_of, two_readings, placed, pair_of, with_pair, in_centimetres, log_entry_of}
use Rattle.records.specs.Marks.{numbers_used, is_accepted, marks_of, any_rounded, is_rounded_in, with_marks_of, marked_entry_of}
use Rattle.records.specs.Gathered.{marked_as}

-- Two marks, or none, taken one by one.
abbrev by_one : Result LogEntry Refusal → List Mark → MarkedEntry
by_one e marks = record { entry = e; first = get_or marks 0 Equal; second = get_or marks 1 Equal }

one_by_one : (t : Bool) (e : Result LogEntry Refusal) (x y : Mark) → let m : MarkedEntry = record { entry = e; first = cond t x Equal; second = cond t y Equal } in m ≡ by_one e (cond t (x ∷ y ∷ []) [])
one_by_one true e x y = refl
one_by_one false e x y = refl

-- A record of each kind with its marks.
module _ (a b : Float) where
  pub readings_marked : marked_as (with_pair two_readings (pair_of (centimetres_of a) (centimetres_of b))) (mark_of a) (mark_of b) ≡ with_marks_of (Ok (log.Hyperbolic a b))
  unfolding marked_as with_marks_of marks_of in_centimetres numbers_used
  readings_marked =
      let e = in_centimetres (Ok (log.Hyperbolic a b)) in
      one_by_one (is_accepted e) e (mark_of a) (mark_of b)

  pub place_marked : marked_as (with_pair placed (pair_of (centimetres_of a) (centimetres_of b))) (mark_of a) (mark_of b) ≡ with_marks_of (Ok (log.Grid a b))
  unfolding marked_as with_marks_of marks_of in_centimetres numbers_used
  place_marked =
      let e = in_centimetres (Ok (log.Grid a b)) in
      one_by_one (is_accepted e) e (mark_of a) (mark_of b)

pub hold_marked : marked_as (Ok entry.Hold) Equal Equal ≡ with_marks_of (Ok log.Hold)
unfolding marked_as with_marks_of marks_of in_centimetres numbers_used is_accepted
hold_marked = refl

pub refused_marked : (why : Refusal) → marked_as (Err why) Equal Equal ≡ with_marks_of (Err why)
unfolding marked_as with_marks_of marks_of in_centimetres numbers_used is_accepted
refused_marked why = refl

pub ruleset all_marked = (readings_marked, place_marked, hold_marked, refused_marked)

-- Of the two marks of a record one is that of a rounded number exactly if one of its numbers was rounded.
two_rounded : (t : Bool) (x y : Mark) → let marks = cond t (x ∷ y ∷ []) [] in any_rounded (get_or marks 0 Equal ∷ get_or marks 1 Equal ∷ []) ≡ any_rounded marks
unfolding any_rounded is_rounded
two_rounded true x y = refl
two_rounded false x y = refl

any_of : (r : Result LogRecord Refusal) → any_rounded ((with_marks_of r).first ∷ (with_marks_of r).second ∷ []) ≡ any_rounded (marks_of r)
unfolding with_marks_of marks_of numbers_used in_centimetres is_accepted any_rounded is_rounded
any_of (Ok (log.Hyperbolic a b)) = two_rounded (is_accepted (in_centimetres (Ok (log.Hyperbolic a b)))) (mark_of a) (mark_of b)
any_of (Ok (log.Grid e n)) = two_rounded (is_accepted (in_centimetres (Ok (log.Grid e n)))) (mark_of e) (mark_of n)
any_of (Ok log.Hold) = refl
any_of (Err why) = refl

module _ (s : List ℕ) (m : MarkedEntry) (read : m ≡ marked_entry_of s) where
  pub rounded_read : any_rounded (m.first ∷ m.second ∷ []) ≡ is_rounded_in s
  unfolding marked_entry_of
  rounded_read = ap (λ (x : MarkedEntry). any_rounded (x.first ∷ x.second ∷ [])) read ∙ any_of (log_record_of s)

  pub entry_read : log_entry_of s ≡ m.entry
  unfolding marked_entry_of with_marks_of log_entry_of
  entry_read = sym (ap (λ (x : MarkedEntry). x.entry) read)
