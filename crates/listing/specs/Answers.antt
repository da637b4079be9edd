-- What a record answers, given the job, the chain table with its side file, and the place carried from the record before it
-- (01, The records; The program; 02, A3).
use Rattle.std.specs.Prelude.{ℕ, ◌*◌, Bool, false, List, [], ◌∷◌, ℤ, Option, Some, None, Result, Ok, Err}
use Rattle.refusals.specs.declared.Refusal.{Refusal}
use Rattle.refusals.specs.declared.Refusal.TheVariants as refusal
use Rattle.chart.specs.declared.Place.{Place}
use Rattle.chart.specs.declared.Chain.{Chain}
use Rattle.search.specs.declared.Found.{Found}
use Rattle.search.specs.declared.Unfound.{Unfound}
use Rattle.search.specs.declared.Stopped.{Stopped}
use Rattle.search.specs.Questions.{question_of}
use Rattle.search.specs.Answers.{Outcome, search_of, refusal_for, visits_before}
use Rattle.records.specs.declared.Job.{Job}
use Rattle.records.specs.declared.LogEntry.{LogEntry}
use Rattle.records.specs.declared.LogEntry.TheVariants as entry
use Rattle.records.specs.Bytes.{byte_at}
use Rattle.records.specs.LogRecords.{log_entry_of}
use Rattle.records.specs.Marks.{is_rounded_in}
use Rattle.records.specs.ChainTables.{chain_of}
use Rattle.listing.specs.declared.Carried.{Carried}

-- What a record answers. A fix has the visits of its search and the places found; a grid record and a hold have their
-- place; a refused record has the refusal and the visits made. An answer with places says last whether a number of its
-- record was rounded on the way to centimetres, and a hold says so of the record that it repeats (02, A1).
pub data RecordAnswer : Type 0 where
  Fix : ℕ → List Place → Bool → RecordAnswer
  Grid : Place → Bool → RecordAnswer
  Hold : Place → Bool → RecordAnswer
  Refused : Refusal → ℕ → RecordAnswer

-- How many places the program's list has room for (01, The program).
abbrev pub program_room : ℕ
program_room = 256

-- What a search answers, as a record's answer.
unfoldable pub fix_with : Bool → List Place → Result Found Unfound → RecordAnswer
fix_with rounded places (Ok found) = Fix found.visits places rounded
fix_with rounded places (Err why) = Refused (refusal_for why) (visits_before why)

abbrev pub searched : Bool → Outcome → RecordAnswer
searched rounded o = fix_with rounded o.places o.answer

-- What two readings answer: the refusal of their chain, or what the search in the job's window answers.
unfoldable pub fix_by : Job → List ℤ → Bool → Result Chain Refusal → RecordAnswer
fix_by j readings rounded (Ok c) =
    searched rounded (search_of (question_of c readings j.tolerance j.allowance (2 * program_room)) j.window)
fix_by j readings rounded (Err why) = Refused why 0

-- A hold repeats what is carried to it, and is refused if that is nothing.
unfoldable pub hold_of : Option Carried → RecordAnswer
hold_of (Some c) = Hold c.place c.rounded
hold_of None = Refused refusal.Hold 0

-- What a record answers, from its entry in centimetres and whether a number was rounded. `chain` is what the table answers for its
-- chain number.
unfoldable pub answer_by : Job → Result Chain Refusal → Option Carried → Bool → Result LogEntry Refusal → RecordAnswer
answer_by j chain before rounded (Ok (entry.Readings a b)) = fix_by j (a ∷ b ∷ []) rounded chain
answer_by j chain before rounded (Ok (entry.Place p)) = Grid p rounded
answer_by j chain before rounded (Ok entry.Hold) = hold_of before
answer_by j chain before rounded (Err why) = Refused why 0

-- What a record answers, from its bytes, the table's and those of the side file.
unfoldable pub answer_of : Job → List ℕ → List ℕ → Option Carried → List ℕ → RecordAnswer
answer_of j table scale before s = answer_by j (chain_of table scale (byte_at s 1)) before (is_rounded_in s) (log_entry_of s)

-- The places of an answer. One that is refused has none.
unfoldable pub places_of : RecordAnswer → List Place
places_of (Fix visits places rounded) = places
places_of (Grid p rounded) = p ∷ []
places_of (Hold p rounded) = p ∷ []
places_of (Refused why visits) = []

-- Whether an answer says that a number was rounded.
unfoldable pub says_rounded : RecordAnswer → Bool
says_rounded (Fix visits places rounded) = rounded
says_rounded (Grid p rounded) = rounded
says_rounded (Hold p rounded) = rounded
says_rounded (Refused why visits) = false

-- The only place of a list, with what its line says last; nothing if the list has none or several.
unfoldable pub only : Bool → List Place → Option Carried
only rounded [] = None
only rounded (p ∷ []) = Some (record { place = p; rounded = rounded })
only rounded (p ∷ q ∷ ps) = None

-- What an answer hands on to the next record. Only an answer with exactly one place hands on any.
abbrev pub carried_by : RecordAnswer → Option Carried
carried_by a = only (says_rounded a) (places_of a)
