-- How the code puts lines into a buffer: what its private functions promise each other. No public contract refers to it.
use Rattle.std.specs.Prelude.{ℕ, ◌*◌, ◌≤◌, ◌≡◌, Bool, List, [], ◌++◌, length, take, drop, Option, Result, Ok, Err}
use Rattle.refusals.specs.declared.Refusal.{Refusal}
use Rattle.refusals.specs.Numbers.{refusal_number}
use Rattle.chart.specs.declared.Place.{Place}
use Rattle.search.specs.declared.Found.{Found}
use Rattle.search.specs.declared.Unfound.{Unfound}
use Rattle.search.specs.declared.Stopped.{Stopped}
use Rattle.search.specs.Answers.{entries_of, stopped_by}
use Rattle.text.specs.Texts.{spaced, flag_text, figures_text, bytes_in}
use Rattle.listing.specs.declared.Carried.{Carried}
use Rattle.listing.specs.declared.Sources.{Sources}
use Rattle.listing.specs.declared.Word.{Word}
use Rattle.listing.specs.declared.Word.TheVariants as word
use Rattle.listing.specs.declared.Told.{Told}
use Rattle.listing.specs.declared.Listed.{Listed}
use Rattle.listing.specs.Answers.{RecordAnswer, Fix, Grid, Hold, Refused, program_room, answer_of, places_of}
use Rattle.listing.specs.Listings.{Part, lines_of, listing_by, listed_as}

-- What a record answers, the lines of a log, and its listing with a count of chains, from the same sources.
abbrev pub answer_in : Sources → Option Carried → List ℕ → RecordAnswer
answer_in f before s = answer_of f.job f.table.now f.scale.now before s

abbrev pub lines_in : Sources → Option Carried → List ℕ → Part
lines_in f before log = lines_of f.job f.table.now f.scale.now before log

abbrev pub listing_in : Result ℕ Refusal → Sources → Option Carried → List ℕ → Part
listing_in chains f before log = listing_by (Ok f.job) chains f.table.now f.scale.now log before

-- The listing `p` was put at the start of a buffer, and `answer` was returned for it.
pub record Gives (before : List ℕ) (p : Part) (now : List ℕ) (answer : Listed) : Type 0 where
  pub answer_is : answer ≡ listed_as p
  pub now_is : now ≡ p.text ++ drop (length p.text) before

-- How many entries the program's list has: two for each place.
abbrev pub list_entries : ℕ
list_entries = 2 * program_room

-- A list begins with these places, which are not more than the program's list has room for.
pub record Begins (places : List Place) (list : List ℕ) : Type 0 where
  pub few : length places ≤ program_room
  pub entries : take (2 * length places) list ≡ entries_of places

-- An answer without its places: its word, their count, the visits and the last field; or its refusal.
unfoldable pub told_of : RecordAnswer → Result Told Stopped
told_of (Fix visits ps rounded) = Ok (record { word = word.Fix; count = length ps; visits = visits; rounded = rounded })
told_of (Grid p rounded) = Ok (record { word = word.Grid; count = 1; visits = 0; rounded = rounded })
told_of (Hold p rounded) = Ok (record { word = word.Hold; count = 1; visits = 0; rounded = rounded })
told_of (Refused why visits) = Err (record { refusal = why; visits = visits })

-- What a search answers, as a fix, without its places.
unfoldable pub told_found : Bool → Result Found Unfound → Result Told Stopped
told_found rounded (Ok found) = Ok (record { word = word.Fix; count = found.count; visits = found.visits; rounded = rounded })
told_found rounded (Err why) = Err (stopped_by why)

-- `t` is the answer `a` without its places, and `list` begins with them.
pub record Tells (a : RecordAnswer) (t : Result Told Stopped) (list : List ℕ) : Type 0 where
  pub told : t ≡ told_of a
  pub places : Begins (places_of a) list

-- The word of a line.
unfoldable pub word_text : Word → List ℕ
word_text word.Fix = bytes_in " FIX"
word_text word.Grid = bytes_in " GRID"
word_text word.Hold = bytes_in " HOLD"

-- What is printed of a refused record after the head of its line.
unfoldable pub stopped_text : Stopped → List ℕ
stopped_text s = bytes_in " REFUSED" ++ (spaced (refusal_number s.refusal) ++ spaced s.visits)

-- What stands between the head of a line and its last field, with the places in a list.
unfoldable pub middle_text : Result Told Stopped → List ℕ → List ℕ
middle_text (Ok t) list = word_text t.word ++ (spaced t.count ++ (spaced t.visits ++ figures_text (take (2 * t.count) list)))
middle_text (Err s) list = stopped_text s

-- The last field.
unfoldable pub last_text : Result Told Stopped → List ℕ
last_text (Ok t) = flag_text t.rounded
last_text (Err s) = []
