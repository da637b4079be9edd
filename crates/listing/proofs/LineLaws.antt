-- A line put together from its pieces: its head, the entries of its places, and an answer's text from what is told of it and its list.
use Prim.Native.Nat.{ℕ, ◌*◌}
use mathlib.Core.Path.{◌≡◌, refl, sym, ap, ◌∙◌}
use mathlib.Core.Bool.{Bool, true, false, cond}
use mathlib.Core.List.{List, [], ◌∷◌, ◌++◌, append-nil, append_assoc}
use lib.Dec.{eqb}
use lib.ListN.{length, take}
use Rattle.std.specs.Prelude.{Result, Ok, Err}
use Rattle.refusals.specs.declared.Refusal.{Refusal}
use Rattle.refusals.specs.declared.Refusal.TheVariants as refusal
use Rattle.refusals.specs.Numbers.{refusal_number}
use Rattle.chart.specs.declared.Place.{Place}
use Rattle.search.specs.declared.Stopped.{Stopped}
use Rattle.search.specs.Answers.{entries_of}
use Rattle.records.specs.declared.RawRecord.{RawRecord}
use Rattle.records.specs.Bytes.{unless}
use Rattle.records.specs.LogRecords.{log_bytes, raw_in, raw_record_of}
use Rattle.text.specs.Texts.{digits_of, spaced, flag_text, figures_text, bytes_in}
use Rattle.listing.specs.declared.Told.{Told}
use Rattle.listing.specs.Answers.{RecordAnswer, Fix, Grid, Hold, Refused, places_of}
use Rattle.listing.specs.Listings.{head_of, places_text, answer_text, line_of}
use Rattle.listing.specs.Putting.{Tells, told_of, word_text, stopped_text, middle_text, last_text}

-- The head of a line: the line number of the raw record, or a dash if that is refused.
head_by : Result RawRecord Refusal → List ℕ
head_by (Ok r) = digits_of r.line
head_by (Err why) = bytes_in "-"

head_is : (s : List ℕ) → head_by (raw_record_of s) ≡ head_of s
unfolding head_by raw_record_of head_of
head_is s = go (eqb (length s) log_bytes)
  where
    go : (b : Bool) → head_by (unless b (Err refusal.Length) (Ok (raw_in s))) ≡ cond b (digits_of (raw_in s).line) (bytes_in "-")
    go true = refl
    go false = refl

pub head_line : (s : List ℕ) (r : RawRecord) → raw_record_of s ≡ Ok r → digits_of r.line ≡ head_of s
unfolding head_by
head_line s r e = sym (ap head_by e) ∙ head_is s

pub head_dash : (s : List ℕ) (why : Refusal) → raw_record_of s ≡ Err why → bytes_in "-" ≡ head_of s
unfolding head_by
head_dash s why e = sym (ap head_by e) ∙ head_is s

-- The entries of places, as text, are the text of the places.
pub places_text_lem : (ps : List Place) → figures_text (entries_of ps) ≡ places_text ps
unfolding figures_text entries_of places_text
places_text_lem [] = refl
places_text_lem (p ∷ ps) = ap (λ (z : List ℕ). spaced p.easting ++ (spaced p.northing ++ z)) (places_text_lem ps)

-- Four pieces and a fifth: each but the last is put before what follows it.
four_pieces : (a b c d e : List ℕ) → (a ++ (b ++ (c ++ d))) ++ e ≡ a ++ (b ++ (c ++ (d ++ e)))
four_pieces a b c d e =
    append_assoc a (b ++ (c ++ d)) e
    ∙ ap (λ (z : List ℕ). a ++ z) (append_assoc b (c ++ d) e ∙ ap (λ (z : List ℕ). b ++ z) (append_assoc c d e))

-- The text of an answer's places from a list that begins with them.
placed_text : (ps : List Place) (l : List ℕ) → take (2 * length ps) l ≡ entries_of ps → figures_text (take (2 * length ps) l) ≡ places_text ps
placed_text ps l e = ap figures_text e ∙ places_text_lem ps

-- The middle of a line and its last field are the answer's text.
told_text : (a : RecordAnswer) (l : List ℕ) → take (2 * length (places_of a)) l ≡ entries_of (places_of a) → middle_text (told_of a) l ++ last_text (told_of a) ≡ answer_text a
unfolding middle_text stopped_text last_text told_of answer_text places_of word_text
told_text (Fix visits ps rounded) l e =
    ap (λ (z : List ℕ). (bytes_in " FIX" ++ (spaced (length ps) ++ (spaced visits ++ z))) ++ flag_text rounded) (placed_text ps l e)
    ∙ four_pieces (bytes_in " FIX") (spaced (length ps)) (spaced visits) (places_text ps) (flag_text rounded)
told_text (Grid p rounded) l e =
    ap (λ (z : List ℕ). (bytes_in " GRID" ++ (spaced 1 ++ (spaced 0 ++ z))) ++ flag_text rounded) (placed_text (p ∷ []) l e)
    ∙ four_pieces (bytes_in " GRID") (spaced 1) (spaced 0) (places_text (p ∷ [])) (flag_text rounded)
told_text (Hold p rounded) l e =
    ap (λ (z : List ℕ). (bytes_in " HOLD" ++ (spaced 1 ++ (spaced 0 ++ z))) ++ flag_text rounded) (placed_text (p ∷ []) l e)
    ∙ four_pieces (bytes_in " HOLD") (spaced 1) (spaced 0) (places_text (p ∷ [])) (flag_text rounded)
told_text (Refused why visits) l e = append-nil (bytes_in " REFUSED" ++ (spaced (refusal_number why) ++ spaced visits))

-- The same for the whole line, with its head and its newline.
pub line_text : (s : List ℕ) (a : RecordAnswer) (t : Result Told Stopped) (l : List ℕ) → Tells a t l →
    head_of s ++ (middle_text t l ++ (last_text t ++ bytes_in "\n")) ≡ line_of s a
line_text s a t l h =
    ap (λ (x : Result Told Stopped). head_of s ++ (middle_text x l ++ (last_text x ++ bytes_in "\n"))) h.told
    ∙ ap (λ (z : List ℕ). head_of s ++ z)
    (sym (append_assoc (middle_text (told_of a) l) (last_text (told_of a)) (bytes_in "\n"))
    ∙ ap (λ (z : List ℕ). z ++ bytes_in "\n") (told_text a l h.places.entries))
