-- Terms in which demand 1 is stated: the refusal number in an answer, 0 for none (01, Numbers of refusal), and all that a
-- search leaves in its figures and its list.
use Rattle.std.specs.Prelude.{ℕ, ◌≤◌, ◌≡◌, true, List, [], ◌∷◌, replicate, Result, Ok, Err}
use Rattle.refusals.specs.Numbers.{refusal_number}
use Rattle.chart.specs.Places.{place_of}
use Rattle.search.specs.declared.Window.{Window}
use Rattle.search.specs.declared.HowMany.{HowMany}
use Rattle.search.specs.declared.HowMany.TheVariants as many
use Rattle.search.specs.declared.Stopped.{Stopped}
use Rattle.search.specs.Questions.{Question}
use Rattle.search.specs.Answers.{search_of, list_of, figures_in}
use Rattle.records.specs.Refusals.{is_among}
use Rattle.lay.specs.Figures.{SearchTold, many_figures}
use Rattle.listing.specs.Answers.{RecordAnswer, Fix, Grid, Hold, Refused}

-- The refusal number in the answer to a record of a log.
unfoldable pub record_refusal : RecordAnswer → ℕ
record_refusal (Fix visits places rounded) = 0
record_refusal (Grid p rounded) = 0
record_refusal (Hold p rounded) = 0
record_refusal (Refused refusal visits) = refusal_number refusal

-- The same in the answer to the question how many places there are, and its visits.
unfoldable pub many_refusal : Result HowMany Stopped → ℕ
many_refusal (Ok m) = 0
many_refusal (Err s) = refusal_number s.refusal

unfoldable pub many_visits : Result HowMany Stopped → ℕ
many_visits (Ok (many.None visits)) = visits
many_visits (Ok (many.One p visits)) = visits
many_visits (Ok (many.Several visits)) = visits
many_visits (Err s) = s.visits

-- n is 0, which means no refusal, or one of `numbers`.
abbrev pub NoneOr : List ℕ → ℕ → Type 0
NoneOr numbers n = is_among n (0 ∷ numbers) ≡ true

-- n is the number of a refusal: it is not 0.
abbrev pub Refuses : ℕ → Type 0
Refuses n = n ≡ 0 → ⊥

-- What any search leaves in its figures and in a list of `entries` entries.
pub record Leaves (q : Question) (w : Window) (entries : ℕ) : Type 0 where
  -- 0 for an answer, or one of these numbers of 01.
  pub number : NoneOr (3 ∷ 5 ∷ 6 ∷ 7 ∷ 8 ∷ 9 ∷ 10 ∷ []) (figures_in q w).refusal
  -- After a refusal the whole list is zeros, including a left-over half place, and the count is 0.
  pub zeros : Refuses (figures_in q w).refusal → list_of entries (search_of q w).places ≡ replicate entries 0
  pub nought : Refuses (figures_in q w).refusal → (figures_in q w).count ≡ 0
  -- A search that is refused before its walk makes no visit. No search makes more visits than the allowance, and one that is
  -- refused with 10 makes exactly as many.
  pub unvisited : is_among (figures_in q w).refusal (3 ∷ 5 ∷ 6 ∷ 7 ∷ []) ≡ true → (figures_in q w).visits ≡ 0
  pub allowed : (figures_in q w).visits ≤ q.limits.allowance
  pub used_up : (figures_in q w).refusal ≡ 10 → (figures_in q w).visits ≡ q.limits.allowance

-- What the library for C returns for any search by bytes, with a list of `entries` entries: 0 or one of `search_numbers`;
-- after a refusal the list is zeros and the count is 0.
abbrev pub search_numbers : List ℕ
search_numbers = 1 ∷ 2 ∷ 3 ∷ 5 ∷ 6 ∷ 7 ∷ 8 ∷ 9 ∷ 10 ∷ []

abbrev pub SearchIsTold : ℕ → SearchTold → Type 0
SearchIsTold entries t =
    NoneOr search_numbers t.figures.refusal
    × (Refuses t.figures.refusal → (t.list ≡ replicate entries 0) × (t.figures.count ≡ 0))

-- What it returns for any question how many places there are: 0 or one of `many_numbers`. After a refusal the answer is 0, which is
-- none of the three answers; else it is one of them. The place is zeros unless there is one.
abbrev pub many_numbers : List ℕ
many_numbers = 1 ∷ 2 ∷ 3 ∷ 5 ∷ 6 ∷ 7 ∷ 10 ∷ []

abbrev pub ManyIsTold : Result HowMany Stopped → Type 0
ManyIsTold m =
    let f = many_figures m in
    NoneOr many_numbers f.refusal
    × (Refuses f.refusal → f.many ≡ 0)
    × (f.refusal ≡ 0 → is_among f.many (1 ∷ 2 ∷ 3 ∷ []) ≡ true)
    × ((f.many ≡ 2 → ⊥) → f.place ≡ place_of 0 0)
