-- Lines and words (docs/FORMATS.md, Text).
use Rattle.std.specs.Prelude.{ℕ, zero, suc, ◌+◌, ◌-◌, ◌≤◌, Bool, not, cond, ◌&&◌, ◌||◌, List, [], ◌∷◌, ◌≡◌, leb, eqb, length, get_or, take, drop}
use Rattle.parsing.specs.declared.Span.{Span}

-- How many bytes at the start of a text pass the test `such`, up to the first that does not.
unfoldable pub run : (ℕ → Bool) → List ℕ → ℕ
run such [] = 0
run such (b ∷ bs) = cond (such b) (suc (run such bs)) 0

-- A text is not empty, and all its bytes pass the test.
abbrev pub are_all : (ℕ → Bool) → List ℕ → Bool
are_all such s = leb 1 (length s) && eqb (run such s) (length s)

-- A byte that does not end a line.
abbrev pub is_in_line : ℕ → Bool
is_in_line b = not (eqb b 10)

-- A blank: a space, a tab or a carriage return. Any other byte is a part of a word.
abbrev pub is_blank : ℕ → Bool
is_blank b = eqb b 32 || (eqb b 9 || eqb b 13)

abbrev pub is_in_word : ℕ → Bool
is_in_word b = not (is_blank b)

-- One word and nothing else, as an argument must be.
abbrev pub is_one_word : List ℕ → Bool
is_one_word s = are_all is_in_word s

-- A line from its first word on; that word; and what follows it.
abbrev pub from_word : List ℕ → List ℕ
from_word s = drop (run is_blank s) s

abbrev pub first_word : List ℕ → List ℕ
first_word s = take (run is_in_word (from_word s)) (from_word s)

abbrev pub behind_word : List ℕ → List ℕ
behind_word s = drop (run is_in_word (from_word s)) (from_word s)

-- The word after i others. After the last word there are only empty ones.
unfoldable pub word_at : ℕ → List ℕ → List ℕ
word_at zero s = first_word s
word_at (suc i) s = word_at i (behind_word s)

-- Where the word after i others starts in a line; and where it starts and ends.
unfoldable pub start_at : ℕ → List ℕ → ℕ
start_at zero s = run is_blank s
start_at (suc i) s = (length s - length (behind_word s)) + start_at i (behind_word s)

abbrev pub span_at : ℕ → List ℕ → Span
span_at i s = record { start = start_at i s; end = start_at i s + length (word_at i s) }

-- The span p of the line s has the bytes w.
pub record Spans (s : List ℕ) (w : List ℕ) (p : Span) : Type 0 where
  pub rises : p.start ≤ p.end
  pub inside : p.end ≤ length s
  pub word : take (p.end - p.start) (drop p.start s) ≡ w

-- A line has no word after its first n.
abbrev pub no_word : ℕ → List ℕ → Bool
no_word n s = eqb (length (word_at n s)) 0

-- A line that is passed over: it has no word, or its first word begins with #.
abbrev pub is_passed : List ℕ → Bool
is_passed s = no_word 0 s || eqb (get_or (word_at 0 s) 0 0) 35
