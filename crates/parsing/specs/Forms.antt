-- The form of a line: what each of its words is taken for, and what is wrong with one that is not that (docs/FORMATS.md, Text).
use Rattle.std.specs.Prelude.{ℕ, zero, suc, Bool, not, cond, ◌&&◌, ◌||◌, List, ltb, eqb, length}
use Rattle.text.specs.Texts.{numeral}
use Rattle.parsing.specs.declared.Form.{Form}
use Rattle.parsing.specs.declared.Form.TheVariants as form
use Rattle.parsing.specs.declared.Taken.{Taken}
use Rattle.parsing.specs.declared.Taken.TheVariants as taken
use Rattle.parsing.specs.declared.Wrong.{Wrong}
use Rattle.parsing.specs.declared.Wrong.TheVariants as wrong
use Rattle.parsing.specs.Words.{run, word_at, no_word}
use Rattle.parsing.specs.Numbers.{is_number, fits, is_length, is_below, is_reading}

-- How many words a line has, and what its word i, counted from 0, is taken for. The last word of a job, its allowance, and that of a
-- chain, its factor, may be missing.
unfoldable pub words_of : Form → ℕ
words_of form.Job = 5
words_of form.Chain = 7
words_of form.Draft = 5
words_of form.Question = 3
words_of form.Readings = 3

unfoldable pub taken_for : Form → ℕ → Taken
taken_for form.Job i = cond (eqb i 2) taken.Number (cond (eqb i 4) taken.Allowance taken.Length)
taken_for form.Chain i = cond (eqb i 6) taken.Factor taken.Length
taken_for form.Draft i = cond (ltb i 2) taken.Number (cond (eqb i 2) taken.Line taken.Reading)
taken_for form.Question i = cond (eqb i 0) taken.Number taken.Length
taken_for form.Readings i = cond (eqb i 0) taken.Number taken.Reading

-- Whether a word is what it is taken for. A line number has 32 bits, and an allowance 64.
unfoldable pub is_taken : Taken → List ℕ → Bool
is_taken taken.Number w = is_number w
is_taken taken.Line w = is_number w && fits 32 (numeral w)
is_taken taken.Allowance w = eqb (length w) 0 || (is_number w && fits 64 (numeral w))
is_taken taken.Length w = is_length w
is_taken taken.Reading w = is_reading w
is_taken taken.Factor w = eqb (length w) 0 || is_number w

-- How many of the first n words are what they are taken for, up to the first that is not.
unfoldable pub good_up_to : Form → ℕ → List ℕ → ℕ
good_up_to f zero s = 0
good_up_to f (suc n) s =
    cond (eqb (good_up_to f n s) n && is_taken (taken_for f n) (word_at n s)) (suc n) (good_up_to f n s)

abbrev pub good_words : Form → List ℕ → ℕ
good_words f s = good_up_to f (words_of f) s

-- A line of the form: all its words are what they are taken for, and there are no more.
abbrev pub is_form : Form → List ℕ → Bool
is_form f s = eqb (good_words f s) (words_of f) && no_word (words_of f) s

-- A byte that is not a point; and a word that has a point.
abbrev pub is_no_point : ℕ → Bool
is_no_point b = not (eqb b 46)

abbrev pub has_point : List ℕ → Bool
has_point w = ltb (run is_no_point w) (length w)

-- What is wrong with a word that is not what it is taken for.
unfoldable pub wrong_in : Taken → List ℕ → Wrong
wrong_in taken.Number w = wrong.Digits
wrong_in taken.Line w = cond (is_number w) wrong.Large wrong.Digits
wrong_in taken.Allowance w = cond (is_number w) wrong.Large wrong.Digits
wrong_in taken.Length w = cond (is_below w) wrong.Sign (cond (has_point w) wrong.Decimals wrong.Figures)
wrong_in taken.Reading w = cond (has_point w) wrong.Decimals wrong.Figures
wrong_in taken.Factor w = wrong.Digits

-- The same for the word i of a line, which may be missing, or one too many.
unfoldable pub wrong_at : Form → List ℕ → ℕ → Wrong
wrong_at f s i =
    cond (no_word i s) wrong.Missing (cond (ltb i (words_of f)) (wrong_in (taken_for f i) (word_at i s)) wrong.Spare)
