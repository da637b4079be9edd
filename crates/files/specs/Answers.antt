-- What the functions promise about their answers: an opened file, how much of a buffer is filled, and the line of the arguments.
use Rattle.std.specs.Prelude.{◌≡◌, ℕ, suc, ◌-◌, ◌<◌, ◌≤◌, Bool, true, false, cond, T, List, [], ◌∷◌, ◌++◌, length, take, drop, ℤ, pos, ◌==◌, Option, None, Some, Result, Ok, Err}
use Rattle.std.specs.Ordering.{int_eq}
use Rattle.std.specs.Fd.{file_raw_fd}
use Rattle.std.specs.declared.fs.File.{File}
use Rattle.std.specs.declared.io.Error.{Error}
use Rattle.std.specs.IoError.{raw_os_error}
use Rattle.std.specs.Int.Signed.{non_neg}
use Rattle.parsing.specs.Words.{is_one_word}
use Rattle.files.specs.declared.Opened.{Opened}
use Rattle.files.specs.declared.Opened.TheVariants as opened
use Rattle.files.specs.declared.Words.{Words}
use Rattle.files.specs.declared.Words.TheVariants as words

-- A file that was opened has a descriptor, which is not below 0.
abbrev pub IsOpen : Opened → Type 0
IsOpen (opened.File file) = T (non_neg (file_raw_fd file))
IsOpen opened.Missing = Unit {0}
IsOpen opened.Failed = Unit {0}

-- The same for a fresh file.
abbrev pub IsBegun : Option File → Type 0
IsBegun (Some file) = T (non_neg (file_raw_fd file))
IsBegun None = Unit {0}

-- Whether a call failed with an error of the operating system that has this number.
abbrev pub is_error : Option ℤ → ℤ → Bool
is_error None number = false
is_error (Some n) number = int_eq n number

-- The result of opening a file, from what the call returned: error 2, which is ENOENT, means that there is no such file.
abbrev pub not_opened : Error → Opened
not_opened error = cond (is_error (raw_os_error error) (pos 2)) opened.Missing opened.Failed

abbrev pub opened_by : Result File Error → Opened
opened_by (Ok file) = cond (non_neg (file_raw_fd file)) (opened.File file) opened.Failed
opened_by (Err error) = not_opened error

-- How many bytes were read: none if reading failed.
abbrev pub filled_bytes : Option ℕ → ℕ
filled_bytes (Some n) = n
filled_bytes None = 0

-- The answer if the file has no bytes.
abbrev pub no_bytes : Option ℕ
no_bytes = Some 0

-- The answer when the start of a file is read into a buffer of `room` bytes, according to how opening the file went.
abbrev pub IsStarted : Opened → ℕ → Option ℕ → Type 0
IsStarted (opened.File file) room r = filled_bytes r ≤ room
IsStarted opened.Missing room r = r ≡ no_bytes
IsStarted opened.Failed room r = r ≡ None

-- A text is a given number of words, with single spaces between them.
pub data AreWords : ℕ → List ℕ → Type 0 where
  none : AreWords 0 []
  one : (w : List ℕ) → is_one_word w ≡ true → AreWords 1 w
  more : (n : ℕ) (s w : List ℕ) → AreWords (suc n) s → is_one_word w ≡ true → AreWords (suc (suc n)) (s ++ (32 ∷ w))

-- The line of `count` arguments at the start of a buffer; or which of them is unfit.
abbrev pub IsLineOf : ℕ → List ℕ → Words → Type 0
IsLineOf count line (words.Line n) = (n ≤ length line) × AreWords count (take n line)
IsLineOf count line (words.Unfit i) = i < count
IsLineOf count line words.Helped = ⊥

-- If help is asked for there is no line; else there may be one, of any number of words.
abbrev pub IsGiven : Bool → List ℕ → Words → Type 0
IsGiven true line r = r ≡ words.Helped
IsGiven false line r = (count : ℕ) × IsLineOf count line r

-- What holds in either case, whether or not help is asked for.
abbrev pub IsArguments : List ℕ → Words → Type 0
IsArguments line (words.Line n) = (n ≤ length line) × ((count : ℕ) × AreWords count (take n line))
IsArguments line (words.Unfit i) = Unit {0}
IsArguments line words.Helped = Unit {0}

-- No argument was given, and help was not asked for.
abbrev pub none_given : Words → Bool
none_given (words.Line n) = n == 0
none_given (words.Unfit i) = false
none_given words.Helped = false

-- The arguments of a program that takes none: a line of at most one byte.
abbrev pub IsSpare : Words → Type 0
IsSpare (words.Line n) = n ≤ 1
IsSpare (words.Unfit i) = Unit {0}
IsSpare words.Helped = Unit {0}

-- Argument `i` was put into a line as a word, from `at` up to `end`, and what is before `at` did not change. The program's own name
-- is argument 0, so the first that may be unfit is argument 1.
abbrev pub PutsWord : List ℕ → ℕ → ℕ → List ℕ → Words → Type 0
PutsWord before at i now (words.Line end) = (end ≤ length now) × ((take at now ≡ take at before) × (is_one_word (take (end - at) (drop at now)) ≡ true))
PutsWord before at i now (words.Unfit which) = which ≡ i - 1
PutsWord before at i now words.Helped = ⊥
