-- What comes next in a text that is read into a buffer (docs/FORMATS.md, Text).
use Rattle.std.specs.Prelude.{◌≡◌, ℕ, ◌+◌, ◌-◌, ◌≤◌, min, Bool, true, false, cond, List, length, take, drop, nat_lt}
use Rattle.parsing.specs.Words.{run, is_in_line}
use Rattle.files.specs.declared.Input.{Input}
use Rattle.files.specs.declared.Input.TheVariants as input

-- The text of a buffer from `from` up to `to`.
abbrev pub between : ℕ → ℕ → List ℕ → List ℕ
between from to buffer = take (to - from) (drop from buffer)

-- The text contains a newline.
abbrev pub has_newline : List ℕ → Bool
has_newline text = nat_lt (run is_in_line text) (length text)

-- What comes next in the text from `from` up to `to`: its first line, up to the newline; or bytes without one; or nothing.
unfoldable pub next_in : List ℕ → ℕ → ℕ → Input
next_in buffer from to =
    cond (has_newline (between from to buffer)) (input.Line from (from + run is_in_line (between from to buffer)) to)
    (cond (nat_lt from to) input.Cut input.End)

-- `there` if the text ends, and `other` if anything else comes next: for programs that read lines to the end.
abbrev pub at_end : {A : Type 0} → Input → A → A → A
at_end (input.Line start end stop) there other = other
at_end input.Cut there other = other
at_end input.End there other = there
at_end input.Failed there other = other

-- What may come next when more was read after the first `kept` bytes: that reading failed, or what is in the buffer from its
-- front up to `stop`, where the text now ends. Where that is, and what was read, depends on the operating system.
pub data Comes (kept : ℕ) (now : List ℕ) (r : Input) : Type 0 where
  failed : r ≡ input.Failed → Comes kept now r
  read : (stop : ℕ) → kept ≤ stop → stop ≤ length now → r ≡ next_in now 0 stop → Comes kept now r

-- More was read: the text from `from` up to `to` is now at the front, and what comes next depends on the buffer as it is now.
pub record IsRead (before : List ℕ) (from to : ℕ) (now : List ℕ) (r : Input) : Type 0 where
  pub size : length now ≡ length before
  pub front : take (length (between from to before)) now ≡ between from to before
  pub comes : Comes (length (between from to before)) now r

-- Nothing more needs to be read: the text has a whole line.
abbrev pub is_there : List ℕ → ℕ → ℕ → Bool
is_there buffer from to = has_newline (between from to buffer)

abbrev pub NextBy : Bool → List ℕ → ℕ → ℕ → List ℕ → Input → Type 0
NextBy true before from to now r = (now ≡ before) × (r ≡ next_in before from to)
NextBy false before from to now r = IsRead before from to now r

-- What comes next, and what the buffer then holds. A `to` beyond the buffer counts as the buffer's end.
abbrev pub IsNext : List ℕ → ℕ → ℕ → List ℕ → Input → Type 0
IsNext before from to now r =
    NextBy (is_there before from (min to (length before))) before from (min to (length before)) now r
