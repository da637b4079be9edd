-- What is returned when a text is put at the start of a buffer, and what the buffer then holds.
use Rattle.std.specs.Prelude.{ℕ, ◌+◌, ◌*◌, ◌≤◌, ◌≡◌, Bool, cond, List, ◌++◌, leb, length, drop, ℤ, Result, Ok, Err}
use Rattle.refusals.specs.declared.Refusal.{Refusal}
use Rattle.refusals.specs.declared.Refusal.TheVariants as refusal
use Rattle.text.specs.Puts.{Put}
use Rattle.shown.specs.Expected.{expected_text}

-- The answer for a text is its length. After the text the buffer is unchanged; on a refusal all of it is unchanged.
unfoldable pub line_for : Result (List ℕ) Refusal → Result ℕ Refusal
line_for (Ok text) = Ok (length text)
line_for (Err why) = Err why

unfoldable pub buffer_for : List ℕ → Result (List ℕ) Refusal → List ℕ
buffer_for out (Ok text) = text ++ drop (length text) out
buffer_for out (Err why) = out

-- How many bytes of text there are, according to an answer.
abbrev pub text_of : Result ℕ Refusal → ℕ
text_of (Ok n) = n
text_of (Err why) = 0

-- Room for the line of any record of `count` bytes, with these bytes in hexadecimal. For a buffer that has less the answer is 9.
abbrev pub line_room : ℕ → ℕ
line_room count = 208 + 2 * count

abbrev pub has_line_room : ℕ → ℕ → Bool
has_line_room bytes count = leb (line_room count) bytes

abbrev pub in_room : ℕ → ℕ → Result (List ℕ) Refusal → Result (List ℕ) Refusal
in_room bytes count reply = cond (has_line_room bytes count) reply (Err refusal.NoRoom)

-- All that putting a text into a buffer leaves: the answer, and every byte of the buffer.
pub record Shown : Type 0 where
  pub answer : Result ℕ Refusal
  pub buffer : List ℕ

abbrev pub shown_in : List ℕ → ℕ → Result (List ℕ) Refusal → Shown
shown_in out count reply =
    let told = in_room (length out) count reply in
    record { answer = line_for told; buffer = buffer_for out told }

-- The readings as text, or why there are none.
unfoldable pub reply_of : Result (List ℤ) Refusal → Result (List ℕ) Refusal
reply_of (Ok readings) = Ok (expected_text readings)
reply_of (Err why) = Err why

-- What the code's private functions promise each other: some text was put into a buffer or refused, as above.
pub record IsShown (before : List ℕ) (count : ℕ) (reply : Result (List ℕ) Refusal) (answer : Result ℕ Refusal) (now : List ℕ) : Type 0 where
  pub answer_is : answer ≡ (shown_in before count reply).answer
  pub now_is : now ≡ (shown_in before count reply).buffer

-- And that a text of at most `most` bytes is put if there is room for it.
pub record Puts (before : List ℕ) (at : ℕ) (text : List ℕ) (most : ℕ) (now : List ℕ) (end : ℕ) : Type 0 where
  pub put : at + length text ≤ length before → Put before at text now end
  pub few : length text ≤ most
