-- A text put into a buffer: where it ends, and what the buffer then holds.
use Rattle.std.specs.Prelude.{ℕ, ◌+◌, ◌≤◌, ◌≡◌, Bool, cond, List, ◌++◌, length, take, drop}
use Rattle.fields.specs.Fields.{lies_inside}

-- Whether a buffer of `bytes` bytes has room for `text` from `at` on.
abbrev pub room_for : ℕ → ℕ → List ℕ → Bool
room_for bytes at text = lies_inside bytes at (length text)

-- Where the text ends. Without room for it nothing is put, and this is `at`.
unfoldable pub end_after : ℕ → ℕ → List ℕ → ℕ
end_after bytes at text = cond (room_for bytes at text) (at + length text) at

-- The buffer afterwards: it holds the text from `at` on and is otherwise unchanged. Without room, all of it is unchanged.
unfoldable pub with_text : List ℕ → ℕ → List ℕ → List ℕ
with_text out at text = cond (room_for (length out) at text) (take at out ++ (text ++ drop (at + length text) out)) out

-- There was room for `text`: it was put into the buffer from `at` up to `end`, and nothing else in the buffer changed.
pub record Put (before : List ℕ) (at : ℕ) (text now : List ℕ) (end : ℕ) : Type 0 where
  pub fits : at + length text ≤ length before
  pub end_is : end ≡ at + length text
  pub now_is : now ≡ take at before ++ (text ++ drop (at + length text) before)
