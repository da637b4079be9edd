-- How a byte that was typed is shown in a message.
use Rattle.std.specs.Prelude.{ℕ, cond, ◌||◌, ◌==◌, nat_lt}

-- A byte below 32, and 127, might be a command to a terminal: a question mark is shown instead.
abbrev pub shown_byte : ℕ → ℕ
shown_byte b = cond (nat_lt b 32 || b == 127) 63 b
