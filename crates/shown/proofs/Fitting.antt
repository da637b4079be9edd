-- A text that is shown fits into its buffer, since the buffer then begins with it.
use Prim.Native.Nat.{ℕ, ◌≤◌}
use mathlib.Core.List.{List}
use mathlib.Core.Path.{◌≡◌, ap}
use native.Mathlib.Omega.{arith}
use lib.ListN.{length, length-append}
use Rattle.std.specs.Prelude.{Result, Ok, Err}
use Rattle.refusals.specs.declared.Refusal.{Refusal}
use Rattle.shown.specs.Rooms.{line_for, buffer_for, text_of}

pub text_fits : (out : List ℕ) (reply : Result (List ℕ) Refusal) {r : Result ℕ Refusal} {after : List ℕ} → r ≡ line_for reply → after ≡ buffer_for out reply → text_of r ≤ length after
unfolding line_for buffer_for
text_fits out (Ok text) answer buffer = omega (arith, ap text_of answer, simp length-append at (ap length buffer))
text_fits out (Err why) answer buffer = omega (arith, ap text_of answer)
