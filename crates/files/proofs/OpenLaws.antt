-- The start of a file, from what opening it gave.
use Rattle.std.proofs.Common.{ap, ◌≤◌, ℕ, Option, arith}
use Rattle.files.specs.Answers.{filled_bytes, IsStarted}
use Rattle.files.specs.declared.Opened.{Opened}
use Rattle.files.specs.declared.Opened.TheVariants as opened

-- The start of a file has no more bytes than there is room for, whether or not it could be opened.
pub started_room : (file : Opened) {room : ℕ} (r : Option ℕ) → IsStarted file room r → filled_bytes r ≤ room
started_room (opened.File file) r h = h
started_room opened.Missing r h = omega (arith, ap filled_bytes h)
started_room opened.Failed r h = omega (arith, ap filled_bytes h)
