-- Fields that lie inside the bytes: what reading them gives.
use Prim.Native.Nat.{ℕ, ◌+◌, ◌≤◌}
use mathlib.Core.Path.{◌≡◌}
use mathlib.Core.List.{List}
use lib.ListN.{length}
use borrow.Author.Tests.{le-leb}
use Rattle.std.specs.Prelude.{Some}
use Rattle.fields.specs.Fields.{field_at, four_at, eight_at}
use Rattle.fields.proofs.FieldLaws.{answer_inside}

pub four_inside : (s : List ℕ) (at : ℕ) → at + 4 ≤ length s → four_at s at ≡ Some (field_at 4 s at)
four_inside s at h = answer_inside 4 Some _ s at (le-leb (at + 4) (length s) h)

pub eight_inside : (s : List ℕ) (at : ℕ) → at + 8 ≤ length s → eight_at s at ≡ Some (field_at 8 s at)
eight_inside s at h = answer_inside 8 Some _ s at (le-leb (at + 8) (length s) h)
