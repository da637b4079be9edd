-- Which numbers a refusal may have. A test selects one of two answers: if both are allowed, the selected one is.
use Prim.Native.Nat.{ℕ}
use mathlib.Core.Path.{◌≡◌, refl}
use mathlib.Core.Bool.{Bool, true, false, cond}
use mathlib.Core.List.{List}
use lib.IntN.{ℤ}
use Rattle.std.specs.Prelude.{Option, Some, None, Result, Err}
use Rattle.refusals.specs.declared.Refusal.{Refusal}
use Rattle.refusals.specs.declared.Refusal.TheVariants as refusal
use Rattle.refusals.specs.Numbers.{number_told}
use Rattle.records.specs.declared.LogEntry.{LogEntry}
use Rattle.records.specs.Bytes.{unless}
use Rattle.records.specs.LogRecords.{pair_of, with_pair}
use Rattle.records.specs.Refusals.{is_among}

-- The refusal number of an answer is one of `numbers`.
abbrev pub Among : {A : Type 0} → List ℕ → Result A Refusal → Type 0
Among numbers answer = is_among (number_told answer) numbers ≡ true

-- What holds of both answers holds of the one that a test selects.
pub unless-either : {A : Type 0} (P : A → Type 0) (t : Bool) {refused rest : A} → P refused → P rest → P (unless t refused rest)
unless-either P true h k = k
unless-either P false h k = h

-- If the answer is not a test's refusal, the test has passed and the rest has given the answer.
pub passed : {A : Type 0} (t : Bool) {refused rest answer : A} → (refused ≡ answer → ⊥) →
    unless t refused rest ≡ answer → (t ≡ true) × (rest ≡ answer)
passed true n e = (refl, e)
passed false n e = absurd (n e)

pub either_kind : {A : Type 0} (P : A → Type 0) (t : Bool) {kind rest : A} → P kind → P rest → P (cond t kind rest)
either_kind P true h k = h
either_kind P false h k = k

-- Two numbers give their entry, or refusal 3.
pub both_or_three : (P : Result LogEntry Refusal → Type 0) (give : ℤ → ℤ → Result LogEntry Refusal) (x y : Option ℤ) → P (Err refusal.Number) → ((a b : ℤ) → P (give a b)) → P (with_pair give (pair_of x y))
both_or_three P give (Some x) (Some y) h k = k x y
both_or_three P give (Some x) None h k = h
both_or_three P give None y h k = h
