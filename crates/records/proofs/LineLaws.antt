-- The line number does not affect what a record says: no other field shares its bytes.
-- With the first eight bytes written out one by one, what the entry is read from is the same for every line number.
use Prim.Native.Nat.{ℕ, zero, suc, ◌≤◌}
use mathlib.Core.Path.{◌≡◌, refl, ap, ◌∙◌, subst⁻¹}
use mathlib.Core.List.{List, [], ◌∷◌, ◌++◌}
use native.Mathlib.Omega.{arith}
use lib.ListN.{length, get_or, drop}
use borrow.Author.Tests.{le-leb}
use Rattle.fields.specs.Fields.{bytes_of, filled, put_at}
use Rattle.fields.proofs.FieldLaws.{put_inside}
use Rattle.records.specs.LogRecords.{log_record_of, log_entry_of}

-- The first k entries of a list, one by one.
firsts : ℕ → List ℕ → List ℕ
firsts zero s = []
firsts (suc k) s = get_or s 0 0 ∷ firsts k (drop 1 s)

-- A list of at least k entries is its first k entries and the rest.
begins : (k : ℕ) (s : List ℕ) → k ≤ length s → s ≡ firsts k s ++ drop k s
unfolding firsts
begins zero s h = refl
begins (suc k) [] h = absurd (omega arith)
begins (suc k) (b ∷ s) h = ap {B = List ℕ} (λ l. b ∷ l) (begins k s (omega arith))

-- The four bytes of the line number may be any.
away : (n : ℕ) (s : List ℕ) → 8 ≤ length s → log_entry_of (filled 4 s 4 n) ≡ log_entry_of s
unfolding firsts bytes_of log_entry_of log_record_of
away n s h = subst⁻¹ (λ (l : List ℕ). log_entry_of (filled 4 l 4 n) ≡ log_entry_of l) (begins 8 s h) refl

-- A record with another line number gives the same entry.
pub line_away : (s : List ℕ) (n : ℕ) → 8 ≤ length s → log_entry_of (put_at 4 s 4 n) ≡ log_entry_of s
line_away s n h = ap log_entry_of (put_inside 4 s 4 n (le-leb 8 (length s) h)) ∙ away n s h
