-- Bytes cut into chunks of one width: what an iterator yields is the front of what it has left.
use Prim.Native.Nat.{ℕ, ◌+◌, ◌≤◌, min}
use mathlib.Core.Path.{◌≡◌, sym, ap, ◌∙◌}
use mathlib.Core.List.{List, [], ◌++◌, append-nil}
use native.Mathlib.Decide.{dec_le}
use native.Mathlib.Nat.{lt_of_not-le}
use native.Mathlib.Omega.{arith}
use lib.ListN.{length, take, drop, length-append, drop_of_length-le}
use lib.Seq.{take_all, take-append_seam, drop-append_seam}
use Rattle.std.proofs.lemmas.List.{nil_from_length}

-- If a chunk x of at most `width` bytes comes off the front of s, it is the first `width` bytes, and r is what is behind them.
module _ (width : ℕ) (s x r : List ℕ) (cut : s ≡ x ++ r) (size : length x ≡ min width (length s)) where
  both : length s ≡ length x + length r
  both = ap length cut ∙ length-append x r

  pub chunk_is : x ≡ take width s
  chunk_is = go (dec_le width (length s))
    where
      go : Dec (width ≤ length s) → x ≡ take width s
      go (yes h) =
          let full : length x ≡ width = omega (arith, size) in
          sym (ap (λ (l : List ℕ). take width l) cut ∙ ap (λ (n : ℕ). take n (x ++ r)) (sym full) ∙ take-append_seam x r)
      go (no h) =
          let none : r ≡ [] = nil_from_length r (omega (arith, size, both, lt_of_not-le h)) in
          sym (take_all width s (omega (arith, lt_of_not-le h)) ∙ cut ∙ ap (λ (l : List ℕ). x ++ l) none ∙ append-nil x)

  pub behind_chunk : r ≡ drop width s
  behind_chunk = go (dec_le width (length s))
    where
      go : Dec (width ≤ length s) → r ≡ drop width s
      go (yes h) =
          let full : length x ≡ width = omega (arith, size) in
          sym (ap (λ (l : List ℕ). drop width l) cut ∙ ap (λ (n : ℕ). drop n (x ++ r)) (sym full) ∙ drop-append_seam x r)
      go (no h) =
          let none : r ≡ [] = nil_from_length r (omega (arith, size, both, lt_of_not-le h)) in
          none ∙ sym (drop_of_length-le s {i = width} (omega (arith, lt_of_not-le h)))
