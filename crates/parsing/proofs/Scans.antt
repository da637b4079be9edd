-- The run of bytes at the start of a text that pass a test, and what follows it.
use Prim.Native.Nat.{ℕ, zero, suc, ◌+◌, ◌-◌, ◌≤◌, ◌<◌}
use mathlib.Core.Path.{◌≡◌, refl, sym, ap, ◌∙◌}
use mathlib.Core.Bool.{Bool, true, false}
use mathlib.Core.List.{List, [], ◌∷◌}
use native.Mathlib.Omega.{arith}
use native.Mathlib.Numerals.{add-one}
use lib.ListN.{length, get_or, take, drop, drop_of_length-le, length-drop}
use lib.Seq.{drop-cons, drop-drop}
use Rattle.parsing.specs.Words.{run, is_blank, is_in_word, from_word, first_word, behind_word, word_at, start_at, Spans}

-- The run from i on is one longer than the run from i + 1 on if the byte at i passes the test. It is empty if the byte does
-- not, or if the text has ended.
pub run_more : (such : ℕ → Bool) (s : List ℕ) (i : ℕ) → i < length s → such (get_or s i 0) ≡ true → run such (drop i s) ≡ suc (run such (drop (i + 1) s))
unfolding run
run_more such s i h e = rw (drop-cons s i 0 h, e, add-one)

pub run_stops : (such : ℕ → Bool) (s : List ℕ) (i : ℕ) → i < length s → such (get_or s i 0) ≡ false → run such (drop i s) ≡ 0
unfolding run
run_stops such s i h e = rw (drop-cons s i 0 h, e)

pub run-ended : (such : ℕ → Bool) (s : List ℕ) (i : ℕ) → length s ≤ i → run such (drop i s) ≡ 0
unfolding run
run-ended such s i h = rw (drop_of_length-le s h)

-- A run is never longer than its text.
pub run-within : (such : ℕ → Bool) (s : List ℕ) → run such s ≤ length s
unfolding run
run-within such [] = omega arith
run-within such (b ∷ bs) = go (such b) refl (run-within such bs)
  where
    go : (t : Bool) → such b ≡ t → run such bs ≤ length bs → run such (b ∷ bs) ≤ suc (length bs)
    go true e h = rw (e) (omega (arith, h))
    go false e h = rw (e) (omega arith)

pub scan_within : (such : ℕ → Bool) (s : List ℕ) (from : ℕ) → from ≤ length s → from + run such (drop from s) ≤ length s
scan_within such s from h = omega (arith, run-within such (drop from s), length-drop from s, h)

-- Two scans: past the blanks from `at` on, then past the word after them.
pub record Scanned (s : List ℕ) (at start end : ℕ) : Type 0 where
  pub inside : at ≤ length s
  pub to_start : start ≡ at + run is_blank (drop at s)
  pub to_end : end ≡ start + run is_in_word (drop start s)

from_word_lem : {s : List ℕ} {at start end : ℕ} → Scanned s at start end → from_word (drop at s) ≡ drop start s
from_word_lem {s} {at} {start} {end} h =
    drop-drop (run is_blank (drop at s)) at s
    ∙ ap (λ (n : ℕ). drop n s) (sym h.to_start)

-- What is left of the line after both scans is what follows the word,
pub scanned_behind : {s : List ℕ} {at start end : ℕ} → Scanned s at start end → behind_word (drop at s) ≡ drop end s
scanned_behind {s} {at} {start} {end} h =
    ap (λ (t : List ℕ). drop (run is_in_word t) t) (from_word_lem h)
    ∙ drop-drop (run is_in_word (drop start s)) start s
    ∙ ap (λ (n : ℕ). drop n s) (sym h.to_end)

pub scanned_start : {s : List ℕ} {at start end : ℕ} → Scanned s at start end → start ≤ length s
scanned_start {s} {at} {start} {end} h = omega (arith, h.to_start, scan_within is_blank s at h.inside)

pub scanned_end : {s : List ℕ} {at start end : ℕ} → Scanned s at start end → end ≤ length s
scanned_end {s} {at} {start} {end} h = omega (arith, h.to_end, scan_within is_in_word s start (scanned_start h))

-- and the bytes between their ends are the word.
pub scanned_word : {s : List ℕ} {at start end : ℕ} → Scanned s at start end → Spans s (first_word (drop at s)) (record { start = start; end = end })
scanned_word {s} {at} {start} {end} h =
    let size : end - start ≡ run is_in_word (drop start s) = omega (arith, h.to_end) in
    record {
      rises = omega (arith, h.to_end);
      inside = scanned_end h;
      word =
          ap (λ (n : ℕ). take n (drop start s)) size
          ∙ sym (ap (λ (t : List ℕ). take (run is_in_word t) t) (from_word_lem h));
    }

-- The word after i others is the word after i - 1 others in what follows the first word.
pub word_next : (i : ℕ) (s : List ℕ) → 0 < i → word_at i s ≡ word_at (i - 1) (behind_word s)
unfolding word_at
word_next zero s h = absurd (omega arith)
word_next (suc i) s h = let one_less : i ≡ suc i - 1 = omega arith in ap (λ (n : ℕ). word_at n (behind_word s)) one_less

-- So is the place where it starts, after the bytes up to there.
pub start_next : (i : ℕ) (s : List ℕ) → 0 < i → start_at i s ≡ (length s - length (behind_word s)) + start_at (i - 1) (behind_word s)
unfolding start_at
start_next zero s h = absurd (omega arith)
start_next (suc i) s h =
    let one_less : i ≡ suc i - 1 = omega arith in
    ap (λ (n : ℕ). (length s - length (behind_word s)) + start_at n (behind_word s)) one_less

pub start_first : (i : ℕ) (s : List ℕ) → i ≡ 0 → start_at i s ≡ run is_blank s
unfolding start_at
start_first zero s h = refl
start_first (suc i) s h = absurd (omega arith)

-- A turn of the scan over a word: the place where the word after `left` others starts, from `at` on and from `end` on.
pub scanned_start_at : {s : List ℕ} {at start end : ℕ} (left : ℕ) → Scanned s at start end → 0 < left →
    end + start_at (left - 1) (drop end s) ≡ at + start_at left (drop at s)
scanned_start_at {s} {at} {start} {end} left h some =
    let behind = scanned_behind h in
    let next = start_next left (drop at s) some in
    let rest : start_at (left - 1) (behind_word (drop at s)) ≡ start_at (left - 1) (drop end s) = ap (start_at (left - 1)) behind in
    let shorter : length (behind_word (drop at s)) ≡ length (drop end s) = ap length behind in
    omega (
      arith,
      next,
      rest,
      shorter,
      length-drop at s,
      length-drop end s,
      scanned_end h,
      h.to_start,
      h.to_end,
      h.inside,
    )

pub word_first : (i : ℕ) (s : List ℕ) → i ≡ 0 → word_at i s ≡ first_word s
unfolding word_at
word_first zero s h = refl
word_first (suc i) s h = absurd (omega arith)
