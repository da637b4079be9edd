-- Making the entries of a list zero one after the other, from index `from` on. Entries may be of any type that has a zero.
use Prim.Native.Nat.{ℕ, ◌+◌, ◌-◌, ◌≤◌, ◌<◌}
use mathlib.Core.Path.{◌≡◌, refl, sym, ap, ◌∙◌}
use mathlib.Core.List.{List, [], ◌∷◌, ◌++◌, append-nil, append_assoc}
use native.Mathlib.Omega.{arith}
use native.Mathlib.Numerals.{add-one}
use lib.ListN.{length, take, set, replicate, length-set, replicate-append-replicate}
use lib.Seq.{take_all, take-suc-set}

-- So far, up to index i, the list l has the entries of l₀ up to `from`, and zeros after them; it is as long as l₀.
pub record Cleared {A : Type 0} (zero : A) (from i : ℕ) (l₀ l : List A) : Type 0 where
  pub entries : take i l ≡ take from l₀ ++ replicate (i - from) zero
  pub same : length l ≡ length l₀
  pub past : from ≤ i
  pub inside : i - from ≤ length l₀ - from

module _ {A : Type 0} (zero : A) where
  zeros : (n m : ℕ) → n ≡ m → replicate n zero ≡ replicate m zero
  zeros n m e = ap (λ (x : ℕ). replicate x zero) e

  -- Before any entry is cleared; and with one entry more.
  pub cleared_none : (from : ℕ) (l : List A) → Cleared zero from from l l
  cleared_none from l =
      record {
        entries = sym (append-nil (take from l)) ∙ ap (λ (z : List A). take from l ++ z) (zeros 0 (from - from) (omega arith));
        same = refl;
        past = omega arith;
        inside = omega arith;
      }

  pub cleared_more : (from i : ℕ) (l₀ l : List A) → i < length l → Cleared zero from i l₀ l → Cleared zero from (i + 1) l₀ (set l i zero)
  cleared_more from i l₀ l h c =
      record {
        entries =
            ap (λ (n : ℕ). take n (set l i zero)) (add-one i)
            ∙ take-suc-set l i zero h
            ∙ ap (λ (z : List A). z ++ (zero ∷ [])) c.entries
            ∙ append_assoc (take from l₀) (replicate (i - from) zero) (zero ∷ [])
            ∙ ap (λ (z : List A). take from l₀ ++ z)
            (replicate-append-replicate (i - from) 1 zero ∙ zeros (i - from + 1) (i + 1 - from) (omega (arith, c.past)));
        same = length-set l i zero ∙ c.same;
        past = omega (arith, c.past);
        inside = omega (arith, c.past, c.same);
      }

  -- At the end of the list all entries from `from` on are zero.
  pub cleared_all : (from i : ℕ) (l₀ l : List A) → length l ≤ i → Cleared zero from i l₀ l → l ≡ take from l₀ ++ replicate (length l₀ - from) zero
  cleared_all from i l₀ l h c =
      sym (take_all i l h)
      ∙ c.entries
      ∙ ap (λ (z : List A). take from l₀ ++ z) (zeros (i - from) (length l₀ - from) (omega (arith, c.past, c.inside, c.same)))
