-- The words of a line that are what they are taken for, up to the first that is not.
use Prim.Native.Nat.{ℕ, zero, suc, ◌+◌, ◌≤◌, ◌<◌}
use mathlib.Core.Path.{◌≡◌, refl, sym, ap, ◌∙◌}
use mathlib.Core.Bool.{Bool, true, false, cond, ◌&&◌, and-false}
use mathlib.Core.List.{List}
use native.Mathlib.Omega.{arith}
use native.Mathlib.Numerals.{add-one}
use borrow.Author.Tests.{eqb-true, eqb-false, eq-eqb, ne_eqb, ltb-true, ltb-false}
use lib.Dec.{eqb, ltb}
use Rattle.chart.proofs.PlaceLaws.{both, and_both}
use Rattle.parsing.specs.declared.Form.{Form}
use Rattle.parsing.specs.Words.{word_at, no_word}
use Rattle.parsing.specs.Forms.{words_of, taken_for, is_taken, good_up_to, good_words, is_form}

-- Whether the word i is what it is taken for.
abbrev pub is_good : Form → List ℕ → ℕ → Bool
is_good f s i = is_taken (taken_for f i) (word_at i s)

-- One more, if all before it are good; and none after one that is not.
pub good_more : (f : Form) (s : List ℕ) (i : ℕ) → good_up_to f i s ≡ i → is_good f s i ≡ true → good_up_to f (i + 1) s ≡ i + 1
unfolding good_up_to
good_more f s i all e = rw (add-one i, eq-eqb (good_up_to f i s) i all, e)

pub good_stops : (f : Form) (s : List ℕ) (i n : ℕ) → i < n → good_up_to f i s ≡ i → is_good f s i ≡ false → good_up_to f n s ≡ i
unfolding good_up_to
good_stops f s i zero h all e = absurd (omega arith)
good_stops f s i (suc n) h all e = go (ltb i n) refl (λ l. good_stops f s i n l all e)
  where
    go : (t : Bool) → ltb i n ≡ t → (i < n → good_up_to f n s ≡ i) → good_up_to f (suc n) s ≡ i
    go true l before =
        let same = before (ltb-true i n l) in
        let fewer : eqb (good_up_to f n s) n ≡ false = ne_eqb (good_up_to f n s) n (λ a. omega (arith, a, same, ltb-true i n l)) in
        rw fewer same
    go false l before =
        let last : i ≡ n = omega (arith, h, ltb-false i n l) in
        rw (sym last, e, and-false) all

-- If each of the first n words is good, all are.
pub all_good : (f : Form) (s : List ℕ) (n : ℕ) → ((i : ℕ) → i < n → is_good f s i ≡ true) → good_up_to f n s ≡ n
unfolding good_up_to
all_good f s zero h = refl
all_good f s (suc n) h = rw (eq-eqb (good_up_to f n s) n (all_good f s n (λ i l. h i (omega (arith, l)))), h n (omega arith))

-- So a line is of the form if each of its words is good and no more follow; and then each of them is.
pub form_of : (f : Form) (s : List ℕ) → ((i : ℕ) → i < words_of f → is_good f s i ≡ true) → no_word (words_of f) s ≡ true → is_form f s ≡ true
form_of f s each none = and_both (eq-eqb (good_words f s) (words_of f) (all_good f s (words_of f) each)) none

few : (f : Form) (s : List ℕ) (n : ℕ) → good_up_to f n s ≤ n
unfolding good_up_to
few f s zero = omega arith
few f s (suc n) = go (eqb (good_up_to f n s) n && is_good f s n) (few f s n)
  where
    go : (t : Bool) → good_up_to f n s ≤ n → cond t (suc n) (good_up_to f n s) ≤ suc n
    go true h = omega arith
    go false h = omega (arith, h)

less : (a b : ℕ) → a ≤ b → (a ≡ b → ⊥) → a < b
less a b h other = go (ltb a b) refl
  where
    go : (t : Bool) → ltb a b ≡ t → a < b
    go true e = ltb-true a b e
    go false e = absurd (other (omega (arith, h, ltb-false a b e)))

-- The words before the one that is named in a refusal are what they are taken for, and it is not.
pub good_before : (f : Form) (s : List ℕ) (n i : ℕ) → i < good_up_to f n s → is_good f s i ≡ true
unfolding good_up_to
good_before f s zero i h = absurd (omega (arith, h))
good_before f s (suc n) i h = go (eqb (good_up_to f n s) n && is_good f s n) refl h (good_before f s n i)
  where
    last : (u : Bool) → ltb i n ≡ u → i < suc n → good_up_to f n s ≡ n → is_good f s n ≡ true → (i < good_up_to f n s → is_good f s i ≡ true) →
        is_good f s i ≡ true
    last true m l all e rest = rest (omega (arith, ltb-true i n m, all))
    last false m l all e rest =
        let same : i ≡ n = omega (arith, l, ltb-false i n m) in
        rw same e

    go : (t : Bool) → (eqb (good_up_to f n s) n && is_good f s n) ≡ t → i < cond t (suc n) (good_up_to f n s) →
        (i < good_up_to f n s → is_good f s i ≡ true) → is_good f s i ≡ true
    go false e l rest = rest l
    go true e l rest =
        let two = both (eqb (good_up_to f n s) n) (is_good f s n) e in
        last (ltb i n) refl l (eqb-true (good_up_to f n s) n two.0) two.1 rest

pub bad_there : (f : Form) (s : List ℕ) (n : ℕ) → good_up_to f n s < n → is_good f s (good_up_to f n s) ≡ false
unfolding good_up_to
bad_there f s zero h = absurd (omega (arith, h))
bad_there f s (suc n) h = go (eqb (good_up_to f n s) n) refl (is_good f s n) refl (bad_there f s n)
  where
    go : (t : Bool) → eqb (good_up_to f n s) n ≡ t → (u : Bool) → is_good f s n ≡ u →
        (good_up_to f n s < n → is_good f s (good_up_to f n s) ≡ false) →
        is_good f s (cond (eqb (good_up_to f n s) n && is_good f s n) (suc n) (good_up_to f n s)) ≡ false
    go true e true g rest = absurd (omega (arith, rw (e, g) at h))
    go true e false g rest = rw (e, g) (ap (is_good f s) (eqb-true (good_up_to f n s) n e) ∙ g)
    go false e u g rest =
        let fewer = few f s n in
        let other = eqb-false (good_up_to f n s) n e in
        rw e (rest (less (good_up_to f n s) n fewer other))

pub form_word : (f : Form) (s : List ℕ) (i : ℕ) → is_form f s ≡ true → i < words_of f → is_good f s i ≡ true
form_word f s i h l =
    let all = eqb-true (good_words f s) (words_of f) (both (eqb (good_words f s) (words_of f)) (no_word (words_of f) s) h).0 in
    good_before f s (words_of f) i (omega (arith, l, all))
