-- Words that are put one after the other, each after a space, are the words of the line that they make.
use Prim.Native.Nat.{ℕ, zero, suc, ◌+◌, ◌≤◌, ◌<◌}
use mathlib.Core.Path.{◌≡◌, refl, sym, ap, ◌∙◌}
use mathlib.Core.Bool.{Bool, true, false}
use mathlib.Core.List.{List, [], ◌∷◌, ◌++◌, append-nil, append_assoc}
use native.Mathlib.Omega.{arith}
use borrow.Author.Tests.{not-true}
use lib.ListN.{length, get_or, take, drop, length-append}
use lib.Seq.{take_at, drop_at}
use Rattle.parsing.specs.Words.{run, is_blank, is_in_word, from_word, first_word, behind_word, word_at}

-- A word: not empty, and without a blank.
pub record IsWord (w : List ℕ) : Type 0 where
  pub some : 1 ≤ length w
  pub whole : run is_in_word w ≡ length w

abbrev pub EachIsWord : List (List ℕ) → Type 0
EachIsWord [] = Unit {0}
EachIsWord (w ∷ ws) = IsWord w × EachIsWord ws

-- Words, each after a space.
unfoldable pub spaced_words : List (List ℕ) → List ℕ
spaced_words [] = []
spaced_words (w ∷ ws) = (32 ∷ w) ++ spaced_words ws

pub spaced_both : (ws vs : List (List ℕ)) → spaced_words ws ++ spaced_words vs ≡ spaced_words (ws ++ vs)
unfolding spaced_words
spaced_both [] vs = refl
spaced_both (w ∷ ws) vs =
    append_assoc (32 ∷ w) (spaced_words ws) (spaced_words vs) ∙ ap (λ (rest : List ℕ). (32 ∷ w) ++ rest) (spaced_both ws vs)

pub spaced_one : (w : List ℕ) → 32 ∷ w ≡ spaced_words (w ∷ [])
unfolding spaced_words
spaced_one w = sym (append-nil (32 ∷ w))

-- A run that covers all of w goes on into what follows w; and it covers all of w if each byte of w passes the test.
run_first : (such : ℕ → Bool) (b : ℕ) (bs : List ℕ) → run such (b ∷ bs) ≡ suc (length bs) →
    (such b ≡ true) × (run such bs ≡ length bs)
unfolding run
run_first such b bs h = go (such b) refl
  where
    go : (t : Bool) → such b ≡ t → (such b ≡ true) × (run such bs ≡ length bs)
    go true e = (e, omega (arith, rw e at h))
    go false e = absurd (omega (arith, rw e at h))

run_front : (such : ℕ → Bool) (w rest : List ℕ) → run such w ≡ length w → run such (w ++ rest) ≡ length w + run such rest
unfolding run
run_front such [] rest h = omega arith
run_front such (b ∷ bs) rest h =
    let first = run_first such b bs h in
    rw first.0 (omega (arith, run_front such bs rest first.1))

-- A word and bytes that are no blanks, one after the other, are a word.
pub word_joined : (w v : List ℕ) → IsWord w → run is_in_word v ≡ length v → IsWord (w ++ v)
word_joined w v h e =
    record {
      some = omega (arith, h.some, length-append w v);
      whole = run_front is_in_word w v h.whole ∙ omega (arith, e, length-append w v);
    }

pub run_all : (such : ℕ → Bool) (w : List ℕ) → ((i : ℕ) → i < length w → such (get_or w i 0) ≡ true) → run such w ≡ length w
unfolding run
run_all such [] h = refl
run_all such (b ∷ bs) h = rw (h 0 (omega arith)) (omega (arith, run_all such bs (λ i l. h (suc i) (omega arith))))

-- A space ends a word, and so does the end of the line.
words_ended : (ws : List (List ℕ)) → run is_in_word (spaced_words ws) ≡ 0
unfolding run spaced_words
words_ended [] = refl
words_ended (w ∷ ws) = refl

-- A word does not begin with a blank.
no_blank : (w rest : List ℕ) → IsWord w → run is_blank (w ++ rest) ≡ 0
unfolding run
no_blank [] rest h = absurd (omega (arith, h.some))
no_blank (b ∷ bs) rest h = rw (not-true (is_blank b) (run_first is_in_word b bs h.whole).0)

module _ (w : List ℕ) (ws : List (List ℕ)) (h : IsWord w) where
  from_spaced : from_word (spaced_words (w ∷ ws)) ≡ w ++ spaced_words ws
  unfolding run spaced_words
  from_spaced = rw (no_blank w (spaced_words ws) h)

  as_long : length w ≡ run is_in_word (w ++ spaced_words ws)
  as_long = omega (arith, run_front is_in_word w (spaced_words ws) h.whole, words_ended ws)

  first_spaced : first_word (spaced_words (w ∷ ws)) ≡ w
  first_spaced = ap (λ (t : List ℕ). take (run is_in_word t) t) from_spaced ∙ take_at w (spaced_words ws) _ as_long

  behind_spaced : behind_word (spaced_words (w ∷ ws)) ≡ spaced_words ws
  behind_spaced = ap (λ (t : List ℕ). drop (run is_in_word t) t) from_spaced ∙ drop_at w (spaced_words ws) _ as_long

-- The words of the line are these words, and after them there are only empty ones.
pub words_back : (ws : List (List ℕ)) → EachIsWord ws → (i : ℕ) → word_at i (spaced_words ws) ≡ get_or ws i []
unfolding word_at run spaced_words
words_back [] h zero = refl
words_back [] h (suc i) = words_back [] h i
words_back (w ∷ ws) h zero = first_spaced w ws h.0
words_back (w ∷ ws) h (suc i) = ap (word_at i) (behind_spaced w ws h.0) ∙ words_back ws h.1 i
