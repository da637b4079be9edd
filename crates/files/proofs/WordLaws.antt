-- A word put after the words of a line makes a line of one word more.
use Rattle.std.proofs.Common.{◌≡◌, ℕ, suc, ◌+◌, ◌-◌, ◌<◌, ◌≤◌, Bool, true, false, ◌&&◌, eqb, leb, List, [], ◌∷◌, ◌++◌, length, take, drop, set, sym, refl, ap, ◌∙◌, subst, add-one, arith, length-append, length-take, length-take-le, take-suc-set, take-add, leb-true}
use lib.Seq.{append_snoc}
use Rattle.parsing.specs.Words.{run, is_in_word, is_one_word}
use Rattle.files.specs.Answers.{AreWords, none, one, more, IsLineOf, IsArguments, PutsWord}
use Rattle.files.specs.declared.Words.{Words}
use Rattle.files.specs.declared.Words.TheVariants as words

first_holds : (a b : Bool) → a && b ≡ true → a ≡ true
first_holds true b h = refl
first_holds false b h = h

-- A word has at least one byte.
word_size : (w : List ℕ) → is_one_word w ≡ true → 1 ≤ length w
word_size w h = leb-true 1 (length w) (first_holds (leb 1 (length w)) (eqb (run is_in_word w) (length w)) h)

-- A line without bytes has no words, and a line with bytes has at least one.
words_none : {n : ℕ} {s : List ℕ} → AreWords n s → length s ≡ 0 → n ≡ 0
words_none none e = refl
words_none (one w h) e = absurd (omega (arith, word_size w h))
words_none (more n s w ws h) e = absurd (omega (arith, length-append s (32 ∷ w)))

words_some : {n : ℕ} {s : List ℕ} → AreWords n s → 0 < length s → (m : ℕ) × (n ≡ suc m)
words_some none e = absurd (omega arith)
words_some (one w h) e = (0, refl)
words_some (more n s w ws h) e = (suc n, refl)

one_more_word : (n : ℕ) (s w : List ℕ) → AreWords n s → 0 < length s → is_one_word w ≡ true → AreWords (n + 1) (s ++ (32 ∷ w))
one_more_word n s w ws some h =
    let m = (words_some ws some).0 in
    let e : n ≡ suc m = (words_some ws some).1 in
    let count : suc (suc m) ≡ n + 1 = omega arith in
    subst (λ (k : ℕ). AreWords k (s ++ (32 ∷ w))) count (more m s w (subst (λ (k : ℕ). AreWords k s) e ws) h)

-- The first word is put into a line.
pub puts_first : (before now : List ℕ) (r : Words) (n end i : ℕ) → end ≡ 0 → PutsWord before 0 i now r → AreWords n (take end before) → n ≡ i - 1 → IsLineOf (n + 1) now r
puts_first before now (words.Line e) n end i start puts ws which =
    let same : e - 0 ≡ e = omega arith in
    let count : 1 ≡ n + 1 = omega (arith, words_none ws (ap (λ (k : ℕ). length (take k before)) start)) in
    (puts.0, subst (λ (k : ℕ). AreWords k (take e now)) count (one (take e now) (ap (λ (k : ℕ). is_one_word (take k now)) (sym same) ∙ puts.1.1)))
puts_first before now (words.Unfit k) n end i start puts ws which = omega (arith, puts, which)
puts_first before now words.Helped n end i start puts ws which = puts

-- A further word is put, after a space.
pub puts_next : (before now : List ℕ) (r : Words) (n end i : ℕ) → 0 < end → end < length before → PutsWord (set before end 32) (end + 1) i now r → AreWords n (take end before) → n ≡ i - 1 → IsLineOf (n + 1) now r
puts_next before now (words.Line e) n end i some room puts ws which =
    let w = take (e - (end + 1)) (drop (end + 1) now) in
    let behind : end + 1 + (e - (end + 1)) ≡ e = omega (arith, word_size w puts.1.1, length-take (e - (end + 1)) (drop (end + 1) now)) in
    let spaced : take (end + 1) now ≡ take end before ++ (32 ∷ []) =
    puts.1.0 ∙ ap (λ (k : ℕ). take k (set before end 32)) (add-one end) ∙ take-suc-set before end 32 room in
    let line : take end before ++ (32 ∷ w) ≡ take e now =
    sym (append_snoc (take end before) 32 w)
    ∙ ap (λ (l : List ℕ). l ++ w) (sym spaced)
    ∙ sym (take-add (end + 1) (e - (end + 1)) now)
    ∙ ap (λ (k : ℕ). take k now) behind in
    (puts.0, subst (AreWords (n + 1)) line (one_more_word n (take end before) w ws (omega (arith, length-take-le end before (omega arith))) puts.1.1))
puts_next before now (words.Unfit k) n end i some room puts ws which = omega (arith, puts, which)
puts_next before now words.Helped n end i some room puts ws which = puts

-- The line of the arguments ends within its buffer.
pub line_inside : (line : List ℕ) (r : Words) {n : ℕ} → IsArguments line r → r ≡ words.Line n → n ≤ length line
line_inside line r given is = (subst (IsArguments line) is given).0
