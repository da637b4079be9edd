-- A number in decimal is one digit, or the digits of its tenth and one more. From this follow its length, and its value read back.
-- The bound of `last_digits` does not matter once it is greater than the number, and a tenth of a number is less than the number.
use Prim.Native.Nat.{ℕ, zero, suc, ◌+◌, ◌-◌, ◌*◌, ◌/◌, ◌%◌, ◌^◌, ◌≤◌, ◌<◌}
use mathlib.Core.Path.{◌≡◌, refl, sym, ap, ◌∙◌}
use mathlib.Core.Bool.{Bool, true, false}
use mathlib.Core.List.{List, [], ◌∷◌, ◌++◌}
use native.Mathlib.Nat.{mod-eq_of_lt, pow-suc}
use native.Mathlib.Omega.{arith}
use lib.Dec.{leb, ltb}
use lib.ListN.{length, get_or, length-append, get_or-append}
use lib.Seq.{get_or_at}
use borrow.Author.Tests.{ltb-true, ltb-false, leb-true, leb-false, le-leb, lt-leb}
use Rattle.text.specs.Texts.{last_digits, digits_of, numeral_from, numeral}

-- With a bound of at least one: a number below 10 is one digit, and any other is the last digits of its tenth and one more.
last_few : (most n : ℕ) → n < 10 → last_digits (suc most) n ≡ (48 + n) ∷ []
unfolding last_digits
last_few most n h = rw (lt-leb 10 n h, mod-eq_of_lt h)

last_more : (most n : ℕ) → 10 ≤ n → last_digits (suc most) n ≡ last_digits most (n / 10) ++ ((48 + n % 10) ∷ [])
unfolding last_digits
last_more most n h = rw (le-leb 10 n h)

-- Two bounds that are greater than the number give the same digits.
last_enough : (k m n : ℕ) → n < k → n < m → last_digits k n ≡ last_digits m n
last_enough zero m n h l = absurd (omega arith)
last_enough (suc k) zero n h l = absurd (omega arith)
last_enough (suc k) (suc m) n h l =
    go (leb 10 n) refl
    (λ (f : 10 ≤ n). last_enough k m (n / 10) (omega arith) (omega arith))
  where
    go : (t : Bool) → leb 10 n ≡ t → (10 ≤ n → last_digits k (n / 10) ≡ last_digits m (n / 10)) →
        last_digits (suc k) n ≡ last_digits (suc m) n
    go true e tenth =
        let f = leb-true 10 n e in
        last_more k n f ∙ ap (λ (l : List ℕ). l ++ ((48 + n % 10) ∷ [])) (tenth f) ∙ sym (last_more m n f)
    go false e tenth = last_few k n (leb-false 10 n e) ∙ sym (last_few m n (leb-false 10 n e))

-- A number below 10 is one digit.
pub digits_few : (n : ℕ) → n < 10 → digits_of n ≡ (48 + n) ∷ []
unfolding digits_of
digits_few n h = last_few n n h

-- Any other is the digits of its tenth, and its last digit.
pub digits_more : (n : ℕ) → 10 ≤ n → digits_of n ≡ digits_of (n / 10) ++ ((48 + n % 10) ∷ [])
unfolding digits_of
digits_more n h =
    last_more n n h
    ∙ ap (λ (l : List ℕ). l ++ ((48 + n % 10) ∷ [])) (last_enough n (suc (n / 10)) (n / 10) (omega arith) (omega arith))

-- A number below 10^d, where d is at least 1, has at most d digits.
pub digits_within : (places n : ℕ) → n < 10 ^ suc places → length (digits_of n) ≤ suc places
digits_within zero n h = omega (arith, ap length (digits_few n h))
digits_within (suc places) n h =
    go (leb 10 n) refl (digits_within places (n / 10) (omega (arith, pow-suc 10 (suc places))))
  where
    go : (t : Bool) → leb 10 n ≡ t → length (digits_of (n / 10)) ≤ suc places → length (digits_of n) ≤ suc (suc places)
    go true e tenth = rw (digits_more n (leb-true 10 n e), length-append) (omega arith)
    go false e tenth = omega (arith, ap length (digits_few n (leb-false 10 n e)))

-- So a number of 32 bits has at most ten digits, and one of 64 bits at most twenty.
pub digits_32 : (n : ℕ) → n < 2 ^ 32 → length (digits_of n) ≤ 10
digits_32 n h = digits_within 9 n (omega arith)

pub digits_64 : (n : ℕ) → n < 2 ^ 64 → length (digits_of n) ≤ 20
digits_64 n h = digits_within 19 n (omega arith)

-- Induction over digits: what holds below 10, and for a number if it holds for its tenth, holds for every number.
up_to : (P : ℕ → Type 0) → ((n : ℕ) → n < 10 → P n) → ((n : ℕ) → 10 ≤ n → P (n / 10) → P n) → (bound n : ℕ) → n < bound → P n
up_to P few more zero n h = absurd (omega arith)
up_to P few more (suc bound) n h = go (leb 10 n) refl (λ (f : 10 ≤ n). up_to P few more bound (n / 10) (omega arith))
  where
    go : (t : Bool) → leb 10 n ≡ t → (10 ≤ n → P (n / 10)) → P n
    go true e tenth = more n (leb-true 10 n e) (tenth (leb-true 10 n e))
    go false e tenth = few n (leb-false 10 n e)

pub by_digits : (P : ℕ → Type 0) → ((n : ℕ) → n < 10 → P n) → ((n : ℕ) → 10 ≤ n → P (n / 10) → P n) → (n : ℕ) → P n
by_digits P few more n = up_to P few more (suc n) n (omega arith)

-- There is at least one digit.
pub digits_some : (n : ℕ) → 1 ≤ length (digits_of n)
digits_some =
    by_digits (λ (n : ℕ). 1 ≤ length (digits_of n)) (λ n h. omega (arith, ap length (digits_few n h)))
    (λ n h tenth. rw (digits_more n h, length-append) (omega arith))

numeral_last : (before : ℕ) (bs : List ℕ) (b : ℕ) →
    numeral_from before (bs ++ (b ∷ [])) ≡ 10 * numeral_from before bs + (b - 48)
unfolding numeral_from
numeral_last before [] b = refl
numeral_last before (c ∷ bs) b = numeral_last (10 * before + (c - 48)) bs b

-- Read back, the digits of a number give the number.
pub reads_back : (n : ℕ) → numeral (digits_of n) ≡ n
unfolding numeral numeral_from
reads_back =
    by_digits (λ (n : ℕ). numeral_from 0 (digits_of n) ≡ n)
    (λ n h. rw (digits_few n h) (omega arith))
    (λ n h tenth. rw (digits_more n h, numeral_last) (omega arith))

-- The first digit of a number is not zero, except for 0 itself.
pub no_spare_zero : (n : ℕ) → 0 < n → 48 < get_or (digits_of n) 0 0
no_spare_zero =
    by_digits (λ (n : ℕ). 0 < n → 48 < get_or (digits_of n) 0 0)
    (λ n h l. rw (digits_few n h) (omega arith))
    (λ n h tenth l.
    let some = digits_some (n / 10) in
    rw (digits_more n h, get_or-append (digits_of (n / 10)) ((48 + n % 10) ∷ []) 0 0 some) (tenth (omega arith)))

-- A byte that is an ASCII digit.
pub record IsDigit (b : ℕ) : Type 0 where
  pub low : 48 ≤ b
  pub high : b ≤ 57

-- Digits with one more digit after them are all digits.
digit_behind : (bs : List ℕ) (b : ℕ) → ((i : ℕ) → i < length bs → IsDigit (get_or bs i 0)) → IsDigit b →
    (i : ℕ) → i < length (bs ++ (b ∷ [])) → IsDigit (get_or (bs ++ (b ∷ [])) i 0)
digit_behind bs b before last i h = go (ltb i (length bs)) refl
  where
    go : (t : Bool) → ltb i (length bs) ≡ t → IsDigit (get_or (bs ++ (b ∷ [])) i 0)
    go true e = let l = ltb-true i (length bs) e in rw (get_or-append bs (b ∷ []) 0 i l) (before i l)
    go false e = rw (get_or_at bs b [] 0 i (omega (arith, length-append bs (b ∷ []), ltb-false i (length bs) e))) last

-- All the bytes of a number in decimal are digits.
pub all_digits : (n i : ℕ) → i < length (digits_of n) → IsDigit (get_or (digits_of n) i 0)
all_digits =
    by_digits (λ (n : ℕ). (i : ℕ) → i < length (digits_of n) → IsDigit (get_or (digits_of n) i 0))
    (λ n h. rw (digits_few n h) (digit_behind [] (48 + n) (λ i l. absurd (omega arith)) (omega arith)))
    (λ n h tenth. rw (digits_more n h) (digit_behind (digits_of (n / 10)) (48 + n % 10) tenth (omega arith)))
