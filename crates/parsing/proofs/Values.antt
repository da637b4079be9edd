-- The value of digits as the code works it out, and numbers in fields of a given number of bits.
use Prim.Native.Nat.{ℕ, ◌+◌, ◌-◌, ◌*◌, ◌^◌, ◌≤◌, ◌<◌}
use mathlib.Core.Path.{◌≡◌, refl, ap, ◌∙◌}
use mathlib.Core.Bool.{Bool, true, false}
use mathlib.Core.List.{List, [], ◌∷◌}
use native.Mathlib.Omega.{arith}
use native.Mathlib.Numerals.{add-one}
use borrow.Author.Tests.{ltb-false, lt-ltb, le-ltb}
use lib.Dec.{ltb}
use lib.ListN.{length, get_or, drop, drop_of_length-le}
use lib.Seq.{drop-cons}
use Rattle.std.specs.Prelude.{Option, Some, None}
use Rattle.text.specs.Texts.{numeral_from}
use Rattle.parsing.specs.Numbers.{held}
use Rattle.parsing.specs.Scanning.{sized_of, held_to, held_in}

-- The value after one more digit, and after the last.
pub numeral_more : (n : ℕ) (w : List ℕ) (i : ℕ) → i < length w → numeral_from n (drop i w) ≡ numeral_from (10 * n + (get_or w i 0 - 48)) (drop (i + 1) w)
unfolding numeral_from
numeral_more n w i h = rw (drop-cons w i 0 h, add-one)

pub numeral-ended : (n : ℕ) (w : List ℕ) (i : ℕ) → length w ≤ i → numeral_from n (drop i w) ≡ n
unfolding numeral_from
numeral-ended n w i h = rw (drop_of_length-le w h)

-- Further digits never make a number smaller.
pub numeral_grows : (n : ℕ) (w : List ℕ) → n ≤ numeral_from n w
unfolding numeral_from
numeral_grows n [] = omega arith
numeral_grows n (b ∷ bs) = omega (arith, numeral_grows (10 * n + (b - 48)) bs)

-- A number of at most 64 bits is given, and a larger one is not.
pub sized_small : (n : ℕ) → n < 2 ^ 64 → sized_of n ≡ Some n
sized_small n h = rw (lt-ltb n (2 ^ 64) h)

pub sized_large : (n : ℕ) → 2 ^ 64 ≤ n → sized_of n ≡ None
sized_large n h = rw (le-ltb n (2 ^ 64) h)

pub sized_value : (n m : ℕ) → sized_of n ≡ Some m → n ≡ m
sized_value n m e = go (ltb n (2 ^ 64)) refl e
  where
    go : (t : Bool) → ltb n (2 ^ 64) ≡ t → sized_of n ≡ Some m → n ≡ m
    go true f e = let same : Some n ≡ Some m = rw f at e in cc same
    go false f e = let never : None ≡ Some m = rw f at e in absurd (cc never)

pub sized_over : (n : ℕ) → sized_of n ≡ None → 2 ^ 64 ≤ n
sized_over n e = go (ltb n (2 ^ 64)) refl e
  where
    go : (t : Bool) → ltb n (2 ^ 64) ≡ t → sized_of n ≡ None → 2 ^ 64 ≤ n
    go true f e = let never : Some n ≡ None = rw f at e in absurd (cc never)
    go false f e = ltb-false n (2 ^ 64) f

-- So a field of at most 64 bits holds the same of it as of the number itself.
pub held_sized : (bits n : ℕ) → 2 ^ bits ≤ 2 ^ 64 → held_in bits (sized_of n) ≡ held bits n
unfolding held_to
held_sized bits n h = go (ltb n (2 ^ 64)) refl
  where
    go : (t : Bool) → ltb n (2 ^ 64) ≡ t → held_in bits (sized_of n) ≡ held bits n
    go true e = rw (e)
    go false e = rw (e) (omega (arith, ltb-false n (2 ^ 64) e))

-- What a field holds of a number that is given in this way.
pub held_told : (bits m : ℕ) {n : Option ℕ} {r : ℕ} → 2 ^ bits ≤ 2 ^ 64 → r ≡ held_in bits n → n ≡ sized_of m → r ≡ held bits m
held_told bits m h r-is n-is = r-is ∙ ap (held_in bits) n-is ∙ held_sized bits m h

pub held_32 : (n : ℕ) → held_in 32 (sized_of n) ≡ held 32 n
held_32 n = held_sized 32 n (omega arith)

pub held_within : (most : ℕ) (n : Option ℕ) → held_to most n ≤ most
unfolding held_to
held_within most (Some n) = omega arith
held_within most None = omega arith
