-- The whole number nearest to a fraction a / b, a tie going to the even one: it is `closest a b`, and no other number.
use Prim.Native.Nat.{ℕ, suc, ◌+◌, ◌-◌, ◌*◌, ◌/◌, ◌%◌, ◌^◌, ◌≤◌, ◌<◌, compare, Ordering}
use mathlib.Core.Path.{◌≡◌, subst}
use mathlib.Core.Bool.{not}
use native.Mathlib.Nat.{zero-mul, add-mul, suc-mul, div-add-mod', mod-lt, mul-le-mul_right, eq_of_mul-eq-mul_right, le_antisymm, lt_of_not-le, le_of_suc-le-suc}
use native.Mathlib.Numerals.{add-one}
use native.Mathlib.Omega.{arith}
use lib.Pow.{pow_pos, pow_mono}
use lib.Dec.{T, is_le, compare_is_eq, eqb, leb→le, nleb→lt, eqb→eq, eqb_refl}
use lib.Ieee.{nearest}
use lib.Ieee.Nearest.{closest}

-- c is at most a half off a / b, and even if exactly a half off.
pub record Near (a b c : ℕ) : Type 0 where
  pub near : 2 * ((c * b - a) + (a - c * b)) ≤ b
  pub tie : 2 * ((c * b - a) + (a - c * b)) ≡ b → c % 2 ≡ 0

-- A number less than a half off is near.
pub less_than_half : (a b c : ℕ) → 2 * ((c * b - a) + (a - c * b)) < b → Near a b c
less_than_half a b c h = record { near = omega arith; tie = λ t. absurd (omega arith) }

-- A quotient and its remainder show which number is near.
module _ (a b q r : ℕ) (whole : q * b + r ≡ a) where
  -- If the remainder is less than a half, the quotient.
  pub rest_less : r * 2 < b → Near a b q
  rest_less h = less_than_half a b q (omega arith)

  -- If it is more, the next number.
  pub rest_more : r < b → b < r * 2 → Near a b (q + 1)
  rest_more l h =
      let up : (q + 1) * b ≡ q * b + 1 * b = add-mul q 1 b in
      less_than_half a b (q + 1) (omega arith)

  -- If it is a half, the even one of the two.
  pub rest_half : r * 2 ≡ b → Near a b (q + q % 2)
  rest_half h =
      let up : (q + q % 2) * b ≡ q * b + q % 2 * b = add-mul q (q % 2) b in
      let most : q % 2 * b ≤ 1 * b = mul-le-mul_right b (omega arith) in
      record { near = omega arith; tie = λ t. omega arith }

-- What `nearest` makes of them is near.
near_of : (a b q r : ℕ) (o : Ordering) → q * b + r ≡ a → r < b → (T (is_le o) → r * 2 ≤ b) → (T (not (is_le o)) → b < r * 2) → (T (compare_is_eq o) → r * 2 ≡ b) → (r * 2 ≡ b → T (compare_is_eq o)) → Near a b (nearest q o)
near_of a b q r Ordering.lt whole l le more half not-half =
    let m = le tt in
    rest_less a b q r whole (omega (arith, not-half))
near_of a b q r Ordering.eq whole l le more half not-half = rest_half a b q r whole (half tt)
near_of a b q r Ordering.gt whole l le more half not-half = subst (Near a b) (add-one q) (rest_more a b q r whole l (more tt))

-- `closest a b` is near.
pub closest_near : (a b : ℕ) → 0 < b → Near a b (closest a b)
closest_near a b pos =
    near_of a b (a / b) (a % b) (compare (a % b * 2) b) (div-add-mod' a b) (mod-lt a pos)
    (leb→le (a % b * 2) b) (nleb→lt (a % b * 2) b) (eqb→eq (a % b * 2) b)
    (λ e. subst (λ (x : ℕ). T (eqb (a % b * 2) x)) e (eqb_refl (a % b * 2)))

-- Of two near numbers neither is the smaller: they would be neighbours, each a half off, and one of them odd.
not_less : (a b c d : ℕ) → 0 < b → Near a b c → Near a b d → c < d → ⊥
not_less a b c d pos m n l =
    let step : suc c * b ≡ c * b + b = suc-mul c b in
    let far : suc c * b ≤ d * b = mul-le-mul_right b l in
    let u = m.near in
    let v = n.near in
    let next : d ≡ suc c = eq_of_mul-eq-mul_right b pos d (suc c) (omega arith) in
    let even-c : c % 2 ≡ 0 = m.tie (omega arith) in
    let even-d : d % 2 ≡ 0 = n.tie (omega arith) in
    omega arith

-- And no other number is near.
pub near_only : (a b c : ℕ) → 0 < b → Near a b c → c ≡ closest a b
near_only a b c pos n =
    let d = closest a b in
    let m = closest_near a b pos in
    le_antisymm (le_of_suc-le-suc (lt_of_not-le (not_less a b d c pos m n))) (le_of_suc-le-suc (lt_of_not-le (not_less a b c d pos n m)))

-- From the quotient and twice the remainder.
module _ (a b : ℕ) (pos : 0 < b) where
  only : (c : ℕ) → Near a b c → c ≡ closest a b
  only c n = near_only a b c pos n

  pub closest_below : a % b * 2 < b → a / b ≡ closest a b
  closest_below h = only (a / b) (rest_less a b (a / b) (a % b) (div-add-mod' a b) h)

  pub closest_above : b < a % b * 2 → a / b + 1 ≡ closest a b
  closest_above h = only (a / b + 1) (rest_more a b (a / b) (a % b) (div-add-mod' a b) (mod-lt a pos) h)

  pub closest_half : a % b * 2 ≡ b → a / b + a / b % 2 ≡ closest a b
  closest_half h = only (a / b + a / b % 2) (rest_half a b (a / b) (a % b) (div-add-mod' a b) h)

-- Fewer than 2 ^ 60 parts, of which at least 2 ^ 62 make one, are less than a half.
pub none : (parts halvings : ℕ) → parts < 2 ^ 60 → 62 ≤ halvings → 0 ≡ closest parts (2 ^ halvings)
none parts halvings few many =
    let big : 2 ^ 62 ≤ 2 ^ halvings = pow_mono many in
    near_only parts (2 ^ halvings) 0 (pow_pos halvings) (less_than_half parts (2 ^ halvings) 0 (omega (arith, zero-mul (2 ^ halvings))))

-- What n centimetres are in parts, if n is nearest: less than the parts and one centimetre.
pub parts_few : (parts b : ℕ) → 0 < b → closest parts b * b ≤ parts + b
parts_few parts b some =
    let near = (closest_near parts b some).near in
    omega arith
