-- The cells of a window, quarter by quarter, are in chart order, and no other list of the same cells is.
-- The quarter of a cell gives the two highest bits of its number; the bits below them are its number in the quarter.
use Prim.Native.Nat.{ℕ, zero, suc, ◌+◌, ◌-◌, ◌*◌, ◌/◌, ◌%◌, ◌^◌, ◌≤◌, ◌<◌}
use mathlib.Core.Path.{◌≡◌, refl, sym, ap, ap₂, ◌∙◌}
use mathlib.Core.Logic.{◌⊎◌, inl, inr, ⊎_elim}
use mathlib.Core.Bool.{Bool, true, false}
use mathlib.Core.List.Memᴰ
use mathlib.Core.List.{List, [], ◌∷◌, ◌++◌, Memᴰ}
use native.Mathlib.Omega.{arith}
use native.Mathlib.Nat.{pow-succ', mul-add, mul_assoc, mul_left_comm}
use Rattle.chart.specs.declared.Place.{Place}
use Rattle.search.specs.declared.Window.{Window}
use Rattle.search.specs.Windows.{east, north, north_east}
use Rattle.search.specs.Questions.{Rule, matches}
use Rattle.search.specs.Cells.{interleave, chart_number, Rises, cells, if_so, those, matching, matching_in}
use Rattle.search.proofs.CellLaws.{cell-inside, in_those}

no_bits : (e n : ℕ) → interleave 0 e n ≡ 0
unfolding interleave
no_bits e n = refl

lowest_bits : (k e n : ℕ) → interleave (suc k) e n ≡ 4 * interleave k (e / 2) (n / 2) + 2 * (n % 2) + e % 2
unfolding interleave
lowest_bits k e n = refl

-- The lowest k bits of two numbers, interleaved, make a number of at most 2k bits.
pub interleave_small : (k e n : ℕ) → interleave k e n < 4 ^ k
interleave_small zero e n = omega (arith, no_bits e n)
interleave_small (suc k) e n = omega (arith, lowest_bits k e n, pow-succ' 4 k, interleave_small k (e / 2) (n / 2))

twofold : (k a : ℕ) → a * 2 ^ suc k ≡ 2 * (a * 2 ^ k)
twofold k a = ap (λ (x : ℕ). a * x) (pow-succ' 2 k) ∙ mul_left_comm a 2 (2 ^ k)

fourfold : (k c : ℕ) → 4 ^ suc k * c ≡ 4 * (4 ^ k * c)
fourfold k c = ap (λ (x : ℕ). x * c) (pow-succ' 4 k) ∙ mul_assoc 4 (4 ^ k) c

halved : (k a e : ℕ) → (a * 2 ^ suc k + e) / 2 ≡ a * 2 ^ k + e / 2
halved k a e = omega (arith, twofold k a)

-- With a bit a above the k bits of e, and a bit b above those of n, the interleaved number has b and then a above its other bits.
pub top_bits : (k a b e n : ℕ) → a ≤ 1 → b ≤ 1 → e < 2 ^ k → n < 2 ^ k → interleave (suc k) (a * 2 ^ k + e) (b * 2 ^ k + n) ≡ 4 ^ k * (2 * b + a) + interleave k e n
top_bits zero a b e n ha hb he hn =
    omega (arith, lowest_bits 0 (a * 2 ^ 0 + e) (b * 2 ^ 0 + n), no_bits ((a * 2 ^ 0 + e) / 2) ((b * 2 ^ 0 + n) / 2), no_bits e n)
top_bits (suc k) a b e n ha hb he hn =
    let two = pow-succ' 2 k in
    let ih = top_bits k a b (e / 2) (n / 2) ha hb (omega arith) (omega arith) in
    let higher = ap₂ (interleave (suc k)) (halved k a e) (halved k b n) ∙ ih in
    omega (arith, higher, lowest_bits (suc k) (a * 2 ^ suc k + e) (b * 2 ^ suc k + n), lowest_bits k e n, twofold k a, twofold k b, fourfold k (2 * b + a))

module _ (number : Place → ℕ) where
  tail_rises : (p : Place) (l : List Place) → Rises number (p ∷ l) → Rises number l
  unfolding Rises
  tail_rises p [] r = tt
  tail_rises p (q ∷ l) r = r.1

  -- In a rising list the first number is below all that follow, not only below the next.
  above_head : (p : Place) (l : List Place) → Rises number (p ∷ l) → (o : Place) → Memᴰ o l → number p < number o
  unfolding Rises
  above_head p [] r o m = absurd (Memᴰ.not-nil m)
  above_head p (q ∷ l) r o m =
      ⊎_elim (λ e. omega (arith, r.0, ap number e)) (λ i. omega (arith, r.0, above_head q l r.1 o i)) (Memᴰ.cases_cons m)

  rises_from : (p : Place) (l : List Place) → ((o : Place) → Memᴰ o l → number p < number o) → Rises number l → Rises number (p ∷ l)
  unfolding Rises
  rises_from p [] h r = tt
  rises_from p (q ∷ l) h r = (h q (Memᴰ.head refl), r)

  -- The places of a rising list that pass a test rise.
  pub those_rise : (f : Place → Bool) (l : List Place) → Rises number l → Rises number (those f l)
  unfolding those
  those_rise f [] r = r
  those_rise f (p ∷ l) r = go (f p) (those_rise f l (tail_rises p l r))
    where
      go : (b : Bool) → Rises number (those f l) → Rises number (if_so b p (those f l))
      go true ih = rises_from p (those f l) (λ o m. above_head p l r o (in_those f l o m).1) ih
      go false ih = ih

  same_head : (p q : Place) (l m : List Place) → Rises number (p ∷ l) → Rises number (q ∷ m) → (p ≡ q) ⊎ Memᴰ p m → (q ≡ p) ⊎ Memᴰ q l → p ≡ q
  same_head p q l m rl rm (inl e) j = e
  same_head p q l m rl rm (inr i) (inl e) = sym e
  same_head p q l m rl rm (inr i) (inr j) = absurd (omega (arith, above_head p l rl q j, above_head q m rm p i))

  in_tail : (p q o : Place) (m : List Place) → p ≡ q → number p < number o → (o ≡ q) ⊎ Memᴰ o m → Memᴰ o m
  in_tail p q o m e h (inl i) = absurd (omega (arith, h, ap number e, ap number i))
  in_tail p q o m e h (inr i) = i

  -- Two rising lists with the same members are the same list.
  pub rising_only : (l m : List Place) → Rises number l → Rises number m → ((o : Place) → Memᴰ o l → Memᴰ o m) → ((o : Place) → Memᴰ o m → Memᴰ o l) → l ≡ m
  rising_only [] [] rl rm to from = refl
  rising_only [] (q ∷ m) rl rm to from = absurd (Memᴰ.not-nil (from q (Memᴰ.head refl)))
  rising_only (p ∷ l) [] rl rm to from = absurd (Memᴰ.not-nil (to p (Memᴰ.head refl)))
  rising_only (p ∷ l) (q ∷ m) rl rm to from =
      let e : p ≡ q = same_head p q l m rl rm (Memᴰ.cases_cons (to p (Memᴰ.head refl))) (Memᴰ.cases_cons (from q (Memᴰ.head refl))) in
      ap₂ ◌∷◌ e
      (rising_only l m (tail_rises p l rl) (tail_rises q m rm)
      (λ o i. in_tail p q o m e (above_head p l rl o i) (Memᴰ.cases_cons (to o (Memᴰ.tail i))))
      (λ o i. in_tail q p o l (sym e) (above_head q m rm o i) (Memᴰ.cases_cons (from o (Memᴰ.tail i)))))

  rises_append : (middle : ℕ) (l m : List Place) → Rises number l → Rises number m → ((o : Place) → Memᴰ o l → number o < middle) → ((o : Place) → Memᴰ o m → middle ≤ number o) → Rises number (l ++ m)
  rises_append middle [] m rl rm below above = rm
  rises_append middle (p ∷ l) m rl rm below above =
      let first = below p (Memᴰ.head refl) in
      rises_from p (l ++ m)
      (λ o i. ⊎_elim (above_head p l rl o) (λ j. omega (arith, first, above o j)) (Memᴰ.append_cases l i))
      (rises_append middle l m (tail_rises p l rl) rm (λ o i. below o (Memᴰ.tail i)) above)

  -- A rising list whose numbers are at least low and below high.
  record Stretch (low high : ℕ) (l : List Place) : Type 0 where
    rises : Rises number l
    ordered : low ≤ high
    from : (o : Place) → Memᴰ o l → low ≤ number o
    to : (o : Place) → Memᴰ o l → number o < high

  stretch_append : {low middle high : ℕ} {l m : List Place} → Stretch low middle l → Stretch middle high m → Stretch low high (l ++ m)
  stretch_append {low} {middle} {high} {l} {m} s t =
      record {
        rises = rises_append middle l m s.rises t.rises s.to t.from;
        ordered = omega arith;
        from = λ o i. ⊎_elim (s.from o) (λ j. omega (arith, t.from o j)) (Memᴰ.append_cases l i);
        to = λ o i. ⊎_elim (λ j. omega (arith, s.to o j)) (t.to o) (Memᴰ.append_cases l i);
      }

-- Numbers that are larger by the same amount at each place rise too.
rises_shifted : (number shifted : Place → ℕ) (c : ℕ) (l : List Place) → ((o : Place) → Memᴰ o l → shifted o ≡ c + number o) → Rises number l → Rises shifted l
unfolding Rises
rises_shifted number shifted c [] h r = tt
rises_shifted number shifted c (p ∷ l) h r =
    let first = h p (Memᴰ.head refl) in
    rises_from shifted p l
    (λ o i. omega (arith, first, h o (Memᴰ.tail i), above_head number p l r o i))
    (rises_shifted number shifted c l (λ o i. h o (Memᴰ.tail i)) (tail_rises number p l r))

-- A cell's number in the order of the square of side 2^k at p.
abbrev number_from : ℕ → Place → Place → ℕ
number_from k p o = interleave k (o.easting - p.easting) (o.northing - p.northing)

-- The square of side 2^k at r is a quarter of that of twice the side at p: an eastern one if a is 1, a northern one if b is 1.
record IsQuarter (k a b : ℕ) (p r : Place) : Type 0 where
  bit_a : a ≤ 1
  bit_b : b ≤ 1
  easting : r.easting ≡ p.easting + a * 2 ^ k
  northing : r.northing ≡ p.northing + b * 2 ^ k

quarter_number : (k a b : ℕ) (p r : Place) → IsQuarter k a b p r → (o : Place) → Memᴰ o (cells k r) → number_from (suc k) p o ≡ 4 ^ k * (2 * b + a) + number_from k r o
quarter_number k a b p r s o m =
    let i = cell-inside k r o m in
    ap₂ (interleave (suc k)) (omega arith) (omega arith)
    ∙ top_bits k a b (o.easting - r.easting) (o.northing - r.northing) s.bit_a s.bit_b (omega arith) (omega arith)

quarter_stretch : (k a b : ℕ) (p r : Place) → IsQuarter k a b p r → Rises (number_from k r) (cells k r) → Stretch (number_from (suc k) p) (4 ^ k * (2 * b + a)) (4 ^ k * (2 * b + a + 1)) (cells k r)
quarter_stretch k a b p r s rises =
    let number = quarter_number k a b p r s in
    let next = mul-add (4 ^ k) (2 * b + a) 1 in
    record {
      rises = rises_shifted (number_from k r) (number_from (suc k) p) (4 ^ k * (2 * b + a)) (cells k r) number rises;
      ordered = omega arith;
      from = λ o i. omega (arith, number o i);
      to = λ o i. omega (arith, number o i, interleave_small k (o.easting - r.easting) (o.northing - r.northing));
    }

square_rises : (k : ℕ) (p : Place) → Rises (number_from k p) (cells k p)
unfolding cells Rises
square_rises zero p = tt
square_rises (suc k) p =
    let number : Place → ℕ = number_from (suc k) p in
    let sw = quarter_stretch k 0 0 p p (omega arith) (square_rises k p) in
    let se = quarter_stretch k 1 0 p (east (2 ^ k) p) (omega arith) (square_rises k (east (2 ^ k) p)) in
    let nw = quarter_stretch k 0 1 p (north (2 ^ k) p) (omega arith) (square_rises k (north (2 ^ k) p)) in
    let ne = quarter_stretch k 1 1 p (north_east (2 ^ k) p) (omega arith) (square_rises k (north_east (2 ^ k) p)) in
    (stretch_append number sw (stretch_append number se (stretch_append number nw ne))).rises

-- The cells of a window, quarter by quarter, are in chart order.
pub cells_rise : (w : Window) → Rises (chart_number w) (cells w.k w.corner)
cells_rise w = square_rises w.k w.corner

-- The matching cells of a window are in chart order.
pub matching_rises : (rule : Rule) (w : Window) → Rises (chart_number w) (matching_in rule w)
unfolding matching
matching_rises rule w = those_rise (chart_number w) (matches rule) (cells w.k w.corner) (cells_rise w)
