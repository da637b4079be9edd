-- The cells of a square are the places inside it, and its matching cells are those that match, quarter by quarter.
-- By induction on the exponent: each place inside a square is inside one of its quarters, and the other way round.
use Prim.Native.Nat.{ℕ, zero, suc, ◌+◌, ◌*◌, ◌^◌, ◌≤◌}
use mathlib.Core.Path.{◌≡◌, refl, sym, ap, ◌∙◌}
use mathlib.Core.Logic.{⊎_elim}
use mathlib.Core.Bool.{Bool, true, false, false≢true}
use mathlib.Core.List.Memᴰ
use mathlib.Core.List.{List, [], ◌∷◌, ◌++◌, Memᴰ}
use native.Mathlib.Omega.{arith}
use native.Mathlib.Nat.{pow-succ'}
use native.Mathlib.Decide.{dec_le}
use lib.ListN.{length, length-append}
use Rattle.chart.specs.declared.Place.{Place}
use Rattle.search.specs.Windows.{east, north, north_east, IsCellOf}
use Rattle.search.specs.Questions.{Rule, matches}
use Rattle.search.specs.Cells.{cells, if_so, those, matching}

same_place_lem : (p o : Place) → p.easting ≡ o.easting → p.northing ≡ o.northing → p ≡ o
same_place_lem p o e n = λ i. record { easting = e i; northing = n i }

-- A cell of a quarter is a cell of the square.
module _ (k : ℕ) (p o : Place) where
  of_south_west : Memᴰ o (cells k p) → Memᴰ o (cells (suc k) p)
  unfolding cells
  of_south_west m = Memᴰ.append_left (cells k (east (2 ^ k) p) ++ (cells k (north (2 ^ k) p) ++ cells k (north_east (2 ^ k) p))) m

  of_south_east : Memᴰ o (cells k (east (2 ^ k) p)) → Memᴰ o (cells (suc k) p)
  unfolding cells
  of_south_east m = Memᴰ.append_right (cells k p) (Memᴰ.append_left (cells k (north (2 ^ k) p) ++ cells k (north_east (2 ^ k) p)) m)

  of_north_west : Memᴰ o (cells k (north (2 ^ k) p)) → Memᴰ o (cells (suc k) p)
  unfolding cells
  of_north_west m =
      Memᴰ.append_right (cells k p) (Memᴰ.append_right (cells k (east (2 ^ k) p)) (Memᴰ.append_left (cells k (north_east (2 ^ k) p)) m))

  of_north_east : Memᴰ o (cells k (north_east (2 ^ k) p)) → Memᴰ o (cells (suc k) p)
  unfolding cells
  of_north_east m =
      Memᴰ.append_right (cells k p) (Memᴰ.append_right (cells k (east (2 ^ k) p)) (Memᴰ.append_right (cells k (north (2 ^ k) p)) m))

-- A place inside a square is one of its cells.
pub inside-cell : (k : ℕ) (p o : Place) → IsCellOf k p o → Memᴰ o (cells k p)
unfolding cells
inside-cell zero p o i = Memᴰ.head (same_place_lem o p (omega arith) (omega arith))
inside-cell (suc k) p o i =
    go (pow-succ' 2 k) (dec_le (p.easting + 2 ^ k) o.easting) (dec_le (p.northing + 2 ^ k) o.northing) (λ r j. inside-cell k r o j)
  where
    go : 2 ^ suc k ≡ 2 * 2 ^ k → Dec (p.easting + 2 ^ k ≤ o.easting) → Dec (p.northing + 2 ^ k ≤ o.northing) → ((r : Place) → IsCellOf k r o → Memᴰ o (cells k r)) → Memᴰ o (cells (suc k) p)
    go two (no e) (no n) ih = of_south_west k p o (ih p (omega arith))
    go two (yes e) (no n) ih = of_south_east k p o (ih (east (2 ^ k) p) (omega arith))
    go two (no e) (yes n) ih = of_north_west k p o (ih (north (2 ^ k) p) (omega arith))
    go two (yes e) (yes n) ih = of_north_east k p o (ih (north_east (2 ^ k) p) (omega arith))

-- The square of side 2^k at r lies inside that of twice the side at p.
record Covers (k : ℕ) (p r : Place) : Type 0 where
  from_west : p.easting ≤ r.easting
  to_east : r.easting ≤ p.easting + 2 ^ k
  from_south : p.northing ≤ r.northing
  to_north : r.northing ≤ p.northing + 2 ^ k

in_quarter : (k : ℕ) (p o : Place) → Memᴰ o (cells (suc k) p) → (r : Place) × Covers k p r × Memᴰ o (cells k r)
unfolding cells
in_quarter k p o m =
    ⊎_elim (λ i. (p, omega arith, i))
    (λ m. ⊎_elim (λ i. (east (2 ^ k) p, omega arith, i))
    (λ m. ⊎_elim (λ i. (north (2 ^ k) p, omega arith, i)) (λ i. (north_east (2 ^ k) p, omega arith, i))
    (Memᴰ.append_cases (cells k (north (2 ^ k) p)) m))
    (Memᴰ.append_cases (cells k (east (2 ^ k) p)) m))
    (Memᴰ.append_cases (cells k p) m)

covered : (k : ℕ) (p r o : Place) → Covers k p r → IsCellOf k r o → IsCellOf (suc k) p o
covered k p r o c i = omega (arith, pow-succ' 2 k)

-- A cell of a square is a place inside it.
pub cell-inside : (k : ℕ) (p o : Place) → Memᴰ o (cells k p) → IsCellOf k p o
unfolding cells
cell-inside zero p o m =
    let same = Memᴰ.eq_of_singleton m in
    omega (arith, ap (λ (r : Place). r.easting) same, ap (λ (r : Place). r.northing) same)
cell-inside (suc k) p o m =
    let (r, c, i) = in_quarter k p o m in
    covered k p r o c (cell-inside k r o i)

-- A member that passes a test is among those that pass.
pub those_in : (f : Place → Bool) (l : List Place) (o : Place) → f o ≡ true → Memᴰ o l → Memᴰ o (those f l)
unfolding those
those_in f [] o t m = m
those_in f (p ∷ l) o t m = ⊎_elim (λ e. first (f p) (sym (ap f e) ∙ t) e) (λ r. later (f p) (those_in f l o t r)) (Memᴰ.cases_cons m)
  where
    first : (b : Bool) → b ≡ true → o ≡ p → Memᴰ o (if_so b p (those f l))
    first true t e = Memᴰ.head e
    first false t e = absurd (false≢true t)

    later : (b : Bool) → Memᴰ o (those f l) → Memᴰ o (if_so b p (those f l))
    later true r = Memᴰ.tail r
    later false r = r

-- One of those that pass a test passes it, and is a member.
pub in_those : (f : Place → Bool) (l : List Place) (o : Place) → Memᴰ o (those f l) → (f o ≡ true) × Memᴰ o l
unfolding those
in_those f [] o m = absurd (Memᴰ.not-nil m)
in_those f (p ∷ l) o m = go (f p) refl m (in_those f l o)
  where
    go : (b : Bool) → f p ≡ b → Memᴰ o (if_so b p (those f l)) → (Memᴰ o (those f l) → (f o ≡ true) × Memᴰ o l) → (f o ≡ true) × Memᴰ o (p ∷ l)
    go true t m ih = ⊎_elim (λ e. (ap f e ∙ t, Memᴰ.head e)) (λ r. ((ih r).0, Memᴰ.tail (ih r).1)) (Memᴰ.cases_cons m)
    go false t m ih = ((ih m).0, Memᴰ.tail (ih m).1)

-- Of two joined lists, those that pass are those of the first, and then those of the second.
pub those_append : (f : Place → Bool) (xs ys : List Place) → those f (xs ++ ys) ≡ those f xs ++ those f ys
unfolding those
those_append f [] ys = refl
those_append f (x ∷ xs) ys = go (f x) (those_append f xs ys)
  where
    go : (b : Bool) → those f (xs ++ ys) ≡ those f xs ++ those f ys → if_so b x (those f (xs ++ ys)) ≡ if_so b x (those f xs) ++ those f ys
    go true e = ap (λ (l : List Place). x ∷ l) e
    go false e = e

-- If no member passes, there are none.
pub those_none : (f : Place → Bool) (l : List Place) → ((o : Place) → Memᴰ o l → f o ≡ false) → those f l ≡ []
unfolding those
those_none f [] h = refl
those_none f (p ∷ l) h = rw (h p (Memᴰ.head refl)) (those_none f l (λ o m. h o (Memᴰ.tail m)))

-- A place inside a square that matches is one of its matching cells.
pub matching_all : (rule : Rule) (k : ℕ) (p o : Place) → IsCellOf k p o → matches rule o ≡ true → Memᴰ o (matching rule k p)
unfolding matching
matching_all rule k p o i t = those_in (matches rule) (cells k p) o t (inside-cell k p o i)

-- A matching cell of a square is a place inside it, and matches.
pub matching_only : (rule : Rule) (k : ℕ) (p o : Place) → Memᴰ o (matching rule k p) → IsCellOf k p o × (matches rule o ≡ true)
unfolding matching
matching_only rule k p o m =
    let found = in_those (matches rule) (cells k p) o m in
    (cell-inside k p o found.1, found.0)

-- The matching cells of a square are those of its quarters, one quarter after the other.
pub matching_square : (rule : Rule) (k : ℕ) (p : Place) → matching rule (suc k) p ≡ matching rule k p ++ (matching rule k (east (2 ^ k) p) ++ (matching rule k (north (2 ^ k) p) ++ matching rule k (north_east (2 ^ k) p)))
unfolding matching cells
matching_square rule k p = simp those_append

-- So there are as many as in the four quarters together.
pub matching-counted : (rule : Rule) (k : ℕ) (p : Place) → length (matching rule (suc k) p) ≡ length (matching rule k p) + (length (matching rule k (east (2 ^ k) p)) + (length (matching rule k (north (2 ^ k) p)) + length (matching rule k (north_east (2 ^ k) p))))
matching-counted rule k p = ap length (matching_square rule k p) ∙ simp length-append
