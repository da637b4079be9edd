-- A walk meets a full list at the first matching cell for which there is no room, after the visits up to and with that cell.
use Prim.Native.Nat.{ℕ, zero, suc, ◌+◌, ◌^◌, ◌≤◌, ◌<◌}
use mathlib.Core.Path.{◌≡◌, refl, sym, ap, ap₂, ◌∙◌, subst, subst⁻¹}
use mathlib.Core.Logic.{◌⊎◌, inl, inr, ⊎_elim}
use mathlib.Core.Bool.{Bool, true, false, cond}
use mathlib.Core.List.Memᴰ
use mathlib.Core.List.{List, [], ◌∷◌, ◌++◌, append-nil, append_assoc, head-eq_of_cons-eq, tail-eq_of_cons-eq}
use native.Mathlib.Omega.{arith}
use borrow.Author.Tests.{lt-ltb, le-ltb}
use lib.Dec.{ltb}
use lib.ListN.{length, length-append}
use Rattle.std.specs.Prelude.{Some}
use Rattle.chart.specs.declared.Place.{Place}
use Rattle.search.specs.Windows.{east, north, north_east}
use Rattle.search.specs.Questions.{Rule, Question, matches, is_kept}
use Rattle.search.specs.Walk.{Full, Standing, either, unchanged, visit}
use Rattle.search.specs.Cells.{matching, visits_of, visits_to, IsListed}
use Rattle.search.proofs.WalkLaws.{visit_after, visit-cell, visit_square, quarters, cell_full}
use Rattle.search.proofs.CellLaws.{matching_only, matching_square}
use Rattle.search.proofs.Dropping.{Allowed, dropped_none}
use Rattle.search.proofs.Whole.{going, whole, visits_kept, matching-cell}

-- A walk that was stopped by a full list.
abbrev pub full_at : List Place → ℕ → Standing
full_at ps v = record { stop = Some Full; places = ps; visits = v }

-- A list that is joined from two has a member o: it lies in the first of them, or in the second, with all of the first before it.
split : (a b before : List Place) (o : Place) (rest : List Place) → a ++ b ≡ before ++ (o ∷ rest) →
    ((r : List Place) × (a ≡ before ++ (o ∷ r))) ⊎ ((l : List Place) × ((before ≡ a ++ l) × (b ≡ l ++ (o ∷ rest))))
split [] b before o rest e = inr (before, (refl, e))
split (x ∷ a) b [] o rest e = inl (a, ap (λ (y : Place). y ∷ a) (head-eq_of_cons-eq e))
split (x ∷ a) b (y ∷ before) o rest e = go (split a b before o rest (tail-eq_of_cons-eq e))
  where
    go : ((r : List Place) × (a ≡ before ++ (o ∷ r))) ⊎ ((l : List Place) × ((before ≡ a ++ l) × (b ≡ l ++ (o ∷ rest)))) →
        ((r : List Place) × (x ∷ a ≡ y ∷ before ++ (o ∷ r))) ⊎ ((l : List Place) × ((y ∷ before ≡ x ∷ a ++ l) × (b ≡ l ++ (o ∷ rest))))
    go (inl (r, f)) = inl (r, ap₂ (λ (z : Place) (l : List Place). z ∷ l) (head-eq_of_cons-eq e) f)
    go (inr (l, (f, g))) = inr (l, (ap₂ (λ (z : Place) (l : List Place). z ∷ l) (sym (head-eq_of_cons-eq e)) f, g))

-- A list that has o, and a list of one place in which it is o.
has : (before : List Place) (o : Place) (rest l : List Place) → l ≡ before ++ (o ∷ rest) → IsListed o l
has before o rest l e = subst⁻¹ (IsListed o) e (Memᴰ.append_right before (Memᴰ.head refl))

alone : (p : Place) (before : List Place) (o : Place) (rest : List Place) → p ∷ [] ≡ before ++ (o ∷ rest) → [] ≡ before
alone p [] o rest e = refl
alone p (x ∷ before) o rest e =
    absurd (Memᴰ.not-nil (has before o rest [] (tail-eq_of_cons-eq e)))

-- The visits up to and with a cell from the first, the second and the third quarter of a square on.
module _ (rule : Rule) (k : ℕ) (p o : Place) where
  abbrev se : Place
  se = east (2 ^ k) p

  abbrev nw : Place
  nw = north (2 ^ k) p

  abbrev ne : Place
  ne = north_east (2 ^ k) p

  abbrev west : Bool
  west = ltb o.easting (p.easting + 2 ^ k)

  abbrev south : Bool
  south = ltb o.northing (p.northing + 2 ^ k)

  abbrev from_third : ℕ
  from_third = cond west (visits_to rule k nw o) (visits_of rule k nw + visits_to rule k ne o)

  abbrev from_second : ℕ
  from_second = cond south (visits_to rule k se o) (visits_of rule k se + from_third)

  abbrev from_first : ℕ
  from_first =
      cond south (cond west (visits_to rule k p o) (visits_of rule k p + visits_to rule k se o)) (visits_of rule k p + (visits_of rule k se + from_third))

-- The quarter of a matching cell decides which visits these are.
module _ (rule : Rule) (k : ℕ) (p o : Place) where
  here_third : IsListed o (matching rule k (north (2 ^ k) p)) → from_third rule k p o ≡ visits_to rule k (north (2 ^ k) p) o
  here_third m =
      let i = (matching_only rule k (north (2 ^ k) p) o m).0 in
      rw (lt-ltb o.easting (p.easting + 2 ^ k) i.to_east)

  past_third : IsListed o (matching rule k (north_east (2 ^ k) p)) → from_third rule k p o ≡ visits_of rule k (north (2 ^ k) p) + visits_to rule k (north_east (2 ^ k) p) o
  past_third m =
      let i = (matching_only rule k (north_east (2 ^ k) p) o m).0 in
      rw (le-ltb o.easting (p.easting + 2 ^ k) i.from_west)

  here_second : IsListed o (matching rule k (east (2 ^ k) p)) → from_second rule k p o ≡ visits_to rule k (east (2 ^ k) p) o
  here_second m =
      let i = (matching_only rule k (east (2 ^ k) p) o m).0 in
      rw (lt-ltb o.northing (p.northing + 2 ^ k) i.to_north)

  -- It lies in one of the two northern quarters.
  is_north : IsListed o (matching rule k (north (2 ^ k) p) ++ matching rule k (north_east (2 ^ k) p)) → south rule k p o ≡ false
  is_north m =
      ⊎_elim
      (λ m. le-ltb o.northing (p.northing + 2 ^ k) (matching_only rule k (north (2 ^ k) p) o m).0.from_south)
      (λ m. le-ltb o.northing (p.northing + 2 ^ k) (matching_only rule k (north_east (2 ^ k) p) o m).0.from_south)
      (Memᴰ.append_cases (matching rule k (north (2 ^ k) p)) m)

  past_second : IsListed o (matching rule k (north (2 ^ k) p) ++ matching rule k (north_east (2 ^ k) p)) → from_second rule k p o ≡ visits_of rule k (east (2 ^ k) p) + from_third rule k p o
  past_second m = rw (is_north m)

  here_first : IsListed o (matching rule k p) → from_first rule k p o ≡ visits_to rule k p o
  here_first m =
      let i = (matching_only rule k p o m).0 in
      rw (lt-ltb o.northing (p.northing + 2 ^ k) i.to_north, lt-ltb o.easting (p.easting + 2 ^ k) i.to_east)

  past_first : IsListed o (matching rule k (east (2 ^ k) p) ++ (matching rule k (north (2 ^ k) p) ++ matching rule k (north_east (2 ^ k) p))) → from_first rule k p o ≡ visits_of rule k p + from_second rule k p o
  past_first m =
      ⊎_elim
      (λ m.
      let i = (matching_only rule k (east (2 ^ k) p) o m).0 in
      rw (lt-ltb o.northing (p.northing + 2 ^ k) i.to_north, le-ltb o.easting (p.easting + 2 ^ k) i.from_west))
      (λ m. rw (is_north m))
      (Memᴰ.append_cases (matching rule k (east (2 ^ k) p)) m)

-- It takes a visit to reach a cell.
reached : (rule : Rule) (k : ℕ) (p o : Place) → 1 ≤ visits_to rule (suc k) p o
unfolding visits_to
reached rule k p o = omega arith

module _ (q : Question) (allowed : Allowed q.rule) where
  -- A part of a walk with the matching cells ms, each after `to` visits. If ms has a cell o for which there is no room, the part
  -- ends there.
  pub record Fills (part : Standing → Standing) (ms : List Place) (to : Place → ℕ) : Type 0 where
    pub stays : (s : Standing) → s.stop ≡ Some Full → part s ≡ s
    pub over : (ps before rest : List Place) (o : Place) (v : ℕ) → ms ≡ before ++ (o ∷ rest) → length ps + length before ≡ q.limits.room → v + to o ≤ q.limits.allowance →
        part (going ps v) ≡ full_at (ps ++ before) (v + to o)

  nine_stays : (k : ℕ) (p : Place) (s : Standing) → s.stop ≡ Some Full → visit q k p s ≡ s
  nine_stays k p s e = visit_after q k p s e

  -- A square, and then another part.
  module _ (k : ℕ) (r : Place) (part : Standing → Standing) (ms : List Place) (to IsWhole-to : Place → ℕ) where
    abbrev first : List Place
    first = matching q.rule k r

    then : Fills (visit q k r) first (visits_to q.rule k r) → Fills part ms to →
        ((o : Place) → IsListed o first → IsWhole-to o ≡ visits_to q.rule k r o) →
        ((o : Place) → IsListed o ms → IsWhole-to o ≡ visits_of q.rule k r + to o) →
        Fills (λ s. part (visit q k r s)) (first ++ ms) IsWhole-to
    then a b here past =
        record {
          stays = λ s e. ap part (a.stays s e) ∙ b.stays s e;
          over = λ ps before rest o v e room most. go ps before rest o v room most (split first ms before o rest e);
        }
      where
        go : (ps before rest : List Place) (o : Place) (v : ℕ) → length ps + length before ≡ q.limits.room → v + IsWhole-to o ≤ q.limits.allowance →
            ((l : List Place) × (first ≡ before ++ (o ∷ l))) ⊎ ((l : List Place) × ((before ≡ first ++ l) × (ms ≡ l ++ (o ∷ rest)))) →
            part (visit q k r (going ps v)) ≡ full_at (ps ++ before) (v + IsWhole-to o)
        go ps before rest o v room most (inl (l, e)) =
            let at = here o (has before o l first e) in
            ap part (a.over ps before l o v e room (omega (arith, most, at)))
            ∙ b.stays _ refl
            ∙ ap (λ (n : ℕ). full_at (ps ++ before) (v + n)) (sym at)
        go ps before rest o v room most (inr (l, (e, f))) =
            let at = past o (has l o rest ms f) in
            let long = ap length e ∙ length-append first l in
            let longer = length-append ps first in
            let c : ℕ = visits_of q.rule k r in
            ap part (whole q k r allowed ps v (omega (arith, most, at)) (omega (arith, room, long)))
            ∙ b.over (ps ++ first) l rest o (v + c) f (omega (arith, room, long, longer)) (omega (arith, most, at))
            ∙ ap₂ full_at (append_assoc ps first l ∙ ap (λ (x : List Place). ps ++ x) (sym e)) (omega (arith, at))

  cell_over : (p : Place) (b : Bool) → matches q.rule p ≡ b → (ps before rest : List Place) (o : Place) (v : ℕ) → matching q.rule 0 p ≡ before ++ (o ∷ rest) →
      length ps + length before ≡ q.limits.room → v + visits_to q.rule 0 p o ≤ q.limits.allowance → visit q 0 p (going ps v) ≡ full_at (ps ++ before) (v + visits_to q.rule 0 p o)
  unfolding visits_to
  cell_over p true m ps before rest o v e room most =
      let none = alone p before o rest (sym (matching-cell q.rule p true m) ∙ e) in
      visit-cell q p (going ps v) refl (omega (arith, most))
      ∙ cell_full q p (going ps (v + 1)) m (omega (arith, room, ap length none))
      ∙ ap (λ (l : List Place). full_at l (v + 1)) (sym (append-nil ps) ∙ ap (λ (l : List Place). ps ++ l) none)
  cell_over p false m ps before rest o v e room most =
      absurd (Memᴰ.not-nil (has before o rest [] (sym (matching-cell q.rule p false m) ∙ e)))

  square_over : (k : ℕ) (p : Place) → ((o : Place) → Fills (visit q k o) (matching q.rule k o) (visits_to q.rule k o)) → (b : Bool) → is_kept q.rule k p ≡ b →
      (ps before rest : List Place) (o : Place) (v : ℕ) → matching q.rule (suc k) p ≡ before ++ (o ∷ rest) → length ps + length before ≡ q.limits.room →
      v + visits_to q.rule (suc k) p o ≤ q.limits.allowance → either b (quarters q k p) unchanged (going ps (v + 1)) ≡ full_at (ps ++ before) (v + visits_to q.rule (suc k) p o)
  unfolding visits_to
  square_over k p ih false t ps before rest o v e room most =
      absurd (Memᴰ.not-nil (has before o rest [] (sym (dropped_none q.rule k p allowed t) ∙ e)))
  square_over k p ih true t ps before rest o v e room most =
      let third = then k (north (2 ^ k) p) _ _ _ (from_third q.rule k p) (ih (north (2 ^ k) p)) (ih (north_east (2 ^ k) p)) (here_third q.rule k p) (past_third q.rule k p) in
      let second = then k (east (2 ^ k) p) _ _ _ (from_second q.rule k p) (ih (east (2 ^ k) p)) third (here_second q.rule k p) (past_second q.rule k p) in
      let all = then k p _ _ _ (from_first q.rule k p) (ih p) second (here_first q.rule k p) (past_first q.rule k p) in
      all.over ps before rest o (v + 1) (sym (matching_square q.rule k p) ∙ e) room (omega (arith, most))
      ∙ ap (full_at (ps ++ before)) (omega arith)

  -- The law, for every square.
  pub fills : (k : ℕ) (p : Place) → Fills (visit q k p) (matching q.rule k p) (visits_to q.rule k p)
  fills zero p = record { stays = nine_stays 0 p; over = cell_over p (matches q.rule p) refl }
  fills (suc k) p =
      record {
        stays = nine_stays (suc k) p;
        over =
            λ ps before rest o v e room most.
            visit_square q k p (going ps v) refl (omega (arith, most, reached q.rule k p o))
            ∙ square_over k p (λ r. fills k r) (is_kept q.rule k p) refl ps before rest o v e room most;
      }

-- A matching cell is reached within the visits that its square takes, if that holds for the quarters.
few_in_quarters : (rule : Rule) (k : ℕ) (p o : Place) → Allowed rule → ((r : Place) → IsListed o (matching rule k r) → visits_to rule k r o ≤ visits_of rule k r) → IsListed o (matching rule (suc k) p) →
    visits_to rule (suc k) p o ≤ visits_of rule (suc k) p
unfolding visits_to
few_in_quarters rule k p o allowed few m = go (is_kept rule k p) refl
  where
    four : IsListed o (matching rule k p) ⊎ IsListed o (matching rule k (east (2 ^ k) p) ++ (matching rule k (north (2 ^ k) p) ++ matching rule k (north_east (2 ^ k) p)))
    four = Memᴰ.append_cases (matching rule k p) (subst (IsListed o) (matching_square rule k p) m)

    third : IsListed o (matching rule k (north (2 ^ k) p) ++ matching rule k (north_east (2 ^ k) p)) → from_third rule k p o ≤ visits_of rule k (north (2 ^ k) p) + visits_of rule k (north_east (2 ^ k) p)
    third m =
        ⊎_elim
        (λ m. omega (arith, here_third rule k p o m, few (north (2 ^ k) p) m))
        (λ m. omega (arith, past_third rule k p o m, few (north_east (2 ^ k) p) m))
        (Memᴰ.append_cases (matching rule k (north (2 ^ k) p)) m)

    second : IsListed o (matching rule k (east (2 ^ k) p) ++ (matching rule k (north (2 ^ k) p) ++ matching rule k (north_east (2 ^ k) p))) →
        from_second rule k p o ≤ visits_of rule k (east (2 ^ k) p) + (visits_of rule k (north (2 ^ k) p) + visits_of rule k (north_east (2 ^ k) p))
    second m =
        ⊎_elim
        (λ m. omega (arith, here_second rule k p o m, few (east (2 ^ k) p) m))
        (λ m. omega (arith, past_second rule k p o m, third m))
        (Memᴰ.append_cases (matching rule k (east (2 ^ k) p)) m)

    go : (b : Bool) → is_kept rule k p ≡ b → visits_to rule (suc k) p o ≤ visits_of rule (suc k) p
    go false t = absurd (Memᴰ.not-nil (subst (IsListed o) (dropped_none rule k p allowed t) m))
    go true t =
        ⊎_elim
        (λ m. omega (arith, visits_kept rule k p t, here_first rule k p o m, few p m))
        (λ m. omega (arith, visits_kept rule k p t, past_first rule k p o m, second m))
        four

pub to_few : (rule : Rule) (k : ℕ) (p o : Place) → Allowed rule → IsListed o (matching rule k p) → visits_to rule k p o ≤ visits_of rule k p
unfolding visits_to visits_of
to_few rule zero p o allowed m = omega arith
to_few rule (suc k) p o allowed m = few_in_quarters rule k p o allowed (λ r. to_few rule k r o allowed) m

-- A list has an entry at every index below its length.
entry_at : (n : ℕ) (l : List Place) → n < length l → (before : List Place) × (o : Place) × (rest : List Place) × (l ≡ before ++ (o ∷ rest)) × (length before ≡ n)
entry_at n [] h = absurd (omega (arith, h))
entry_at zero (x ∷ l) h = ([], x, l, refl, refl)
entry_at (suc n) (x ∷ l) h =
    let (before, o, rest, e, long) = entry_at n l (omega (arith, h)) in
    (x ∷ before, o, rest, ap (λ (l : List Place). x ∷ l) e, omega (arith, long))

-- With allowance for its visits but too little room, a walk stops for lack of room.
pub too_little_room : (q : Question) (k : ℕ) (p : Place) → Allowed q.rule → visits_of q.rule k p ≤ q.limits.allowance → q.limits.room < length (matching q.rule k p) → (visit q k p (going [] 0)).stop ≡ Some Full
too_little_room q k p allowed a r =
    let (before, o, rest, e, long) = entry_at q.limits.room (matching q.rule k p) r in
    ap (λ (s : Standing). s.stop)
    ((fills q allowed k p).over [] before rest o 0 e (omega (arith, long)) (omega (arith, a, to_few q.rule k p o allowed (has before o rest _ e))))
