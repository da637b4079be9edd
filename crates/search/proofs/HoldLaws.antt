-- What is found and the list represent the state of the walk from visit to visit.
use Prim.Native.Nat.{ℕ, suc, ◌+◌, ◌*◌, ◌^◌, ◌≤◌, ◌<◌}
use mathlib.Core.Path.{◌≡◌, refl, sym, ap, ap₂, ◌∙◌, subst⁻¹}
use mathlib.Core.Bool.{Bool, true, false}
use mathlib.Core.List.{List, [], ◌∷◌, ◌++◌}
use native.Mathlib.Omega.{arith}
use lib.ListN.{length, take, set, length-set, length-append, length-take}
use lib.Seq.{take-suc-set}
use Rattle.std.specs.Prelude.{Result}
use Rattle.chart.specs.declared.Place.{Place}
use Rattle.search.specs.declared.Unfound.{Unfound}
use Rattle.search.specs.declared.Unfound.TheVariants.{NoRoom, AllowanceUsed}
use Rattle.search.specs.declared.Found.{Found}
use Rattle.search.specs.Windows.{east, north, north_east}
use Rattle.search.specs.Questions.{Question, matches, is_kept}
use Rattle.search.specs.Walk.{Full, Spent, Standing, either, unchanged, counted, listed, cell, visit}
use Rattle.search.specs.Answers.{entries_of}
use Rattle.search.specs.Holding.{Holds, Halted, Represents}
use Rattle.search.proofs.AnswerLaws.{length_entries}
use Rattle.search.proofs.WalkLaws.{visit_after, visit_out, visit-cell, visit_square, quarters, cell_missed, cell_full, cell-listed}

-- The entries of one place more.
entries_more : (ps : List Place) (p : Place) → entries_of (ps ++ (p ∷ [])) ≡ (entries_of ps ++ (p.easting ∷ [])) ++ (p.northing ∷ [])
unfolding entries_of
entries_more [] p = refl
entries_more (o ∷ ps) p = ap (λ (l : List ℕ). o.easting ∷ o.northing ∷ l) (entries_more ps p)

-- Two entries set, one after the other.
set_two : (l : List ℕ) (i e n : ℕ) → i + 1 < length l → take (i + 2) (set (set l i e) (i + 1) n) ≡ (take i l ++ (e ∷ [])) ++ (n ∷ [])
set_two l i e n h =
    ap (λ (j : ℕ). take j (set (set l i e) (i + 1) n)) (let g : i + 2 ≡ suc (i + 1) = omega arith in g)
    ∙ take-suc-set (set l i e) (i + 1) n (omega (arith, length-set l i e))
    ∙ ap (λ (j : ℕ). take j (set l i e) ++ (n ∷ [])) (let g : i + 1 ≡ suc i = omega arith in g)
    ∙ ap (λ (x : List ℕ). x ++ (n ∷ [])) (take-suc-set l i e (omega arith))

-- What is found with one more visit, and with one more place.
abbrev pub with_visit : Found → Found
with_visit t = record { count = t.count; visits = t.visits + 1 }

abbrev pub with_place : Found → Found
with_place t = record { count = t.count + 1; visits = t.visits }

-- A walk that was stopped is left as it is.
pub halted_stays : (q : Question) (k : ℕ) (p : Place) (s : Standing) (why : Unfound) → Halted s why → Halted (visit q k p s) why
halted_stays q k p s why h = subst⁻¹ (λ (x : Standing). Halted x why) (visit_after q k p s h.stop) h

module _ (s : Standing) (t : Found) (l : List ℕ) (h : Holds s t l) where
  -- The places found fit in the list.
  pub held_fits : 2 * t.count ≤ length l
  held_fits = omega (arith, h.count, ap length h.entries, length_entries s.places, length-take (2 * t.count) l)

  -- A counted visit leaves the list as it is.
  pub count_holds : Holds (counted s) (with_visit t) l
  count_holds =
      record { goes_on = h.goes_on; visits = ap (λ (v : ℕ). v + 1) h.visits; count = h.count; entries = h.entries }

  -- One more place is put after the others.
  pub list_holds : (p : Place) → 2 * t.count + 2 ≤ length l → Holds (listed p s) (with_place t) (set (set l (2 * t.count) p.easting) (2 * t.count + 1) p.northing)
  list_holds p room =
      let i : ℕ = 2 * t.count in
      record {
        goes_on = h.goes_on;
        visits = h.visits;
        count = omega (arith, h.count, length-append s.places (p ∷ []));
        entries =
            ap (λ (j : ℕ). take j (set (set l i p.easting) (i + 1) p.northing)) (let g : 2 * (t.count + 1) ≡ i + 2 = omega arith in g)
            ∙ set_two l i p.easting p.northing (omega arith)
            ∙ ap (λ (x : List ℕ). (x ++ (p.easting ∷ [])) ++ (p.northing ∷ [])) h.entries
            ∙ sym (entries_more s.places p);
      }

  module _ (q : Question) (p : Place) where
    -- A cell does not match, finds the list full, or is listed.
    pub missed_holds : matches q.rule p ≡ false → Holds (cell q p s) t l
    missed_holds e = subst⁻¹ (λ (x : Standing). Holds x t l) (cell_missed q p s e) h

    pub full_halts : matches q.rule p ≡ true → q.limits.room ≤ t.count → Halted (cell q p s) (NoRoom t.visits)
    full_halts e full =
        subst⁻¹ (λ (x : Standing). Halted x (NoRoom t.visits))
        (cell_full q p s e (omega (arith, h.count)))
        (record { halt = Full; stop = refl; refusal = ap NoRoom h.visits })

    pub listed_holds : matches q.rule p ≡ true → t.count < q.limits.room → 2 * q.limits.room ≤ length l → Holds (cell q p s) (with_place t) (set (set l (2 * t.count) p.easting) (2 * t.count + 1) p.northing)
    listed_holds e room fits =
        subst⁻¹ (λ (x : Standing). Holds x (with_place t) (set (set l (2 * t.count) p.easting) (2 * t.count + 1) p.northing))
        (cell-listed q p s e (omega (arith, h.count)))
        (list_holds p (omega arith))

    -- A visit that the allowance does not cover.
    pub out_halts : (k : ℕ) → q.limits.allowance ≤ t.visits → Halted (visit q k p s) (AllowanceUsed t.visits)
    out_halts k a =
        subst⁻¹ (λ (x : Standing). Halted x (AllowanceUsed t.visits))
        (visit_out q k p s h.goes_on (omega (arith, h.visits)))
        (record { halt = Spent; stop = refl; refusal = ap AllowanceUsed h.visits })

    -- A visit that begins: what represents the walk after the cell, dropped square or quarters represents it after the visit.
    module _ (a : t.visits < q.limits.allowance) where
      pub cell_holds : (k : ℕ) (r : Result Found Unfound) (l' : List ℕ) → k ≡ 0 → Represents (cell q p (counted s)) r l' → Represents (visit q k p s) r l'
      cell_holds k r l' e g =
          subst⁻¹ (λ (x : Standing). Represents x r l')
          (ap (λ (x : ℕ). visit q x p s) e ∙ visit-cell q p s h.goes_on (omega (arith, h.visits)))
          g

      square : (k j : ℕ) (b : Bool) → k ≡ suc j → is_kept q.rule j p ≡ b → visit q k p s ≡ either b (quarters q j p) unchanged (counted s)
      square k j b ek e =
          ap (λ (x : ℕ). visit q x p s) ek
          ∙ visit_square q j p s h.goes_on (omega (arith, h.visits))
          ∙ ap (λ (x : Bool). either x (quarters q j p) unchanged (counted s)) e

      pub dropped-holds : (k j : ℕ) → k ≡ suc j → is_kept q.rule j p ≡ false → Holds (visit q k p s) (with_visit t) l
      dropped-holds k j ek e = subst⁻¹ (λ (x : Standing). Holds x (with_visit t) l) (square k j false ek e) count_holds

      pub quarters-hold : (k j : ℕ) (se nw ne : Place) (r : Result Found Unfound) (l' : List ℕ) → k ≡ suc j → is_kept q.rule j p ≡ true → se ≡ east (2 ^ j) p → nw ≡ north (2 ^ j) p → ne ≡ north_east (2 ^ j) p → Represents (visit q j ne (visit q j nw (visit q j se (visit q j p (counted s))))) r l' → Represents (visit q k p s) r l'
      quarters-hold k j se nw ne r l' ek e ese enw ene g =
          subst⁻¹ (λ (x : Standing). Represents x r l')
          (square k j true ek e
          ∙ ap (λ (o : Place). visit q j (north_east (2 ^ j) p) (visit q j (north (2 ^ j) p) (visit q j o (visit q j p (counted s))))) (sym ese)
          ∙ ap₂ (λ (o o' : Place). visit q j o' (visit q j o (visit q j se (visit q j p (counted s))))) (sym enw) (sym ene))
          g
