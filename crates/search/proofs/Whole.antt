-- With enough room and allowance, a walk lists the matching cells, in as many visits as the squares take.
use Prim.Native.Nat.{ℕ, zero, suc, ◌+◌, ◌^◌, ◌≤◌}
use mathlib.Core.Path.{◌≡◌, refl, sym, ap, ap₂, ◌∙◌}
use mathlib.Core.Bool.{Bool, true, false}
use mathlib.Core.List.{List, [], ◌∷◌, ◌++◌, append-nil, append_assoc}
use native.Mathlib.Omega.{arith}
use lib.ListN.{length, length-append}
use Rattle.std.specs.Prelude.{None}
use Rattle.chart.specs.declared.Place.{Place}
use Rattle.search.specs.Windows.{east, north, north_east}
use Rattle.search.specs.Questions.{Rule, Question, matches, is_kept}
use Rattle.search.specs.Walk.{Standing, either, unchanged, visit}
use Rattle.search.specs.Cells.{cells, if_so, those, matching, visits_of}
use Rattle.search.proofs.WalkLaws.{visit-cell, visit_square, quarters, cell_missed, cell-listed}
use Rattle.search.proofs.CellLaws.{matching_square, matching-counted}
use Rattle.search.proofs.Dropping.{Allowed, dropped_none}

-- A walk that goes on, with the places listed and the visits made so far.
abbrev pub going : List Place → ℕ → Standing
going ps v = record { stop = None; places = ps; visits = v }

-- The state of a walk after a square: its matching cells are listed and its visits made.
abbrev pub after : Rule → ℕ → Place → List Place → ℕ → Standing
after rule k p ps v = going (ps ++ matching rule k p) (v + visits_of rule k p)

-- The visits of a square that is kept, and of one that is dropped.
pub visits_kept : (rule : Rule) (k : ℕ) (p : Place) → is_kept rule k p ≡ true → visits_of rule (suc k) p ≡ 1 + (visits_of rule k p + (visits_of rule k (east (2 ^ k) p) + (visits_of rule k (north (2 ^ k) p) + visits_of rule k (north_east (2 ^ k) p))))
unfolding visits_of
visits_kept rule k p e = rw e

pub visits_dropped : (rule : Rule) (k : ℕ) (p : Place) → is_kept rule k p ≡ false → visits_of rule (suc k) p ≡ 1
unfolding visits_of
visits_dropped rule k p e = rw e

-- Every square takes a visit.
pub one_visit : (rule : Rule) (k : ℕ) (p : Place) → 1 ≤ visits_of rule k p
unfolding visits_of
one_visit rule zero p = omega arith
one_visit rule (suc k) p = omega arith

-- The matching cells of a single cell: the cell itself, or none.
pub matching-cell : (rule : Rule) (p : Place) (b : Bool) → matches rule p ≡ b → matching rule 0 p ≡ if_so b p []
unfolding matching those cells
matching-cell rule p b e = ap (λ (x : Bool). if_so x p []) e

-- After one visit a cell that does not match, a cell that is listed, and a square that is dropped are done.
pub after_missed : (rule : Rule) (p : Place) (ps : List Place) (v : ℕ) → matches rule p ≡ false → going ps (v + 1) ≡ after rule 0 p ps v
unfolding visits_of
after_missed rule p ps v e =
    ap (λ (l : List Place). going l (v + 1)) (sym (append-nil ps) ∙ ap (λ (l : List Place). ps ++ l) (sym (matching-cell rule p false e)))

pub after_listed : (rule : Rule) (p : Place) (ps : List Place) (v : ℕ) → matches rule p ≡ true → going (ps ++ (p ∷ [])) (v + 1) ≡ after rule 0 p ps v
unfolding visits_of
after_listed rule p ps v e =
    ap (λ (l : List Place). going (ps ++ l) (v + 1)) (sym (matching-cell rule p true e))

pub after_dropped : (rule : Rule) (k : ℕ) (p : Place) (ps : List Place) (v : ℕ) → Allowed rule → is_kept rule k p ≡ false → going ps (v + 1) ≡ after rule (suc k) p ps v
after_dropped rule k p ps v f e =
    ap₂ going
    (sym (append-nil ps) ∙ ap (λ (l : List Place). ps ++ l) (sym (dropped_none rule k p f e)))
    (ap (λ (n : ℕ). v + n) (sym (visits_dropped rule k p e)))

-- Lists joined one after the other are the same list however they are grouped.
shares : (a b c d e : List Place) → (((a ++ b) ++ c) ++ d) ++ e ≡ a ++ (b ++ (c ++ (d ++ e)))
shares a b c d e = simp append_assoc

-- After its four quarters a square is done.
pub after_quarters : (rule : Rule) (k : ℕ) (p : Place) (ps : List Place) (v : ℕ) → is_kept rule k p ≡ true → going ((((ps ++ matching rule k p) ++ matching rule k (east (2 ^ k) p)) ++ matching rule k (north (2 ^ k) p)) ++ matching rule k (north_east (2 ^ k) p)) (v + 1 + visits_of rule k p + visits_of rule k (east (2 ^ k) p) + visits_of rule k (north (2 ^ k) p) + visits_of rule k (north_east (2 ^ k) p)) ≡ after rule (suc k) p ps v
after_quarters rule k p ps v e =
    ap₂ going
    (shares ps (matching rule k p) (matching rule k (east (2 ^ k) p)) (matching rule k (north (2 ^ k) p)) (matching rule k (north_east (2 ^ k) p))
    ∙ ap (λ (l : List Place). ps ++ l) (sym (matching_square rule k p)))
    (omega (arith, visits_kept rule k p e))

-- What a visit to a square of side 2 ^ k does to a walk, if allowance and room suffice.
abbrev pub IsWhole : Question → ℕ → Place → Type 0
IsWhole q k p = (ps : List Place) (v : ℕ) → v + visits_of q.rule k p ≤ q.limits.allowance → length ps + length (matching q.rule k p) ≤ q.limits.room → visit q k p (going ps v) ≡ after q.rule k p ps v

cell_whole : (q : Question) (p : Place) (b : Bool) → matches q.rule p ≡ b → IsWhole q 0 p
unfolding visits_of
cell_whole q p true e ps v a r =
    visit-cell q p (going ps v) refl (omega arith)
    ∙ cell-listed q p (going ps (v + 1)) e (omega (arith, ap length (matching-cell q.rule p true e)))
    ∙ after_listed q.rule p ps v e
cell_whole q p false e ps v a r =
    visit-cell q p (going ps v) refl (omega arith)
    ∙ cell_missed q p (going ps (v + 1)) e
    ∙ after_missed q.rule p ps v e

square_whole : (q : Question) (k : ℕ) (p : Place) → Allowed q.rule → ((o : Place) → IsWhole q k o) → (b : Bool) → is_kept q.rule k p ≡ b → IsWhole q (suc k) p
square_whole q k p f ih false e ps v a r =
    visit_square q k p (going ps v) refl (omega (arith, one_visit q.rule (suc k) p))
    ∙ ap (λ (b : Bool). either b (quarters q k p) unchanged (going ps (v + 1))) e
    ∙ after_dropped q.rule k p ps v f e
square_whole q k p f ih true e ps v a r =
    let se : Place = east (2 ^ k) p in
    let nw : Place = north (2 ^ k) p in
    let ne : Place = north_east (2 ^ k) p in
    let ps1 : List Place = ps ++ matching q.rule k p in
    let ps2 : List Place = ps1 ++ matching q.rule k se in
    let ps3 : List Place = ps2 ++ matching q.rule k nw in
    let n = visits_kept q.rule k p e in
    let m = matching-counted q.rule k p in
    let l1 : length ps1 ≡ length ps + length (matching q.rule k p) = length-append ps (matching q.rule k p) in
    let l2 : length ps2 ≡ length ps1 + length (matching q.rule k se) = length-append ps1 (matching q.rule k se) in
    let l3 : length ps3 ≡ length ps2 + length (matching q.rule k nw) = length-append ps2 (matching q.rule k nw) in
    let v1 : ℕ = v + 1 + visits_of q.rule k p in
    let v2 : ℕ = v1 + visits_of q.rule k se in
    let v3 : ℕ = v2 + visits_of q.rule k nw in
    visit_square q k p (going ps v) refl (omega arith)
    ∙ ap (λ (b : Bool). either b (quarters q k p) unchanged (going ps (v + 1))) e
    ∙ ap (λ (s : Standing). visit q k ne (visit q k nw (visit q k se s))) (ih p ps (v + 1) (omega arith) (omega arith))
    ∙ ap (λ (s : Standing). visit q k ne (visit q k nw s)) (ih se ps1 v1 (omega arith) (omega arith))
    ∙ ap (λ (s : Standing). visit q k ne s) (ih nw ps2 v2 (omega arith) (omega arith))
    ∙ ih ne ps3 v3 (omega arith) (omega arith)
    ∙ after_quarters q.rule k p ps v e

-- With room and allowance a square's matching cells are listed, in as many visits as it takes.
pub whole : (q : Question) (k : ℕ) (p : Place) → Allowed q.rule → IsWhole q k p
whole q zero p f = cell_whole q p (matches q.rule p) refl
whole q (suc k) p f = square_whole q k p f (λ o. whole q k o f) (is_kept q.rule k p) refl
