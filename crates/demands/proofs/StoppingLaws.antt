-- When a search answers 10. Also: a list whose numbers rise has each place once, and no square has more matching cells than cells.
use Prim.Native.Nat.{ℕ, zero, suc, ◌+◌, ◌^◌, ◌≤◌, ◌<◌}
use mathlib.Core.Path.{◌≡◌, refl, ap, ◌∙◌}
use mathlib.Core.Logic.{◌⊎◌, inl, inr}
use mathlib.Core.Bool.{Bool, true, false}
use mathlib.Core.List.Memᴰ
use mathlib.Core.List.{List, [], ◌∷◌, ◌++◌}
use native.Mathlib.Omega.{arith}
use native.Mathlib.Nat.{lt_of_not-le, pow-succ'}
use native.Mathlib.Decide.{dec_le}
use lib.ListN.{length, length-append}
use Rattle.std.specs.Prelude.{Some}
use Rattle.chart.specs.declared.Place.{Place}
use Rattle.chart.proofs.ChainLaws.{factor_allowed}
use Rattle.search.specs.declared.Window.{Window}
use Rattle.search.specs.Windows.{east, north, north_east}
use Rattle.search.specs.Questions.{Rule, Question, matches}
use Rattle.search.specs.Walk.{Spent, Standing, start}
use Rattle.search.specs.Answers.{Outcome, Accepted, search_figures, figures_in}
use Rattle.search.specs.Cells.{Rises, cells, if_so, those, matching, matching_in, visits_in, IsListed, AmpleRoom}
use Rattle.search.proofs.WalkLaws.{visit_out}
use Rattle.search.proofs.AnswerLaws.{ended_out, search_walks}
use Rattle.search.proofs.Whole.{whole}
use Rattle.search.proofs.Raising.{raised, ten_by_more}
use Rattle.search.proofs.Outcomes.{walk, ample_complete}
use Rattle.search.proofs.Telling.{gone_small}
use Rattle.demands.specs.Finding.{EachOnce}

-- All numbers after the first are larger, so the first place is in the list only once.
pub above : (number : Place → ℕ) (p : Place) (l : List Place) → Rises number (p ∷ l) → (o : Place) → IsListed o l → number p < number o
unfolding Rises
above number p [] r o m = absurd (Memᴰ.not-nil m)
above number p (q ∷ l) r o m = go (Memᴰ.cases_cons m) (above number q l r.1 o)
  where
    go : (o ≡ q) ⊎ IsListed o l → (IsListed o l → number q < number o) → number p < number o
    go (inl e) rest = omega (arith, r.0, ap number e)
    go (inr m) rest = omega (arith, r.0, rest m)

tail_rises : (number : Place → ℕ) (p : Place) (l : List Place) → Rises number (p ∷ l) → Rises number l
unfolding Rises
tail_rises number p [] r = tt
tail_rises number p (q ∷ l) r = r.1

pub rising_once : (number : Place → ℕ) (l : List Place) → Rises number l → EachOnce l
unfolding EachOnce
rising_once number [] r = tt
rising_once number (p ∷ l) r = (
  (λ m. absurd (omega (arith, above number p l r p m))),
  rising_once number l (tail_rises number p l r),
)

-- What an accepted search answers, according to how its walk stopped.
module _ (q : Question) (w : Window) (a : Accepted q.rule w) where
  stop_10 : (walk q w).stop ≡ Some Spent → (figures_in q w).refusal ≡ 10
  unfolding search_figures
  stop_10 e = ap (λ (o : Outcome). (search_figures o.answer).refusal) (search_walks q w a ∙ ended_out (walk q w) e)

  -- With ample room, 10 is answered exactly when the window takes more visits than are allowed.
  pub ten_when_short : AmpleRoom q w → q.limits.allowance < visits_in q.rule w → (figures_in q w).refusal ≡ 10
  ten_when_short room short =
      let m : ℕ = q.limits.allowance + visits_in q.rule w in
      let all = ap (λ (s : Standing). s.visits) (whole (raised q m) w.k w.corner (factor_allowed _ a.chain) [] 0 (omega arith) (omega (arith, room))) in
      stop_10 (ten_by_more q w.k w.corner m (omega arith) (omega (arith, short, all)))

  pub ten_only_then : AmpleRoom q w → (figures_in q w).refusal ≡ 10 → q.limits.allowance < visits_in q.rule w
  ten_only_then room e = go (dec_le (visits_in q.rule w) q.limits.allowance)
    where
      go : Dec (visits_in q.rule w ≤ q.limits.allowance) → q.limits.allowance < visits_in q.rule w
      go (no f) = lt_of_not-le f
      go (yes enough) =
          let done = ap (λ (o : Outcome). (search_figures o.answer).refusal) (ample_complete q w a enough room) in
          absurd (omega (arith, e, done, gone_small (matching_in q.rule w) (visits_in q.rule w)))

  -- With an allowance of 0 the answer is 10 at once.
  pub ten_at_once : q.limits.allowance ≡ 0 → (figures_in q w).refusal ≡ 10
  ten_at_once none = stop_10 (ap (λ (s : Standing). s.stop) (visit_out q w.k w.corner start refl (omega arith)))

-- A square of side 2 ^ k has 4 ^ k cells, so at most 4 ^ k cells match.
cells-counted : (k : ℕ) (p : Place) → length (cells k p) ≡ 4 ^ k
unfolding cells
cells-counted zero p = refl
cells-counted (suc k) p =
    let se : Place = east (2 ^ k) p in
    let nw : Place = north (2 ^ k) p in
    let ne : Place = north_east (2 ^ k) p in
    let sum : length (cells k p ++ (cells k se ++ (cells k nw ++ cells k ne))) ≡ length (cells k p) + (length (cells k se) + (length (cells k nw) + length (cells k ne))) = simp length-append in
    omega (arith, sum, cells-counted k p, cells-counted k se, cells-counted k nw, cells-counted k ne, pow-succ' 4 k)

those_fewer : (test : Place → Bool) (l : List Place) → length (those test l) ≤ length l
unfolding those
those_fewer test [] = omega arith
those_fewer test (p ∷ l) = go (test p) (those_fewer test l)
  where
    go : (b : Bool) → length (those test l) ≤ length l → length (if_so b p (those test l)) ≤ length (p ∷ l)
    go true h = omega arith
    go false h = omega arith

pub matching_few : (rule : Rule) (k : ℕ) (p : Place) → length (matching rule k p) ≤ 4 ^ k
unfolding matching
matching_few rule k p = omega (arith, those_fewer (matches rule) (cells k p), cells-counted k p)
