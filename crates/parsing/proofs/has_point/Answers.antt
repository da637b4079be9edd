-- `parsing::has_point` meets its contract: a word has a point exactly if its bytes up to the first one are not all of it.
use Prim.Native.Nat.{ℕ, suc}
use mathlib.Core.Path.{◌≡◌, refl, sym, ◌∙◌}
use mathlib.Core.Bool.{Bool, true, false}
use mathlib.Core.List.{List, [], ◌∷◌}
use native.Mathlib.Omega.{arith}
use borrow.Author.Tests.{ltb-true, ltb-false, lt-ltb, le-ltb}
use lib.Dec.{ltb, eqb}
use lib.ListN.{length}
use Rattle.std.specs.List.{list_any}
use Rattle.parsing.specs.Words.{run}
use Rattle.parsing.specs.Forms.{is_no_point, has_point}
use Rattle.parsing.proofs.has_point.Goals as goal

one_more : (a b : ℕ) → ltb (suc a) (suc b) ≡ ltb a b
one_more a b = go (ltb a b) refl
  where
    go : (t : Bool) → ltb a b ≡ t → ltb (suc a) (suc b) ≡ t
    go true e = lt-ltb (suc a) (suc b) (omega (arith, ltb-true a b e))
    go false e = le-ltb (suc a) (suc b) (omega (arith, ltb-false a b e))

point_any : (w : List ℕ) → list_any (λ b. eqb b 46) w ≡ has_point w
unfolding run
point_any [] = refl
point_any (b ∷ bs) = go (eqb b 46) refl (point_any bs)
  where
    go : (t : Bool) → eqb b 46 ≡ t → list_any (λ a. eqb a 46) bs ≡ has_point bs → list_any (λ a. eqb a 46) (b ∷ bs) ≡ has_point (b ∷ bs)
    go true e rest = rw e (sym (lt-ltb 0 (suc (length bs)) (omega arith)))
    go false e rest = rw e (rest ∙ sym (one_more (run is_no_point bs) (length bs)))

pub returns : goal.returns
returns c = c.contains.ensures.value ∙ point_any c.args.w.now
