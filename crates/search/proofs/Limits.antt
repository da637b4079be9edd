-- How a walk is stopped. It makes no more visits than allowed, and exactly the allowance if that stops it.
use Prim.Native.Nat.{ℕ, ◌≤◌}
use mathlib.Core.Path.{◌≡◌}
use native.Mathlib.Omega.{arith}
use Rattle.std.specs.Prelude.{Some}
use Rattle.chart.specs.declared.Place.{Place}
use Rattle.search.specs.Questions.{Question}
use Rattle.search.specs.Walk.{Spent, Standing, start, visit}
use Rattle.search.proofs.Keeping.{Keeps, visit_keeps}

-- A walk has made no more visits than allowed, and exactly as many if the allowance stopped it.
pub record Bounded (q : Question) (s : Standing) : Type 0 where
  pub most : s.visits ≤ q.limits.allowance
  pub all : s.stop ≡ Some Spent → s.visits ≡ q.limits.allowance

module _ (q : Question) where
  steps : Keeps q (Bounded q)
  steps =
      record {
        out = λ s h o. record { most = h.most; all = λ e. omega (arith, h.most) };
        count = λ s h z l. record { most = omega arith; all = λ e. cc };
        full = λ s h r. record { most = h.most; all = λ e. cc };
        list = λ p s h r. record { most = h.most; all = h.all };
      }

  -- This holds for every walk from its start.
  pub bounded : (k : ℕ) (p : Place) → Bounded q (visit q k p start)
  bounded k p =
      visit_keeps q (Bounded q) steps k p start
      (record { most = omega arith; all = λ e. cc })
