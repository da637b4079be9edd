-- `shown::factor_or` meets its contract: a factor of the side file lies inside it; where there is none, it is the factor 1.
use Prim.Native.Nat.{ℕ, ◌-◌, ◌*◌, ◌/◌, ◌≤◌}
use mathlib.Core.Bool.{true}
use mathlib.Core.List.{List}
use mathlib.Core.Path.{◌≡◌, sym, ◌∙◌}
use native.Mathlib.Omega.{arith}
use borrow.Author.Rules.{rules}
use lib.ListN.{length}
use Rattle.std.specs.Prelude.{Some}
use Rattle.fields.specs.Fields.{field_at, four_at}
use Rattle.records.specs.ChainTables.{factor_bytes}
use Rattle.records.proofs.ReadLaws.{four_inside}
use Rattle.records.proofs.TableLaws.{one_to_says}
use Rattle.shown.specs.Lines.{has_factor}
use Rattle.shown.proofs.factor_or.Goals.{Else-not-has_factor}
use Rattle.shown.proofs.factor_or.Goals as goal

-- A factor that the side file has is read.
read : (scale : List ℕ) (number : ℕ) → has_factor scale number ≡ true →
    (1 ≤ number) × (four_at scale (factor_bytes * (number - 1)) ≡ Some (field_at factor_bytes scale (factor_bytes * (number - 1))))
read scale number there =
    let says = one_to_says (length scale / factor_bytes) number there in
    (says.0, four_inside scale _ (omega (arith, says)))

there : (c : Else-not-has_factor) → let a = c.args in has_factor a.scale.now a.number ≡ true
there c = sym c.has_factor.ensures ∙ c.if-not-has_factor.false

pub returns-then-not-has_factor : goal.returns-then-not-has_factor
returns-then-not-has_factor c = rw (sym c.has_factor.ensures ∙ c.if-not-has_factor.true)

pub overflow_sub-number : goal.overflow_sub-number
overflow_sub-number c = (read _ _ (there c)).0

pub unwrap-requires : goal.unwrap-requires
unwrap-requires c = rw (c.four_at.ensures ∙ (read _ _ (there (goal.at.unwrap-requires c).Else-not-has_factor)).1) (search rules)

pub returns : goal.returns
returns c =
    let has = there (goal.at.returns c).Else-not-has_factor in
    let same = sym c.unwrap.ensures ∙ c.four_at.ensures ∙ (read _ _ has).1 in
    rw has (cc same)
