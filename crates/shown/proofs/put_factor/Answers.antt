-- `shown::put_factor` meets its contract: the factor, or nothing.
use Prim.Native.Nat.{ℕ}
use mathlib.Core.Path.{◌≡◌, sym, ap, ◌∙◌}
use mathlib.Core.Bool.{true}
use mathlib.Core.List.{[], ◌∷◌}
use Rattle.text.specs.Texts.{figures_text}
use Rattle.shown.specs.Lines.{has_factor, factor_text}
use Rattle.shown.proofs.ShownLaws.{puts_none, puts_as}
use Rattle.shown.proofs.put_factor.Goals as goal

pub returns-then-not-has_factor : goal.returns-then-not-has_factor
returns-then-not-has_factor c =
    let a = c.args in
    let none : [] ≡ factor_text a.scale.now a.number = rw (sym c.has_factor.ensures ∙ c.if-not-has_factor.true) in
    puts_as none (puts_none a.out.now a.at _)

pub returns : goal.returns
returns c =
    let a = c.args in
    let there : has_factor a.scale.now a.number ≡ true = sym c.has_factor.ensures ∙ c.if-not-has_factor.false in
    let text : figures_text (c.factor_or.result ∷ []) ≡ factor_text a.scale.now a.number = rw there (ap (λ (f : ℕ). figures_text (f ∷ [])) (c.factor_or.ensures ∙ rw there)) in
    puts_as text c.put_figures.ensures
