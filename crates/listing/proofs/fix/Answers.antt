-- `listing::fix` meets its contract: the refusal of the chain, or the search with the program's list.
use mathlib.Core.List.{[], ◌∷◌}
use mathlib.Core.Path.{sym, ap, ◌∙◌}
use mir.Syntax.{w64}
use mir.ValLaws.{to_z-of_z}
use Rattle.std.specs.Prelude.{Err}
use Rattle.search.specs.declared.Stopped.{Stopped}
use Rattle.listing.specs.Answers.{fix_by}
use Rattle.listing.proofs.TellLaws.{tells_as, told_as, fix_answers, refused_tells}
use Rattle.listing.proofs.fix.Goals as goal

pub returns-in-Ok : goal.returns-in-Ok
returns-in-Ok c =
    let a = c.args in
    fix_answers a.job a.rounded a.chain _ a.a a.b _ _ _ c.in-Ok.is (to_z-of_z w64 a.a c.ranges.a) (to_z-of_z w64 a.b c.ranges.b) c.requires
    _ _ _ c.search-answer.ensures.answer c.search-answer.ensures.list (c.search-answer.auto.list ∙ c.requires) c.found.ensures

pub returns-in-Err : goal.returns-in-Err
unfolding fix_by
returns-in-Err c =
    tells_as (sym (ap (fix_by c.args.job (c.args.a ∷ c.args.b ∷ []) c.args.rounded) c.in-Err.is))
    (told_as (ap (λ (s : Stopped). Err s) c.unvisited.ensures) (refused_tells _ _ _))
