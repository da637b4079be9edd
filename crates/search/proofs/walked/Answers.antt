-- `search::walked` meets its contract: the walk may start with any list, and its end is answered with the list cleared.
use mathlib.Core.Path.{◌∙◌}
use native.Mathlib.Omega.{arith}
use Rattle.search.specs.Walk.{start}
use Rattle.search.proofs.WindowLaws.{window_says}
use Rattle.search.proofs.HoldLaws.{held_fits}
use Rattle.search.proofs.EndLaws.{start_holds, halted_told, none_told, some_told}
use Rattle.search.proofs.walked.Goals as goal

pub side_of-requires : goal.side_of-requires
side_of-requires c = omega (arith, (window_says c.args.w c.requires.0).0)

pub visit-requires : goal.visit-requires
visit-requires c =
    ((window_says c.args.w c.requires.0).1 _ _ (omega arith) c.side_of.ensures, c.requires.1)

pub returns-in-Err : goal.returns-in-Err
returns-in-Err c =
    let told = halted_told _ _ _ c.visit.new.list _ (c.in-Err.ensures start (start_holds _)) c.visit.auto.list c.refused.ensures.list in
    record { answer = c.refused.ensures.answer ∙ told.0; list = told.1 }

pub overflow_mul-count : goal.overflow_mul-count
overflow_mul-count c =
    omega (arith, held_fits _ _ _ (c.in-Ok.ensures start (start_holds _)), c.visit.auto.list)

pub returns-then-count-eq0 : goal.returns-then-count-eq0
returns-then-count-eq0 c =
    let told = none_told _ _ _ c.visit.new.list _ (c.in-Ok.ensures start (start_holds _)) c.visit.auto.list c.clear_entries.ensures c.if-count-eq0.true in
    record { answer = told.0; list = told.1 }

pub returns-else-count-eq0 : goal.returns-else-count-eq0
returns-else-count-eq0 c =
    let told = some_told _ _ _ c.visit.new.list _ (c.in-Ok.ensures start (start_holds _)) c.visit.auto.list c.clear_entries.ensures c.if-count-eq0.false in
    record { answer = told.0; list = told.1 }
