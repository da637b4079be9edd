-- `listing::answer` meets its contract, for each kind of entry.
use mathlib.Core.Path.{◌≡◌, ap, ◌∙◌}
use mir.Syntax.{w64}
use mir.ValLaws.{to_z-of_z}
use borrow.Author.Rules.{rules}
use Rattle.std.specs.Prelude.{Ok, Err}
use Rattle.search.specs.declared.Stopped.{Stopped}
use Rattle.records.specs.declared.LogEntry.TheVariants as entry
use Rattle.records.specs.ChainTables.{chain_of}
use Rattle.listing.specs.declared.Told.{Told}
use Rattle.listing.specs.Answers.{answer_by}
use Rattle.listing.proofs.TellLaws.{tells_as, told_as, fix_same, grid_tells, refused_tells, answer_by_lem}
use Rattle.listing.proofs.answer.Goals as goal

pub returns-in-Ok-Readings : goal.returns-in-Ok-Readings
unfolding answer_by
returns-in-Ok-Readings c =
    let f = c.args.sources.now in
    let is : c.marked_entry-m.result.entry ≡ Ok (entry.Readings c.in-Ok-Readings.a c.in-Ok-Readings.b) = search rules in
    tells_as (fix_same f.job _ _ _ _ _ _ _ (to_z-of_z w64 _ (search rules)) (to_z-of_z w64 _ (search rules)) (c.chain_of-chain.ensures ∙ ap (chain_of f.table.now f.scale.now) c.chain_byte.ensures)
    ∙ answer_by_lem _ _ _ _ _ _ _ _ c.marked_entry-m.ensures c.any_rounded-rounded.ensures is) c.fix.ensures

pub returns-in-Ok-Place : goal.returns-in-Ok-Place
unfolding answer_by
returns-in-Ok-Place c =
    let is : c.marked_entry-m.result.entry ≡ Ok (entry.Place c.in-Ok-Place.p) = search rules in
    tells_as (answer_by_lem _ _ _ _ _ _ _ _ c.marked_entry-m.ensures c.any_rounded-rounded.ensures is)
    (told_as (ap (λ (t : Told). Ok t) c.single.ensures.told) (grid_tells _ _ _ c.single.ensures.list))

pub returns-in-Ok-Hold : goal.returns-in-Ok-Hold
unfolding answer_by
returns-in-Ok-Hold c =
    let is : c.marked_entry-m.result.entry ≡ Ok entry.Hold = search rules in
    tells_as (answer_by_lem _ _ _ _ _ _ _ _ c.marked_entry-m.ensures c.any_rounded-rounded.ensures is) c.hold.ensures

pub returns-in-Err : goal.returns-in-Err
unfolding answer_by
returns-in-Err c =
    tells_as (answer_by_lem _ _ _ _ _ _ _ _ c.marked_entry-m.ensures c.any_rounded-rounded.ensures c.in-Err.is)
    (told_as (ap (λ (s : Stopped). Err s) c.unvisited.ensures) (refused_tells _ _ _))
