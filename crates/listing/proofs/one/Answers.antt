-- `listing::one` meets its contract: the answer, its line, and the place that it carries.
use mathlib.Core.Path.{◌∙◌}
use Rattle.listing.specs.Putting.{answer_in}
use Rattle.listing.proofs.TellLaws.{few_told}
use Rattle.listing.proofs.one.Goals as goal

pub put_line-end-requires : goal.put_line-end-requires
put_line-end-requires c =
    let a = c.args in
    (c.answer-t.auto.list ∙ c.requires.0, (few_told (answer_in a.sources.now a.before a.s.now) _ _ c.answer-t.ensures, c.requires.1))

pub returns : goal.returns
returns c =
    let a = c.args in
    let answer = answer_in a.sources.now a.before a.s.now in
    let tells = c.answer-t.ensures in
    record { line = c.put_line-end.ensures.text answer tells; end = c.put_line-end.ensures.end; carried = c.carry-carried.ensures answer tells }
