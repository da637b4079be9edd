-- `files::Tool::words_of` gives the line of the arguments if help is not asked for.
use Rattle.std.proofs.Common.{Bool, ◌-◌, sym, subst}
use Rattle.files.specs.Answers.{IsGiven}
use Rattle.files.proofs.Tool.words_of.Goals as goal

pub returns : goal.returns
returns g c =
    subst (λ (t : Bool). IsGiven t c.joined.new.line c.joined.result) (sym c.if-asked.false) (c.argument_count.result - 1, c.joined.ensures)
