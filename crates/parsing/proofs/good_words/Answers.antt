-- `parsing::good_words` meets its contract: each turn of the loop finds one more word that is what it is taken for.
use mathlib.Core.Path.{◌≡◌, refl, sym, ap₂, ◌∙◌}
use native.Mathlib.Omega.{arith}
use Rattle.parsing.specs.Forms.{words_of, is_taken, good_up_to}
use Rattle.parsing.proofs.Forms.{is_good, good_stops, good_more}
use Rattle.parsing.proofs.good_words.Goals.{After-is_taken}
use Rattle.parsing.proofs.good_words.Goals as goal

pub loop-i-init : goal.loop-i-init
unfolding good_up_to
loop-i-init c = refl

-- Whether the word is what it is taken for.
good : (c : After-is_taken) → is_good c.args.form c.args.line.now c.loop-i.i ≡ c.is_taken.result
good c = sym (c.is_taken.ensures ∙ ap₂ is_taken c.taken_for.ensures c.word_of.ensures)

pub returns-then-not-is_taken : goal.returns-then-not-is_taken
returns-then-not-is_taken c =
    let a = c.args in
    sym
    (good_stops a.form a.line.now c.loop-i.i (words_of a.form) (omega (arith, c.words_of-n.ensures)) c.loop-i.invariant
    (good (goal.at.returns-then-not-is_taken c).After-is_taken ∙ c.if-not-is_taken.true))

pub loop-i-preserved : goal.loop-i-preserved
loop-i-preserved c =
    good_more c.args.form c.args.line.now c.loop-i.i c.loop-i.invariant (good (goal.at.loop-i-preserved c).After-is_taken ∙ c.if-not-is_taken.false)
