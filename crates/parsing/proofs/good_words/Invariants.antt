-- `parsing::good_words` meets its contract: each turn of the loop finds one more word that is what it is taken for.
use mathlib.Core.Path.{◌≡◌}
use Rattle.parsing.specs.Forms.{good_up_to}
use Rattle.parsing.proofs.good_words.Given as goal

abbrev pub invariant-loop-i : goal.invariant-loop-i
invariant-loop-i l = good_up_to l.form l.i l.line ≡ l.i
