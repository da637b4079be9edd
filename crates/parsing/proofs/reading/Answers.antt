-- `parsing::reading` meets its contract: the negative of a size of 63 bits fits in 64 bits.
use Prim.Native.Nat.{ℕ, ◌-◌, ◌^◌, ◌<◌}
use mathlib.Core.Path.{◌≡◌, sym, ap, ap₂, ◌∙◌}
use mathlib.Core.List.{List}
use native.Mathlib.Omega.{arith}
use lib.IntN.{pos, ◌-ℤ◌}
use mir.Syntax.{w64}
use mir.Val.{to_z}
use mir.ValLaws.{to_z_pos, to_z-of_z}
use Rattle.metres.specs.Metres.{signed}
use Rattle.metres.proofs.Negatives.{minus_is, minus-fits}
use Rattle.parsing.specs.Words.{word_at}
use Rattle.parsing.specs.Numbers.{centimetres_in, is_below, size_in, held, size_at}
use Rattle.parsing.specs.Scanning.{sized_of}
use Rattle.parsing.proofs.Values.{held_told, held_within}
use Rattle.parsing.proofs.reading.Goals.{After-held_to-n}
use Rattle.parsing.proofs.reading.Goals as goal

-- The number in 63 bits, and the word's sign.
small : (c : After-held_to-n) → c.held_to-n.result < 2 ^ 63
small c = omega (arith, c.held_to-n.ensures, held_within (2 ^ 63 - 1) c.centimetres.result)

number : (c : After-held_to-n) → c.held_to-n.result ≡ held 63 (size_at c.args.s.now c.args.i)
number c =
    held_told 63 _ (omega arith) c.held_to-n.ensures
    (c.centimetres.ensures ∙ ap (λ (w : List ℕ). sized_of (centimetres_in w)) (c.size.ensures ∙ ap size_in c.word_of-w.ensures))

sign : (c : After-held_to-n) → c.is_below-below.result ≡ is_below (word_at c.args.i c.args.s.now)
sign c = c.is_below-below.ensures ∙ ap is_below c.word_of-w.ensures

pub overflow_cast-n : goal.overflow_cast-n
overflow_cast-n c = record { sfits = small c }

pub overflow_sub-result : goal.overflow_sub-result
overflow_sub-result c = minus-fits c.held_to-n.result (small (goal.at.overflow_sub-result c).After-held_to-n)

pub returns-then-below : goal.returns-then-below
returns-then-below c =
    let n = c.held_to-n.result in
    let o = (goal.at.returns-then-below c).After-held_to-n in
    to_z-of_z w64 (pos 0 -ℤ to_z w64 n) (overflow_sub-result c)
    ∙ minus_is n (small o)
    ∙ ap₂ signed (sym c.if-below.true ∙ sign o) (number o)

pub returns : goal.returns
returns c =
    let o = (goal.at.returns c).After-held_to-n in
    to_z_pos w64 c.held_to-n.result (small o) ∙ ap₂ signed (sym c.if-below.false ∙ sign o) (number o)
