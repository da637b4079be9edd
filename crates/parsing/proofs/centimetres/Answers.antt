-- `parsing::centimetres` meets its contract.
use Prim.Native.Nat.{◌-◌}
use mathlib.Core.Path.{◌≡◌, sym, ap, ◌∙◌}
use mathlib.Core.Bool.{true}
use mathlib.Core.List.{List}
use Prim.Native.Nat.{ℕ}
use lib.ListN.{length}
use Rattle.text.specs.Texts.{numeral_from}
use Rattle.parsing.specs.Numbers.{is_metres}
use Rattle.parsing.specs.Scanning.{sized_of}
use Rattle.parsing.proofs.Lines.{part_last}
use Rattle.parsing.proofs.Lengths.{plain_says, metres_value, metres_large}
use Rattle.parsing.proofs.centimetres.Goals as goal

pub returns-then-not-is_metres : goal.returns-then-not-is_metres
returns-then-not-is_metres c =
    c.value.ensures ∙ ap sized_of (sym (plain_says c.args.w.now (sym c.is_metres.ensures ∙ c.if-not-is_metres.true)))

pub returns-in_err-metres : goal.returns-in_err-metres
returns-in_err-metres c =
    let w = c.args.w.now in
    let metres : is_metres w ≡ true = sym c.is_metres.ensures ∙ c.if-not-is_metres.false in
    c.from_residual.ensures ∙ sym (metres_large w metres (sym c.in_err-metres.ensures))

pub returns : goal.returns
returns c =
    let w = c.args.w.now in
    let metres : is_metres w ≡ true = sym c.is_metres.ensures ∙ c.if-not-is_metres.false in
    c.value_from.ensures
    ∙ ap (λ (v : List ℕ). sized_of (numeral_from c.in_ok-metres.metres v)) (part_last w (length w - 2))
    ∙ ap sized_of (metres_value w c.in_ok-metres.metres metres (sym c.in_ok-metres.ensures))
