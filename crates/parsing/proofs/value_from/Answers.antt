-- `parsing::value_from` meets its contract: each turn of the loop takes one more digit, until the number has more than 64 bits.
use Prim.Native.Nat.{ℕ, ◌+◌, ◌-◌, ◌*◌}
use mathlib.Core.Path.{◌≡◌, sym, ap, ◌∙◌}
use native.Mathlib.Omega.{arith}
use lib.ListN.{get_or, drop}
use Rattle.text.specs.Texts.{numeral_from}
use Rattle.parsing.specs.Scanning.{sized_of}
use Rattle.parsing.proofs.Values.{numeral_more, numeral-ended, numeral_grows, sized_small, sized_large}
use Rattle.parsing.proofs.value_from.Goals as goal

pub returns-in_err-checked_mul : goal.returns-in_err-checked_mul
returns-in_err-checked_mul c =
    let n = c.loop-b.n in
    let w = c.args.w.now in
    let i = c.loop-b.b-index in
    let more = numeral_more n w i (omega arith) in
    let grows = numeral_grows (10 * n + (get_or w i 0 - 48)) (drop (i + 1) w) in
    c.from_residual.ensures ∙ sym (sized_large (numeral_from c.args.before w) (omega (arith, more, grows, c.loop-b.invariant.1, c.in_err-checked_mul.ensures)))

pub returns-in_err-n : goal.returns-in_err-n
returns-in_err-n c =
    let n = c.loop-b.n in
    let w = c.args.w.now in
    let i = c.loop-b.b-index in
    let more = numeral_more n w i (omega arith) in
    let grows = numeral_grows (10 * n + (get_or w i 0 - 48)) (drop (i + 1) w) in
    c.from_residual-in_err-n.ensures ∙ sym (sized_large (numeral_from c.args.before w) (omega (arith, more, grows, c.loop-b.invariant.1, c.digit.ensures, c.in_ok-checked_mul.ensures, c.in_err-n.ensures)))

pub loop-b-preserved : goal.loop-b-preserved
loop-b-preserved c =
    let n = c.loop-b.n in
    let w = c.args.w.now in
    let i = c.loop-b.b-index in
    let next : c.in_ok-n.n ≡ 10 * n + (get_or w i 0 - 48) = omega (arith, c.digit.ensures, c.in_ok-checked_mul.ensures, c.in_ok-n.ensures) in
    (omega (arith, c.in_ok-n.ensures), ap (λ (m : ℕ). numeral_from m (drop (i + 1) w)) next ∙ sym (numeral_more n w i (omega arith)) ∙ c.loop-b.invariant.1)

pub returns : goal.returns
returns c =
    let n = c.loop-b.n in
    let w = c.args.w.now in
    let i = c.loop-b.b-index in
    sym (sized_small n c.loop-b.invariant.0) ∙ ap sized_of (sym (numeral-ended n w i (omega arith)) ∙ c.loop-b.invariant.1)
