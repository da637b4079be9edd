-- `listing::put_refused` meets its contract: the word and two numbers, one after the other.
use Prim.Native.Nat.{ℕ}
use mathlib.Core.Path.{◌∙◌, subst}
use native.Mathlib.Omega.{arith}
use Rattle.text.specs.Texts.{spaced, bytes_in}
use Rattle.text.specs.Puts.{Put}
use Rattle.text.proofs.PutLaws.{put_from, put_then}
use Rattle.listing.specs.Putting.{stopped_text}
use Rattle.listing.proofs.put_refused.Goals as goal

pub put_figure-b-requires : goal.put_figure-b-requires
put_figure-b-requires c =
    let word = put_from (c.put-a.ensures.end, c.put-a.ensures.out) (omega (arith, c.requires)) in
    omega (arith, c.requires, word.end_is, c.put-a.auto.out)

pub put_figure-requires : goal.put_figure-requires
put_figure-requires c =
    let word = put_from (c.put-a.ensures.end, c.put-a.ensures.out) (omega (arith, c.requires)) in
    omega (arith, c.requires, word.end_is, c.put_figure-b.ensures.end, c.put-a.auto.out, c.put_figure-b.auto.out)

pub returns : goal.returns
unfolding stopped_text bytes_in
returns c =
    let word = put_from (c.put-a.ensures.end, c.put-a.ensures.out) (omega (arith, c.requires)) in
    let number = subst (λ (n : ℕ). Put c.put-a.new.out c.put-a.result (spaced n) c.put_figure-b.new.out c.put_figure-b.result) (c.from.ensures ∙ c.number.ensures) c.put_figure-b.ensures.text in
    record {
      text = put_then word (put_then number c.put_figure.ensures.text);
      end = omega (arith, word.end_is, c.put_figure-b.ensures.end, c.put_figure.ensures.end);
    }
