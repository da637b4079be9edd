-- `listing::notice` meets its contract: the four pieces of its line, one after the other.
use Prim.Native.Nat.{ℕ, ◌+◌}
use mathlib.Core.Path.{◌≡◌, refl, ◌∙◌, subst}
use native.Mathlib.Omega.{arith}
use Rattle.text.specs.Texts.{spaced, bytes_in}
use Rattle.text.specs.Puts.{Put}
use Rattle.text.proofs.PutLaws.{put_from, put_then}
use Rattle.std.specs.Prelude.{None}
use Rattle.listing.proofs.ListingLaws.{put_first}
use Rattle.listing.proofs.notice.Goals.{After-put-a, After-put-b}
use Rattle.listing.proofs.notice.Goals as goal

-- The first two pieces.
word-put : (c : After-put-a) → let a = c.args in Put a.out.now 0 a.word.now c.put-a.new.out c.put-a.result
word-put c = put_from (c.put-a.ensures.end, c.put-a.ensures.out) (omega (arith, c.requires))

refused-put : (c : After-put-b) → Put c.put-a.new.out c.put-a.result (bytes_in " REFUSED") c.put-b.new.out c.put-b.result
unfolding bytes_in
refused-put c =
    put_from (c.put-b.ensures.end, c.put-b.ensures.out) (omega (arith, c.requires, (put_from (c.put-a.ensures.end, c.put-a.ensures.out) (omega (arith, c.requires))).end_is, c.put-a.auto.out))

refused_end : (c : After-put-b) → c.put-b.result ≡ c.put-a.result + 8
unfolding bytes_in
refused_end c = (refused-put c).end_is

pub put_figure-c-requires : goal.put_figure-c-requires
put_figure-c-requires c =
    omega (arith, c.requires, (word-put (goal.at.put_figure-c-requires c).After-put-a).end_is, refused_end (goal.at.put_figure-c-requires c).After-put-b, c.put-a.auto.out, c.put-b.auto.out)

pub returns : goal.returns
unfolding bytes_in
returns c =
    let newline =
    put_from (c.put-length.ensures.end, c.put-length.ensures.out)
    (omega (arith, c.requires, (word-put (goal.at.returns c).After-put-a).end_is, refused_end (goal.at.returns c).After-put-b, c.put_figure-c.ensures.end, c.put-a.auto.out, c.put-b.auto.out, c.put_figure-c.auto.out)) in
    let number = subst (λ (n : ℕ). Put c.put-b.new.out c.put-b.result (spaced n) c.put_figure-c.new.out c.put_figure-c.result) (c.from.ensures ∙ c.number.ensures) c.put_figure-c.ensures.text in
    put_first None refl
    (put_then (word-put (goal.at.returns c).After-put-a) (put_then (refused-put (goal.at.returns c).After-put-b) (put_then number newline)))
