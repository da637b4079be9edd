-- `listing::put_figure` meets its contract: a space, then the number.
use native.Mathlib.Omega.{arith}
use Rattle.text.proofs.Digits.{digits_64}
use Rattle.text.proofs.PutLaws.{put_both, end_within, put_from}
use Rattle.listing.proofs.put_figure.Goals as goal

pub returns : goal.returns
returns c =
    let few = digits_64 c.args.n c.ranges.n.fits in
    let both = put_both (put_from (c.put-a.ensures.end, c.put-a.ensures.out)) (put_from (c.put_number.ensures.end, c.put_number.ensures.out)) (omega (arith, c.requires, few)) in
    record { text = both; end = end_within both (omega (arith, few)) }
