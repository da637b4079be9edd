-- `laywrite::put` puts all of the bytes, as `text::put` does if there is room.
use Rattle.std.proofs.Common.{arith}
use Rattle.text.proofs.PutLaws.{put_from, put_front, put_length}
use Rattle.laywrite.proofs.put.Goals as goal

pub returns : goal.returns
returns c =
    let a = c.args in
    let put = put_from {o = a.out.now} {at = a.at} {x = a.bytes.now} (c.put.ensures.end, c.put.ensures.out) c.requires in
    (omega (arith, put.end_is, put.fits, put_length put), put_front put)
