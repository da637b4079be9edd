-- `listing::put_head` meets its contract: the line number of a whole record, or the dash.
use Prim.Native.Nat.{◌^◌, ◌<◌}
use mathlib.Core.Path.{sym, ap, ◌∙◌}
use native.Mathlib.Omega.{arith}
use borrow.Author.Rules.{rules}
use lib.ListN.{length}
use Rattle.text.specs.Texts.{digits_of, bytes_in}
use Rattle.text.proofs.Digits.{digits_32}
use Rattle.text.proofs.PutLaws.{put_from, put_as, end_within, room_32}
use Rattle.listing.proofs.LineLaws.{head_line, head_dash}
use Rattle.listing.proofs.put_head.Goals as goal

pub returns-in-Ok : goal.returns-in-Ok
returns-in-Ok c =
    let small : c.from.result < 2 ^ 32 = search rules in
    let number = put_from (c.put_number.ensures.end, c.put_number.ensures.out) (room_32 c.args.at (length c.args.out.now) small c.requires) in
    record { text = put_as (ap digits_of c.from.ensures ∙ head_line _ _ (sym c.raw_record.ensures ∙ c.in-Ok.is)) number; end = end_within number (digits_32 _ small) }

pub returns-in-Err : goal.returns-in-Err
unfolding bytes_in
returns-in-Err c =
    let dash = put_from (c.put.ensures.end, c.put.ensures.out) (omega (arith, c.requires)) in
    record { text = put_as (head_dash _ _ (sym c.raw_record.ensures ∙ c.in-Err.is)) dash; end = end_within dash (omega arith) }
