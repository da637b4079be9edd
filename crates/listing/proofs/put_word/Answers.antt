-- `listing::put_word` meets its contract, word by word.
use mathlib.Core.Path.{sym, ap}
use native.Mathlib.Omega.{arith}
use Rattle.text.specs.Texts.{bytes_in}
use Rattle.text.proofs.PutLaws.{put_from, put_as, end_within}
use Rattle.listing.specs.Putting.{word_text}
use Rattle.listing.proofs.put_word.Goals as goal

pub returns-in-Fix : goal.returns-in-Fix
unfolding word_text bytes_in
returns-in-Fix c =
    let told = put_from (c.put.ensures.end, c.put.ensures.out) (omega arith) in
    record { text = put_as (sym (ap word_text c.in-Fix.is)) told; end = end_within told (omega arith) }

pub returns-in-Grid : goal.returns-in-Grid
unfolding word_text bytes_in
returns-in-Grid c =
    let told = put_from (c.put-in-Grid.ensures.end, c.put-in-Grid.ensures.out) (omega arith) in
    record { text = put_as (sym (ap word_text c.in-Grid.is)) told; end = end_within told (omega arith) }

pub returns-in-Hold : goal.returns-in-Hold
unfolding word_text bytes_in
returns-in-Hold c =
    let told = put_from (c.put-in-Hold.ensures.end, c.put-in-Hold.ensures.out) (omega arith) in
    record { text = put_as (sym (ap word_text c.in-Hold.is)) told; end = end_within told (omega arith) }
