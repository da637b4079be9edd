-- `listing::put_last` meets its contract: nothing for a refused record, else the flag.
use mathlib.Core.Path.{sym, ap}
use native.Mathlib.Omega.{arith}
use Rattle.text.proofs.PutLaws.{flag_length, put_none, put_from, put_as, end_within}
use Rattle.listing.specs.Putting.{last_text}
use Rattle.listing.proofs.put_last.Goals as goal

pub returns-in_default : goal.returns-in_default
unfolding last_text
returns-in_default c =
    let a = c.args in
    record { text = put_as (sym (ap last_text c.in_default.is)) (put_none a.out.now a.at (omega (arith, c.requires))); end = omega arith }

pub returns : goal.returns
unfolding last_text
returns c =
    let flag = flag_length c.in-Ok.t.rounded in
    let told = put_from (c.put_flag.ensures.end, c.put_flag.ensures.out) (omega (arith, c.requires, flag)) in
    record { text = put_as (sym (ap last_text c.in-Ok.is)) told; end = end_within told (omega (arith, flag)) }
