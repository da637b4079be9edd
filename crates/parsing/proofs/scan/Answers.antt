-- `parsing::scan` meets its contract: each turn of the loop passes one byte.
use mathlib.Core.Path.{sym, ◌∙◌}
use native.Mathlib.Omega.{arith}
use lib.ListN.{get_or}
use Rattle.parsing.proofs.Scans.{run_more, run_stops, run-ended}
use Rattle.parsing.proofs.scan.Goals as goal

pub returns-then-not-such : goal.returns-then-not-such
returns-then-not-such g c test tests =
    let s = c.args.s.now in
    let i = c.loop-i.i in
    let stops = run_stops test s i (omega arith) (sym (tests (get_or s i 0) (omega arith) c.such.result c.such.ensures) ∙ c.if-not-such.true) in
    omega (arith, stops, c.loop-i.invariant test tests)

pub loop-i-preserved : goal.loop-i-preserved
loop-i-preserved g c test tests =
    let s = c.args.s.now in
    let i = c.loop-i.i in
    let more = run_more test s i (omega arith) (sym (tests (get_or s i 0) (omega arith) c.such.result c.such.ensures) ∙ c.if-not-such.false) in
    omega (arith, more, c.loop-i.invariant test tests)

pub returns : goal.returns
returns g c test tests =
    let s = c.args.s.now in
    let i = c.loop-i.i in
    omega (arith, run-ended test s i (omega arith), c.loop-i.invariant test tests)
