-- `parsing::word` meets its contract: each turn of the loop passes one word.
use Prim.Native.Nat.{ℕ, ◌+◌, ◌-◌, ◌<◌}
use mathlib.Core.Path.{◌≡◌, sym, ap, ◌∙◌, subst}
use mathlib.Core.List.{List}
use native.Mathlib.Omega.{arith}
use lib.ListN.{drop}
use borrow.Author.Rules.{rules}
use Rattle.parsing.specs.Words.{is_blank, is_in_word, word_at, Spans}
use Rattle.parsing.proofs.Scans.{Scanned, scanned_behind, scanned_end, scanned_start_at, scanned_word, word_next, word_first, start_first, scan_within}
use Rattle.parsing.proofs.word.Goals.{After-scan-at}
use Rattle.parsing.proofs.word.Goals as goal

pub scan-at-requires-clause-within : goal.scan-at-requires-clause-within
scan-at-requires-clause-within c =
    omega (arith, c.scan.ensures is_blank (λ b fits passes posted. search rules), scan_within is_blank c.args.s.now c.loop-passed.at c.loop-passed.invariant.0)

-- The two scans of a turn.
turned : (c : After-scan-at) → Scanned c.args.s.now c.loop-passed.at c.scan.result c.scan-at.result
turned c =
    record {
      inside = c.loop-passed.invariant.0;
      to_start = c.scan.ensures is_blank (λ b fits passes posted. search rules);
      to_end = c.scan-at.ensures is_in_word (λ b fits passes posted. search rules);
    }

pub loop-passed-preserved : goal.loop-passed-preserved
loop-passed-preserved c =
    let loop = c.loop-passed in
    let s = c.args.s.now in
    let left : ℕ = c.args.i - loop._passed in
    let some : 0 < left = omega arith in
    let one_less : c.args.i - (loop._passed + 1) ≡ left - 1 = omega arith in
    let scanned = turned c in
    rw one_less
    (scanned_end scanned, (ap (word_at (left - 1)) (sym (scanned_behind scanned)) ∙ sym (word_next left (drop loop.at s) some) ∙ loop.invariant.1.0, scanned_start_at left scanned some ∙ loop.invariant.1.1))

pub scan-end-requires-clause-within : goal.scan-end-requires-clause-within
scan-end-requires-clause-within c =
    omega (arith, c.scan-start.ensures is_blank (λ b fits passes posted. search rules), scan_within is_blank c.args.s.now c.loop-passed.at c.loop-passed.invariant.0)

pub returns : goal.returns
returns c =
    let loop = c.loop-passed in
    let s = c.args.s.now in
    let scanned : Scanned s loop.at c.scan-start.result c.scan-end.result =
    record {
      inside = loop.invariant.0;
      to_start = c.scan-start.ensures is_blank (λ b fits passes posted. search rules);
      to_end = c.scan-end.ensures is_in_word (λ b fits passes posted. search rules);
    } in
    let none : c.args.i - loop._passed ≡ 0 = omega arith in
    record {
      span =
          subst (λ (w : List ℕ). Spans s w (record { start = c.scan-start.result; end = c.scan-end.result }))
          (sym (word_first _ (drop loop.at s) none) ∙ loop.invariant.1.0) (scanned_word scanned);
      start = omega (arith, scanned.to_start, start_first _ (drop loop.at s) none, loop.invariant.1.1);
    }
