-- `shown::job` meets its contract: the word, the fields, and why the record is refused.
use Prim.Native.Nat.{ℕ}
use mathlib.Core.List.{◌++◌}
use mathlib.Core.Path.{ap}
use native.Mathlib.Omega.{arith}
use lib.ListN.{length}
use Rattle.std.proofs.lemmas.Result.{err_from_is_err_and}
use Rattle.std.specs.Prelude.{Ok}
use Rattle.text.specs.Texts.{bytes_in}
use Rattle.shown.specs.Fields.{refused_text}
use Rattle.shown.specs.Lines.{job_line}
use Rattle.shown.proofs.ShownLaws.{puts_as, puts_both, line_shown, begun, not_begun}
use Rattle.shown.proofs.job.Goals as goal

pub returns-in_err-a : goal.returns-in_err-a
returns-in_err-a c =
    let shown = not_begun (Ok (job_line c.args.s.now)) c.in_err-a.was (err_from_is_err_and c.from_residual.result c.from_residual.ensures.1) c.put_word.ensures in
    record { answer = shown.answer_is; out = shown.now_is }

pub returns : goal.returns
unfolding job_line bytes_in
returns c =
    let s = c.args.s.now in
    let word = begun c.in_ok-a.was c.put_word.ensures in
    let refused = puts_as (ap (λ (n : ℕ). refused_text n s ++ bytes_in "\n") (c.job_refusal.ensures)) c.put_end.ensures in
    let shown = line_shown (length s) word.0 (puts_both word.1 (puts_both c.put_job-b.ensures refused)) (omega arith) in
    record { answer = shown.answer_is; out = shown.now_is }
