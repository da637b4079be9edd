-- `writing::put_job` meets its contract: each field is put into zeros, and together they are the job.
use Prim.Native.Nat.{ℕ}
use mathlib.Core.Path.{ap, ◌∙◌}
use mathlib.Core.List.{List}
use lib.ListN.{set}
use Rattle.fields.specs.Fields.{put_at}
use Rattle.writing.specs.ChainWriting.{put_place_at}
use Rattle.writing.proofs.JobWriteLaws.{fields_together}
use Rattle.writing.proofs.put_job.Goals as goal

pub returns : goal.returns
returns c =
    let j = c.args.j in
    let to-corner = c.put_place.ensures ∙ ap (λ (s : List ℕ). put_place_at s 0 j.window.corner) c.requires.0 in
    let to-tolerance = c.put_four.ensures.buffer ∙ ap (λ (s : List ℕ). put_at 4 (set s 8 j.window.k) 12 j.tolerance) to-corner in
    c.put_eight.ensures.buffer ∙ ap (λ (s : List ℕ). put_at 8 s 16 j.allowance) to-tolerance ∙ fields_together j
