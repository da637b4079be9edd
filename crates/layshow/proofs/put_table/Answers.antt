-- `layshow::put_table` puts the lines of the chains, or the one line of a table that is refused.
use Prim.Native.Nat.{ℕ}
use mathlib.Core.Bool.{Bool}
use mathlib.Core.Path.{sym, ap, ◌∙◌}
use borrow.Author.Rules.{rules}
use Rattle.std.specs.Prelude.{Result}
use Rattle.refusals.specs.declared.Refusal.{Refusal}
use Rattle.records.proofs.TableLaws.{counted_short}
use Rattle.text.proofs.PutLaws.{put_as}
use Rattle.layshow.specs.Walks.{scaled_lines, table_lines_by}
use Rattle.layshow.proofs.put_table.Goals as goal

pub put_scaled-requires : goal.put_scaled-requires
put_scaled-requires c =
    (search rules, counted_short _ (sym c.chain_count.ensures ∙ c.in-Ok.is), search rules)

pub returns-in-Ok : goal.returns-in-Ok
unfolding table_lines_by
returns-in-Ok c =
    let a = c.args in
    put_as
    (ap (λ (t : Bool). scaled_lines t a.table.now a.scale.now) c.is_scale-fits.ensures
    ∙ ap (λ (n : Result ℕ Refusal). table_lines_by n a.table.now a.scale.now) (sym c.in-Ok.is ∙ c.chain_count.ensures))
    c.put_scaled.ensures

pub returns-in-Err : goal.returns-in-Err
unfolding table_lines_by
returns-in-Err c =
    let a = c.args in
    put_as (ap (λ (n : Result ℕ Refusal). table_lines_by n a.table.now a.scale.now) (sym c.in-Err.is ∙ c.chain_count.ensures)) c.put_chain.ensures.put
