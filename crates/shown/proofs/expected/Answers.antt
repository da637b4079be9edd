-- `shown::expected` meets its contract: why there are no readings, or a line for each slave.
use mathlib.Core.Path.{◌≡◌, sym, ap, ap₂, ◌∙◌}
use mathlib.Core.Bool.{true}
use mathlib.Core.List.{[], ◌∷◌}
use native.Mathlib.Omega.{arith}
use borrow.Author.Rules.{rules}
use lib.IntN.{ℤ}
use lib.ListN.{length}
use mir.Syntax.{w64}
use mir.ValLaws.{to_z-of_z}
use Rattle.std.proofs.lemmas.Result.{err_from_is_err_and}
use Rattle.std.specs.Prelude.{Ok}
use Rattle.chart.specs.Readings.{said_by}
use Rattle.shown.specs.Expected.{expected_text}
use Rattle.shown.specs.Rooms.{has_line_room, reply_of}
use Rattle.shown.proofs.ShownLaws.{line_shown, none_shown, refusal_shown, shown_as}
use Rattle.shown.proofs.expected.Goals.{Else-not-has_line_room}
use Rattle.shown.proofs.expected.Goals as goal

pub returns-then-not-has_line_room : goal.returns-then-not-has_line_room
returns-then-not-has_line_room c =
    let shown = none_shown c.args.out.now 0 _ (sym c.has_line_room.ensures ∙ c.if-not-has_line_room.true) in
    record { answer = shown.answer_is; out = shown.now_is }

room : (c : Else-not-has_line_room) → has_line_room (length c.args.out.now) 0 ≡ true
room c = sym c.has_line_room.ensures ∙ c.if-not-has_line_room.false

pub returns-in_err-both : goal.returns-in_err-both
unfolding said_by reply_of
returns-in_err-both c =
    let p = err_from_is_err_and c.from_residual.result c.from_residual.ensures.1 in
    let reply = ap reply_of (ap said_by (sym c.in_err-both.was) ∙ c.readings.ensures) in
    let shown = refusal_shown c.args.out.now 0 (room (goal.at.returns-in_err-both c).Else-not-has_line_room) reply in
    rw (p.1, p.2) (record { answer = shown.answer_is; out = shown.now_is })

pub returns : goal.returns
unfolding said_by reply_of
returns c =
    let back = ap₂ (λ (x y : ℤ). Ok (expected_text (x ∷ y ∷ []))) (to_z-of_z w64 _ (search rules)) (to_z-of_z w64 _ (search rules)) in
    let reply = back ∙ ap reply_of (ap said_by (sym c.in_ok-both.was) ∙ c.readings.ensures) in
    let shown = shown_as reply (line_shown 0 (room (goal.at.returns c).Else-not-has_line_room) c.put_slaves.ensures (omega arith)) in
    record { answer = shown.answer_is; out = shown.now_is }
