-- `shown::how_many` meets its contract: the line of each answer, or why there is none.
use mathlib.Core.Path.{◌≡◌, sym, ap, ap₂, ◌∙◌}
use mathlib.Core.Bool.{true}
use mathlib.Core.List.{[], ◌∷◌}
use native.Mathlib.Omega.{arith}
use lib.IntN.{ℤ}
use lib.ListN.{length}
use mir.Syntax.{w64}
use mir.ValLaws.{to_z-of_z}
use Rattle.std.specs.Prelude.{Ok}
use Rattle.search.specs.declared.HowMany.{HowMany}
use Rattle.text.specs.Texts.{bytes_in}
use Rattle.shown.specs.Counted.{counted_in, many_reply}
use Rattle.shown.specs.Rooms.{has_line_room}
use Rattle.shown.proofs.ShownLaws.{line_shown, none_shown, refusal_shown, shown_as}
use Rattle.shown.proofs.how_many.Goals.{After-counted, Else-not-has_line_room}
use Rattle.shown.proofs.how_many.Goals as goal

-- There is room for the line.
room : (c : Else-not-has_line_room) → has_line_room (length c.args.out.now) 0 ≡ true
room c = sym c.has_line_room.ensures ∙ c.if-not-has_line_room.false

-- What was counted is the answer for the readings as they were given.
asked : (c : After-counted) → let a = c.args in many_reply c.counted.result ≡ many_reply (counted_in a.table.now a.scale.now a.job.now a.chain (a.a ∷ a.b ∷ []))
asked c =
    let a = c.args in
    ap many_reply c.counted.ensures
    ∙ ap₂ (λ (x y : ℤ). many_reply (counted_in a.table.now a.scale.now a.job.now a.chain (x ∷ y ∷ []))) (to_z-of_z w64 a.a c.ranges.a) (to_z-of_z w64 a.b c.ranges.b)

pub returns-then-not-has_line_room : goal.returns-then-not-has_line_room
returns-then-not-has_line_room c =
    let shown = none_shown c.args.out.now 0 _ (sym c.has_line_room.ensures ∙ c.if-not-has_line_room.true) in
    record { answer = shown.answer_is; out = shown.now_is }

pub returns-in-Ok-None : goal.returns-in-Ok-None
unfolding many_reply bytes_in
returns-in-Ok-None c =
    let at = goal.at.returns-in-Ok-None c in
    let reply = ap (λ (m : HowMany). many_reply (Ok m)) (sym c.in-Ok-None.field-0-is) ∙ ap many_reply (sym c.in-Ok-None.is) ∙ asked at.After-counted in
    let shown = shown_as reply (line_shown 0 (room at.Else-not-has_line_room) c.put_many.ensures (omega arith)) in
    record { answer = shown.answer_is; out = shown.now_is }

pub returns-in-Ok-One : goal.returns-in-Ok-One
unfolding many_reply bytes_in
returns-in-Ok-One c =
    let at = goal.at.returns-in-Ok-One c in
    let reply = ap (λ (m : HowMany). many_reply (Ok m)) (sym c.in-Ok-One.field-0-is) ∙ ap many_reply (sym c.in-Ok-One.is) ∙ asked at.After-counted in
    let shown = shown_as reply (line_shown 0 (room at.Else-not-has_line_room) c.put_many-in-Ok-One.ensures (omega arith)) in
    record { answer = shown.answer_is; out = shown.now_is }

pub returns-in-Ok-Several : goal.returns-in-Ok-Several
unfolding many_reply bytes_in
returns-in-Ok-Several c =
    let at = goal.at.returns-in-Ok-Several c in
    let reply = ap (λ (m : HowMany). many_reply (Ok m)) (sym c.in-Ok-Several.field-0-is) ∙ ap many_reply (sym c.in-Ok-Several.is) ∙ asked at.After-counted in
    let shown = shown_as reply (line_shown 0 (room at.Else-not-has_line_room) c.put_many-in-Ok-Several.ensures (omega arith)) in
    record { answer = shown.answer_is; out = shown.now_is }

pub returns-in-Err : goal.returns-in-Err
unfolding many_reply
returns-in-Err c =
    let at = goal.at.returns-in-Err c in
    let reply = ap many_reply (sym c.in-Err.is) ∙ asked at.After-counted in
    let shown = refusal_shown c.args.out.now 0 (room at.Else-not-has_line_room) reply in
    record { answer = shown.answer_is; out = shown.now_is }
