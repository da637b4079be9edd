-- `chart::readings` meets its contract: of a place in range and a sound chain the readings are the differences of the ranges.
use mathlib.Core.Path.{◌≡◌, sym, ap₂, ◌∙◌}
use mathlib.Core.Bool.{true}
use mathlib.Core.List.{[], ◌∷◌}
use lib.IntN.{ℤ, sub_ℕ}
use mir.Syntax.{w64}
use mir.ValLaws.{to_z-of_z}
use Rattle.std.specs.Prelude.{Ok}
use Rattle.chart.specs.Places.{in_range}
use Rattle.chart.specs.Chains.{is_sound}
use Rattle.chart.specs.Readings.{reading_of, said_by}
use Rattle.chart.proofs.ChainLaws.{factor_allowed, stations_in_range}
use Rattle.chart.proofs.ReadingLaws.{expected_readings}
use Rattle.chart.proofs.readings.Goals as goal

pub range-requires : goal.range-requires
range-requires c =
    let sound : is_sound c.args.c ≡ true = cc in
    let place : in_range c.args.p ≡ true = cc in
    search (factor_allowed _ sound, stations_in_range _ sound, place)

pub returns : goal.returns
unfolding reading_of said_by
returns c =
    let sound : is_sound c.args.c ≡ true = cc in
    let place : in_range c.args.p ≡ true = cc in
    let a = c.less-a in
    let b = c.less-b in
    let m = c.range-m.ensures.0 in
    ap₂ (λ (x y : ℤ). Ok (x ∷ y ∷ []))
    (to_z-of_z w64 a.result (record { sfits = a.type_inv }) ∙ a.ensures ∙ ap₂ sub_ℕ c.range.ensures.0 m)
    (to_z-of_z w64 b.result (record { sfits = b.type_inv }) ∙ b.ensures ∙ ap₂ sub_ℕ c.range-2.ensures.0 m)
    ∙ sym (expected_readings _ _ place sound)
