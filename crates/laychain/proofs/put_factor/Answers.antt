-- `laychain::put_factor` lends `write_factor` the 4 bytes of the factor's place in the side file.
use Rattle.std.proofs.Common.{◌≡◌, ◌+◌, ◌-◌, ◌*◌, length, take, drop, ◌∙◌, arith, length-drop, length-take}
use Rattle.laychain.proofs.TableLaws.{factor_placed}
use Rattle.laychain.proofs.put_factor.Goals as goal

pub returns : goal.returns
returns c =
    let a = c.args in
    let part = length (take (4 * a.before + 4 - 4 * a.before) (drop (4 * a.before) a.scale.now)) in
    let size : part ≡ 4 = length-take (4 * a.before + 4 - 4 * a.before) (drop (4 * a.before) a.scale.now) ∙ omega (arith, length-drop (4 * a.before) a.scale.now, c.requires) in
    factor_placed a.scale.now a.before a.factor part c.write_factor.new.buffer c.requires.0 c.requires.1 size c.write_factor.ensures.buffer
