-- The scale factor of a chain: how ground and grid lengths go together (02, A3).
use Rattle.std.specs.Prelude.{ℕ, ◌*◌, ◌/◌, Bool, ◌&&◌, leb}

-- A factor is in millionths. With this one a length on the grid is as long on the ground.
abbrev pub unit_factor : ℕ
unit_factor = 1_000_000

-- How small and how large a factor may be.
abbrev pub least_factor : ℕ
least_factor = 999_000

abbrev pub most_factor : ℕ
most_factor = 1_001_000

-- A factor that is allowed. Both ends are.
unfoldable pub is_factor : ℕ → Bool
is_factor f = leb least_factor f && leb f most_factor

-- How long d centimetres of the grid are on the ground, under the factor f, cut to whole centimetres.
unfoldable pub on_ground : ℕ → ℕ → ℕ
on_ground f d = d * unit_factor / f
