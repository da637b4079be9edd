-- Lengths as a person may type them (docs/FORMATS.md, Text).
use Rattle.std.specs.Prelude.{ℕ, List, [], ◌∷◌, ◌++◌}
use Rattle.shown.specs.Fields.{decimal_text}

-- Centimetres written as metres with two decimals, each length after a space.
unfoldable pub metres_line : List ℕ → List ℕ
metres_line [] = []
metres_line (n ∷ ns) = (32 ∷ decimal_text n) ++ metres_line ns
