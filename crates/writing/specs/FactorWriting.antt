-- The writer of scale factors: which it refuses, and the bytes of the side file (02, A3).
use Rattle.std.specs.Prelude.{ℕ, List, [], ◌∷◌, ◌++◌, Result, Ok, Err, eqb}
use Rattle.refusals.specs.declared.Refusal.{Refusal}
use Rattle.refusals.specs.declared.Refusal.TheVariants as refusal
use Rattle.fields.specs.Fields.{bytes_of}
use Rattle.chart.specs.declared.Chain.{Chain}
use Rattle.chart.specs.Factors.{is_factor}
use Rattle.records.specs.Bytes.{unless}
use Rattle.records.specs.ChainTables.{factor_bytes}
use Rattle.writing.specs.Buffers.{left_in}

-- Whether a factor is written into a buffer of `bytes` bytes. If not, it is refused for the buffer, then as one that is not allowed.
unfoldable pub factor_refusal_of : ℕ → ℕ → Result (Unit {0}) Refusal
factor_refusal_of bytes f =
    unless (eqb bytes factor_bytes) (Err refusal.Length)
    (unless (is_factor f) (Err refusal.Chain)
    (Ok tt))

-- What a buffer of `bytes` bytes holds after a factor was written or refused.
unfoldable pub factor_buffer_of : ℕ → ℕ → List ℕ
factor_buffer_of bytes f = left_in bytes (factor_refusal_of bytes f) (bytes_of factor_bytes f)

-- The side file made of the factors of chains that are written one after the other, each into a buffer of 4 bytes.
unfoldable pub scale_of : List Chain → List ℕ
scale_of [] = []
scale_of (c ∷ cs) = factor_buffer_of factor_bytes c.factor ++ scale_of cs
