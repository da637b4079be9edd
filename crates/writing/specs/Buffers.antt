-- What a write leaves in its buffer, whatever it writes (01, Numbers of refusal: "a refused write leaves its whole buffer zero").
use Rattle.std.specs.Prelude.{ℕ, List, Result, Ok, Err, replicate}
use Rattle.refusals.specs.declared.Refusal.{Refusal}

-- What a buffer of `bytes` bytes holds after a write: what was to be written, or only zeros if the write was refused.
unfoldable pub left_in : ℕ → Result (Unit {0}) Refusal → List ℕ → List ℕ
left_in bytes (Ok done) written = written
left_in bytes (Err refusal) written = replicate bytes 0
