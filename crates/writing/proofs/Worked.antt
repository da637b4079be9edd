-- 01's log of three records, its chain and its job as they are written: the bytes that docs/FORMATS.md shows.
use mathlib.Core.Path.{◌≡◌, refl}
use mathlib.Core.List.{[], ◌∷◌}
use lib.IntN.{pos, negsuc}
use lib.Ieee.{to_bits}
use Rattle.fields.specs.Fields.{bytes_of}
use Rattle.metres.specs.Metres.{metres_of, length_figures}
use Rattle.records.proofs.Worked.{line_1, line_2, line_3}
use Rattle.writing.specs.Writing.{record_bytes}
use Rattle.writing.specs.ChainWriting.{bytes_of_chain}
use Rattle.writing.specs.JobWriting.{bytes_of_job}

line_1_written : record_bytes (record { kind = 1; chain = 1; line = 1; x = negsuc 9_999; y = negsuc 19_999 }) ≡ line_1
unfolding record_bytes bytes_of metres_of length_figures to_bits
line_1_written = refl

line_2_written : record_bytes (record { kind = 2; chain = 0; line = 2; x = pos 30_001; y = pos 40_000 }) ≡ line_2
unfolding record_bytes bytes_of metres_of length_figures to_bits
line_2_written = refl

line_3_written : record_bytes (record { kind = 3; chain = 0; line = 3; x = pos 0; y = pos 0 }) ≡ line_3
unfolding record_bytes bytes_of metres_of length_figures to_bits
line_3_written = refl

chain_written_lem :
    bytes_of_chain (record { master = record { easting = 0; northing = 0 }; a = record { easting = 30_000; northing = 0 }; b = record { easting = 0; northing = 40_000 }; factor = 1_000_000 })
    ≡ 0 ∷ 0 ∷ 0 ∷ 0 ∷ 0 ∷ 0 ∷ 0 ∷ 0
    ∷ 0x30 ∷ 0x75 ∷ 0 ∷ 0 ∷ 0 ∷ 0 ∷ 0 ∷ 0
    ∷ 0 ∷ 0 ∷ 0 ∷ 0 ∷ 0x40 ∷ 0x9c ∷ 0 ∷ 0 ∷ []
unfolding bytes_of_chain bytes_of
chain_written_lem = refl

job_written :
    bytes_of_job (record { window = record { corner = record { easting = 30_000; northing = 40_000 }; k = 1 }; tolerance = 0; allowance = 100 })
    ≡ 0x30 ∷ 0x75 ∷ 0 ∷ 0 ∷ 0x40 ∷ 0x9c ∷ 0 ∷ 0
    ∷ 1 ∷ 0 ∷ 0 ∷ 0 ∷ 0 ∷ 0 ∷ 0 ∷ 0
    ∷ 0x64 ∷ 0 ∷ 0 ∷ 0 ∷ 0 ∷ 0 ∷ 0 ∷ 0
    ∷ 0 ∷ 0 ∷ 0 ∷ 0 ∷ 0 ∷ 0 ∷ 0 ∷ 0 ∷ []
unfolding bytes_of_job bytes_of
job_written = refl
