-- Whether readings allow no place, one or several, as text (docs/FORMATS.md, Text; 02, A2).
use Rattle.std.specs.Prelude.{ℕ, List, [], ◌∷◌, ◌++◌, ℤ, Result, Ok, Err}
use Rattle.refusals.specs.declared.Refusal.{Refusal}
use Rattle.chart.specs.declared.Chain.{Chain}
use Rattle.chart.specs.Places.{place_of}
use Rattle.chart.specs.Factors.{unit_factor}
use Rattle.search.specs.declared.HowMany.{HowMany}
use Rattle.search.specs.declared.HowMany.TheVariants as many
use Rattle.search.specs.declared.Stopped.{Stopped}
use Rattle.records.specs.declared.Job.{Job}
use Rattle.records.specs.ChainTables.{scaled_count_of, chain_of}
use Rattle.records.specs.Jobs.{formed_job_of, many_by}
use Rattle.text.specs.Texts.{figures_text, bytes_in}

-- The chain that was named. If there is none, three stations on one spot stand for it, which the search refuses with 5 in its own
-- order: after 3, and before 6 and 7.
unfoldable pub chain_or_none : Result Chain Refusal → Chain
chain_or_none (Ok c) = c
chain_or_none (Err why) = record { master = place_of 0 0; a = place_of 0 0; b = place_of 0 0; factor = unit_factor }

-- The refusal of the table and its side file, without a visit; then the question by the job.
unfoldable pub many_in : Result ℕ Refusal → Result Job Refusal → Result Chain Refusal → List ℤ → Result HowMany Stopped
many_in (Ok n) j c readings = many_by j (chain_or_none c) readings
many_in (Err why) j c readings = Err (record { refusal = why; visits = 0 })

-- From the bytes of a table, its side file and a job and the number of a chain: 1 for the table and the side file, 1 and 2 for the job,
-- then 3, 5, 6, 7 and 10 as the question has them.
abbrev pub counted_in : List ℕ → List ℕ → List ℕ → ℕ → List ℤ → Result HowMany Stopped
counted_in table scale job chain readings =
    many_in (scaled_count_of table scale) (formed_job_of job) (chain_of table scale chain) readings

-- The line: a word, the visits and, if there is one place, its easting and northing.
abbrev pub many_line : List ℕ → List ℕ → List ℕ
many_line word figures = word ++ (figures_text figures ++ bytes_in "\n")

-- The line of each answer, or why there is none.
unfoldable pub many_reply : Result HowMany Stopped → Result (List ℕ) Refusal
many_reply (Ok (many.None visits)) = Ok (many_line (bytes_in "NONE") (visits ∷ []))
many_reply (Ok (many.One p visits)) = Ok (many_line (bytes_in "ONE") (visits ∷ p.easting ∷ p.northing ∷ []))
many_reply (Ok (many.Several visits)) = Ok (many_line (bytes_in "SEVERAL") (visits ∷ []))
many_reply (Err stopped) = Err stopped.refusal
