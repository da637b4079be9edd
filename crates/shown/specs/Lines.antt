-- The line of a job, of a chain, of a side file that does not fit and of a log record (docs/FORMATS.md, Text).
use Rattle.std.specs.Prelude.{ℕ, ◌-◌, ◌*◌, ◌/◌, Bool, cond, List, [], ◌∷◌, ◌++◌, length, Result, Ok, Err}
use Rattle.refusals.specs.declared.Refusal.{Refusal}
use Rattle.refusals.specs.declared.Refusal.TheVariants as refusal
use Rattle.refusals.specs.Numbers.{refusal_number, number_told}
use Rattle.fields.specs.Fields.{field_at}
use Rattle.chart.specs.declared.Chain.{Chain}
use Rattle.chart.specs.Factors.{unit_factor}
use Rattle.chart.specs.Chains.{is_sound}
use Rattle.records.specs.declared.Job.{Job}
use Rattle.records.specs.declared.RawRecord.{RawRecord}
use Rattle.records.specs.Bytes.{unless}
use Rattle.records.specs.LogRecords.{raw_record_of, log_entry_of}
use Rattle.records.specs.ChainTables.{factor_bytes, one_to, raw_chain_of}
use Rattle.records.specs.Jobs.{raw_job_of, job_of}
use Rattle.text.specs.Texts.{figures_text, bytes_in}
use Rattle.shown.specs.Fields.{centimetres_text, refused_text}

-- A line: a word, the record's fields, why it is refused, if it is, and the newline.
abbrev pub line_with : List ℕ → List ℕ → ℕ → List ℕ → List ℕ
line_with word fields number s = word ++ (fields ++ (refused_text number s ++ bytes_in "\n"))

-- The job. Here and below, bytes that do not have the record's length have no fields.
abbrev pub job_figures : Job → List ℕ
job_figures j = j.window.corner.easting ∷ j.window.corner.northing ∷ j.window.k ∷ j.tolerance ∷ j.allowance ∷ []

unfoldable pub job_fields : Result Job Refusal → List ℕ
job_fields (Ok j) = figures_text (job_figures j)
job_fields (Err why) = []

abbrev pub job_text : List ℕ → List ℕ
job_text s = job_fields (raw_job_of s)

unfoldable pub job_line : List ℕ → List ℕ
job_line s = line_with (bytes_in "JOB") (job_text s) (number_told (job_of s)) s

-- A chain, with its number in the table and its factor from the side file `scale`. If that has none for it, no factor is shown, and
-- the stations alone are tested (02, A3). Bytes that are not 24 are refused with 1, even if they are a table of several chains.
abbrev pub station_figures : Chain → List ℕ
station_figures c =
    c.master.easting ∷ c.master.northing ∷ c.a.easting ∷ c.a.northing ∷ c.b.easting ∷ c.b.northing ∷ []

-- Whether the side file has a factor for the chain with this number.
abbrev pub has_factor : List ℕ → ℕ → Bool
has_factor scale number = one_to (length scale / factor_bytes) number

-- That factor, or 1,000,000 if there is none: then the chain is tested by its stations.
abbrev pub factor_or : List ℕ → ℕ → ℕ
factor_or scale number = cond (has_factor scale number) (field_at factor_bytes scale (factor_bytes * (number - 1))) unit_factor

-- Its text, or none.
abbrev pub factor_text : List ℕ → ℕ → List ℕ
factor_text scale number = cond (has_factor scale number) (figures_text (factor_or scale number ∷ [])) []

unfoldable pub chain_fields : List ℕ → ℕ → Result Chain Refusal → List ℕ
chain_fields scale number (Ok c) = figures_text (number ∷ station_figures c) ++ factor_text scale number
chain_fields scale number (Err why) = []

abbrev pub chain_text : List ℕ → ℕ → List ℕ → List ℕ
chain_text scale number s = chain_fields scale number (raw_chain_of s (factor_or scale number))

-- A chain, or why it is refused: for its bytes, or with 5 if it is not sound.
unfoldable pub soundness : Result Chain Refusal → Result Chain Refusal
soundness (Ok c) = unless (is_sound c) (Err refusal.Chain) (Ok c)
soundness (Err why) = Err why

-- The chain in some bytes with its factor, and the number with which it is refused, 0 for none.
abbrev pub checked_chain : List ℕ → ℕ → List ℕ → Result Chain Refusal
checked_chain scale number s = soundness (raw_chain_of s (factor_or scale number))

abbrev pub refusal_in : List ℕ → ℕ → List ℕ → ℕ
refusal_in scale number s = number_told (checked_chain scale number s)

unfoldable pub chain_line : List ℕ → ℕ → List ℕ → List ℕ
chain_line scale number s = line_with (bytes_in "CHAIN") (chain_text scale number s) (refusal_in scale number s) s

-- A side file that does not fit its table.
unfoldable pub scale_line : List ℕ → List ℕ
scale_line s = line_with (bytes_in "SCALE") [] (refusal_number refusal.Length) s

-- A log record, its numbers in centimetres.
abbrev pub raw_text : RawRecord → List ℕ
raw_text r = figures_text (r.kind ∷ r.chain ∷ r.line ∷ []) ++ (centimetres_text r.first ++ centimetres_text r.second)

unfoldable pub raw_fields : Result RawRecord Refusal → List ℕ
raw_fields (Ok r) = raw_text r
raw_fields (Err why) = []

abbrev pub record_text : List ℕ → List ℕ
record_text s = raw_fields (raw_record_of s)

unfoldable pub record_line : List ℕ → List ℕ
record_line s = line_with (bytes_in "LOG") (record_text s) (number_told (log_entry_of s)) s
