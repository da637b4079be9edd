-- What a line stands for: a job, a chain, the draft of a log record, a question for expected readings, readings to ask about
-- (docs/FORMATS.md, Text).
-- A line of another form is refused as such; 02 gives 12 for that.
use Rattle.std.specs.Prelude.{ℕ, ◌+◌, cond, List, Option, Some, None, Result, Ok, Err}
use Rattle.refusals.specs.declared.Refusal.{Refusal}
use Rattle.refusals.specs.declared.Refusal.TheVariants as refusal
use Rattle.chart.specs.declared.Place.{Place}
use Rattle.chart.specs.declared.Chain.{Chain}
use Rattle.chart.specs.Factors.{unit_factor}
use Rattle.search.specs.declared.Window.{Window}
use Rattle.records.specs.declared.Job.{Job}
use Rattle.records.specs.Bytes.{unless}
use Rattle.records.specs.Jobs.{usual_allowance}
use Rattle.writing.specs.declared.Draft.{Draft}
use Rattle.parsing.specs.declared.PlaceAsked.{PlaceAsked}
use Rattle.parsing.specs.declared.ReadingsAsked.{ReadingsAsked}
use Rattle.parsing.specs.declared.Form.TheVariants as form
use Rattle.parsing.specs.Words.{no_word, is_passed}
use Rattle.parsing.specs.Numbers.{value_at, length_at, held, held_reading}
use Rattle.parsing.specs.Forms.{is_form}

-- The place in the words i and i + 1.
abbrev pub place_in : List ℕ → ℕ → Place
place_in s i = record { easting = held 32 (length_at s i); northing = held 32 (length_at s (i + 1)) }

-- The window in the first three words.
abbrev pub window_in : List ℕ → Window
window_in s = record { corner = place_in s 0; k = held 32 (value_at s 2) }

-- The allowance in the fifth word, or the usual one if it is missing.
abbrev pub allowance_in : List ℕ → ℕ
allowance_in s = cond (no_word 4 s) usual_allowance (value_at s 4)

-- A job: E N K T and, if it is not the usual one, ALLOWANCE.
unfoldable pub parsed_job : List ℕ → Result Job Refusal
parsed_job s =
    unless (is_form form.Job s) (Err refusal.Line)
    (Ok
    (record { window = window_in s; tolerance = held 32 (length_at s 3); allowance = held 64 (allowance_in s) }))

-- The factor in the seventh word, or 1,000,000 if that is missing (02, A3).
abbrev pub factor_in : List ℕ → ℕ
factor_in s = cond (no_word 6 s) unit_factor (value_at s 6)

-- A chain: easting and northing of master, A and B, and its factor. A blank line or one that begins with # stands for nothing.
unfoldable pub parsed_chain : List ℕ → Result (Option Chain) Refusal
parsed_chain s =
    cond (is_passed s) (Ok None)
    (unless (is_form form.Chain s) (Err refusal.Line)
    (Ok (Some (record { master = place_in s 0; a = place_in s 2; b = place_in s 4; factor = held 32 (factor_in s) }))))

-- A log record: kind chain line x y. A blank line or one that begins with # stands for nothing.
unfoldable pub parsed_draft : List ℕ → Result (Option Draft) Refusal
parsed_draft s =
    cond (is_passed s) (Ok None)
    (unless (is_form form.Draft s) (Err refusal.Line)
    (Ok
    (Some
    (record {
      kind = held 32 (value_at s 0);
      chain = held 32 (value_at s 1);
      line = held 32 (value_at s 2);
      x = held_reading s 3;
      y = held_reading s 4;
    }))))

-- A question: CHAIN E N.
unfoldable pub parsed_question : List ℕ → Result PlaceAsked Refusal
parsed_question s =
    unless (is_form form.Question s) (Err refusal.Line) (Ok (record { chain = held 32 (value_at s 0); place = place_in s 1 }))

-- Readings to ask about: CHAIN A B.
unfoldable pub parsed_readings : List ℕ → Result ReadingsAsked Refusal
parsed_readings s =
    unless (is_form form.Readings s) (Err refusal.Line)
    (Ok (record { chain = held 32 (value_at s 0); a = held_reading s 1; b = held_reading s 2 }))
