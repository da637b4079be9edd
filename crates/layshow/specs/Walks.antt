-- What is printed for the four files, one line for each record, and what the program's functions promise each other.
use Rattle.std.specs.Prelude.{ℕ, zero, suc, ◌+◌, ◌*◌, ◌/◌, ◌≤◌, Bool, cond, List, [], ◌++◌, take, drop, Result, Ok, Err}
use Rattle.refusals.specs.declared.Refusal.{Refusal}
use Rattle.records.specs.Bytes.{pieces_in}
use Rattle.records.specs.LogRecords.{log_bytes}
use Rattle.records.specs.ChainTables.{chain_bytes, most_chains, factor_bytes, chain_count_of, is_scale}
use Rattle.records.specs.Jobs.{job_bytes}
use Rattle.text.specs.Puts.{Put}
use Rattle.shown.specs.Lines.{job_line, chain_line, scale_line, record_line}
use Rattle.shown.specs.Rooms.{line_room}

-- The lines of the first n pieces of `s`. Each piece has `width` bytes, and the pieces are numbered from `number` on.
unfoldable pub piece_lines : (ℕ → List ℕ → List ℕ) → ℕ → ℕ → ℕ → List ℕ → List ℕ
piece_lines line width zero number s = []
piece_lines line width (suc n) number s = line number (take width s) ++ piece_lines line width n (number + 1) (drop width s)

-- The lines of all pieces.
abbrev pub all_lines : (ℕ → List ℕ → List ℕ) → ℕ → ℕ → List ℕ → List ℕ
all_lines line width number s = piece_lines line width (pieces_in width s) number s

-- The lines of a log: one for each record, without the number of the piece.
abbrev pub record_line_at : ℕ → List ℕ → List ℕ
record_line_at number s = record_line s

abbrev pub record_lines : List ℕ → List ℕ
record_lines log = all_lines record_line_at log_bytes 1 log

-- The lines of a table: one for each chain, with its number and its factor.
abbrev pub chain_lines : List ℕ → List ℕ → List ℕ
chain_lines scale table = all_lines (chain_line scale) chain_bytes 1 table

-- If the side file does not fit, the chains are shown without factors, and then the side file has a line.
unfoldable pub scaled_lines : Bool → List ℕ → List ℕ → List ℕ
scaled_lines fits table scale = cond fits (chain_lines scale table) (chain_lines [] table ++ scale_line scale)

-- A table that is refused has only one line, without a number and a factor.
unfoldable pub table_lines_by : Result ℕ Refusal → List ℕ → List ℕ → List ℕ
table_lines_by (Ok n) table scale = scaled_lines (is_scale n scale) table scale
table_lines_by (Err why) table scale = chain_line [] 0 table

abbrev pub table_lines : List ℕ → List ℕ → List ℕ
table_lines table scale = table_lines_by (chain_count_of table) table scale

-- What is printed for job, table and side file.
abbrev pub file_lines : List ℕ → List ℕ → List ℕ → List ℕ
file_lines job table scale = job_line job ++ table_lines table scale

-- The line of a record of `bytes` bytes was put into a buffer, and took no more than the room for such a line.
pub record PutLine (before : List ℕ) (at : ℕ) (line : List ℕ) (bytes : ℕ) (now : List ℕ) (end : ℕ) : Type 0 where
  pub put : Put before at line now end
  pub short : end ≤ at + line_room bytes

-- The most bytes that are read of a job, of a table and of a side file, the most bytes of an accepted table, and the room for its
-- lines and that of the side file.
abbrev pub longest_job : ℕ
longest_job = job_bytes + 1

abbrev pub whole_table : ℕ
whole_table = most_chains * chain_bytes

abbrev pub longest_table : ℕ
longest_table = whole_table + 1

abbrev pub longest_scale : ℕ
longest_scale = most_chains * factor_bytes + 1

abbrev pub chains_room : ℕ
chains_room = most_chains * line_room chain_bytes

abbrev pub table_room : ℕ
table_room = chains_room + line_room longest_scale

-- How many bytes of a log are read at a time, and the room for the lines of their records.
abbrev pub stretch_bytes : ℕ
stretch_bytes = 65_536

abbrev pub stretch_room : ℕ
stretch_room = stretch_bytes / log_bytes * line_room log_bytes
