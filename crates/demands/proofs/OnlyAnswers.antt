-- The contract of every public function allows only one answer: two answers, each the result and the final content of all
-- that is lent, that satisfy it for the same arguments are equal. Exceptions are the functions of `files` whose answers
-- depend on the operating system (docs/CONTRACTS.md). The contracts are those of the source, so a contract that is weakened
-- there fails here.
-- In a proof `same` is a clause that fixes a value and `told` one that says more, in the source's order. From what they show
-- the answer is put together: the result, then the final content of each parameter, with `refl` for those that lend nothing. `one`
-- does so for a result alone, and `two` for a result and a buffer that is the first parameter. Where a refusal is of any type, `Ok` and
-- `Err` are taken apart: what the argument lends depends on which it is.
use mathlib.Core.Path.{refl}
use seplogic.Ra.Ura.{Ura}
use base.Logic.{SProp}
use contract.Monad.{Fun}
use types.Logic.{Logic}
use denote.RattleType.{RattleType}
use mir.Syntax.{Dict}
use prog.Memory.{Memory}
use prog.Routine.{Routine}
use Rattle.std.specs.Prelude.{Ok, Err}
use Rattle.std.specs.declared.env.Env as Env
use Rattle.std.specs.declared.io.Print as Print
use Rattle.std.specs.declared.fs.files.Files as Files
use Rattle.std.specs.declared.fs.files.OpenFile as OpenFile
use Rattle.std.specs.declared.io.traits.Read as Read
use Rattle.std.specs.declared.io.traits.Seek as Seek
use Rattle.std.specs.declared.io.traits.Write as Write
use Rattle.files.specs.declared.EprintBytes as EprintBytes
use Rattle.refusals.specs.declared.Numbered as Numbered
use Rattle.records.specs.declared.JobRefusal as JobRefusal
use Rattle.demands.specs.OneAnswer.{OneAnswer}
use Rattle.demands.proofs.OnlyLaws.{same, told, ◌beside◌, only, ◌&◌, one, two}
use Rattle.squares.specs.contracts.root as root
use Rattle.squares.specs.contracts.root_near as root-near
use Rattle.refusals.specs.contracts.Refusal.number as refusal-number
use Rattle.refusals.specs.contracts.RefusalNumbered.as_number as refusal-as-number
use Rattle.refusals.specs.contracts.U32Numbered.as_number as any-as-number
use Rattle.refusals.specs.contracts.number_told as number-told
use Rattle.fields.specs.contracts.four_at as four-at
use Rattle.fields.specs.contracts.eight_at as eight-at
use Rattle.fields.specs.contracts.lies_inside as lies-inside
use Rattle.fields.specs.contracts.put_four as put_four
use Rattle.fields.specs.contracts.put_eight as put-eight
use Rattle.metres.specs.contracts.centimetres as centimetres
use Rattle.metres.specs.contracts.marked as marked
use Rattle.metres.specs.contracts.is_rounded as is-rounded
use Rattle.metres.specs.contracts.metres as metres
use Rattle.metres.specs.contracts.size as size
use Rattle.metres.specs.contracts.whole_figures as whole-figures
use Rattle.metres.specs.contracts.length_figures as length-figures
use Rattle.metres.specs.contracts.number_of as number_of_lem
use Rattle.metres.specs.contracts.pattern_of as pattern-of
use Rattle.metres.specs.contracts.is_plus_zero as is-plus-zero
use Rattle.metres.specs.contracts.number_at as number_at
use Rattle.metres.specs.contracts.put_number as put-number
use Rattle.chart.specs.contracts.in_range as in-range
use Rattle.chart.specs.contracts.is_factor as is-factor
use Rattle.chart.specs.contracts.sound as sound
use Rattle.chart.specs.contracts.readings as readings
use Rattle.chart.specs.contracts.as_figures as chart-as-figures
use Rattle.chart.specs.contracts.gap as gap
use Rattle.chart.proofs.ReadingLaws.{said_once}
use Rattle.search.specs.contracts.is_window as is-window
use Rattle.search.specs.contracts.search as search
use Rattle.search.specs.contracts.how_many as search-how-many
use Rattle.search.specs.contracts.as_figures as search-as-figures
use Rattle.search.specs.contracts.StoppedFromUnfound.from as search-from
use Rattle.search.specs.contracts.clear_entries as clear-entries
use Rattle.records.specs.contracts.raw_record as raw-record
use Rattle.records.specs.contracts.log_record as log-record
use Rattle.records.specs.contracts.log_entry as log-entry
use Rattle.records.specs.contracts.marked_entry as marked-entry
use Rattle.records.specs.contracts.is_place as is-place
use Rattle.records.specs.contracts.one_to as one-to
use Rattle.records.specs.contracts.chain_count as chain-count
use Rattle.records.specs.contracts.is_scale as is_scale_lem
use Rattle.records.specs.contracts.scaled_count as scaled-count
use Rattle.records.specs.contracts.chain_of as chain-of
use Rattle.records.specs.contracts.raw_chain as raw-chain
use Rattle.records.specs.contracts.raw_job as raw-job
use Rattle.records.specs.contracts.formed_job as formed-job
use Rattle.records.specs.contracts.job_of as Job-of
use Rattle.records.specs.contracts.RefusalJobRefusal.with_visits as refusal-with-visits
use Rattle.records.specs.contracts.RefusalJobRefusal.of_stopped as refusal-of-stopped
use Rattle.records.specs.contracts.U32JobRefusal.with_visits as any-with-visits
use Rattle.records.specs.contracts.U32JobRefusal.of_stopped as any-of-stopped
use Rattle.records.specs.contracts.many_by as many_by
use Rattle.records.specs.contracts.piece_end as piece-end
use Rattle.writing.specs.contracts.write as write
use Rattle.writing.specs.contracts.write_chain as write-chain
use Rattle.writing.specs.contracts.write_factor as write-factor
use Rattle.writing.specs.contracts.write_job as write-job
use Rattle.writing.specs.contracts.clear_buffer as clear-buffer
use Rattle.text.specs.contracts.put as text-put
use Rattle.text.specs.contracts.put_number as text-put-number
use Rattle.text.specs.contracts.put_whole as put_whole
use Rattle.text.specs.contracts.put_flag as put-flag
use Rattle.text.specs.contracts.put_bytes as put-bytes
use Rattle.parsing.specs.contracts.line_end as line-end
use Rattle.parsing.specs.contracts.is_word as is_IsWord
use Rattle.parsing.specs.contracts.job as parsed-job
use Rattle.parsing.specs.contracts.chain as parsed-chain
use Rattle.parsing.specs.contracts.draft as parsed-draft
use Rattle.parsing.specs.contracts.question as parsed-question
use Rattle.parsing.specs.contracts.readings as parsed-readings
use Rattle.parsing.specs.contracts.good_words as good-words
use Rattle.parsing.specs.contracts.wrong_at as wrong-at
use Rattle.parsing.specs.contracts.taken_for as taken-for
use Rattle.parsing.specs.contracts.words_of as words_of
use Rattle.parsing.specs.contracts.word_at as word_at
use Rattle.parsing.specs.contracts.place_fault as place-fault
use Rattle.parsing.specs.contracts.job_fault as job-fault
use Rattle.parsing.specs.contracts.draft_fault as draft-fault
use Rattle.parsing.specs.contracts.chain_fault as chain-fault
use Rattle.shown.specs.contracts.job as shown-job
use Rattle.shown.specs.contracts.chain as shown-chain
use Rattle.shown.specs.contracts.scale as shown-scale
use Rattle.shown.specs.contracts.record as shown-record
use Rattle.shown.specs.contracts.expected as shown-expected
use Rattle.shown.specs.contracts.how_many as shown-how-many
use Rattle.files.specs.contracts.Tool.none_given as none-given
use Rattle.files.specs.contracts.Tool.refused as refused
use Rattle.files.specs.contracts.Tool.missing as files-missing
use Rattle.files.specs.contracts.Tool.written as files-written
use Rattle.files.specs.contracts.Tool.job_written as files-job-written
use Rattle.files.specs.contracts.Tool.chains_unknown as files-chains-unknown
use Rattle.files.specs.contracts.Tool.give_up as files-give-up
use Rattle.files.specs.contracts.Tool.note as files-note
use Rattle.files.specs.contracts.Tool.failed as files-failed
use Rattle.files.specs.contracts.Tool.trouble as files-trouble
use Rattle.files.specs.contracts.Tool.refused_word as files-refused-word
use Rattle.files.specs.contracts.Tool.refused_argument as files-refused-argument
use Rattle.files.specs.contracts.Tool.refused_form as files-refused-form
use Rattle.files.specs.contracts.Tool.lines_refused as files-lines-refused
use Rattle.listing.specs.contracts.list as list
use Rattle.lay.specs.contracts.lay_version as lay-version
use Rattle.lay.specs.contracts.lay_centimetres as lay-centimetres
use Rattle.lay.specs.contracts.lay_metres as lay-metres
use Rattle.lay.specs.contracts.lay_expected as lay-expected
use Rattle.lay.specs.contracts.lay_search as lay-search
use Rattle.lay.specs.contracts.lay_how_many as lay-how-many
use Rattle.lay.specs.contracts.lay_read_record as lay-read-record
use Rattle.lay.specs.contracts.lay_write_record as lay-write-record
use Rattle.lay.specs.contracts.lay_read_job as lay-read-job
use Rattle.lay.specs.contracts.lay_write_job as lay-write-job
use Rattle.lay.specs.contracts.lay_count_chains as lay-count-chains
use Rattle.lay.specs.contracts.lay_chain as lay-chain
use Rattle.lay.specs.contracts.lay_read_chain as lay-read-chain
use Rattle.lay.specs.contracts.lay_write_chain as lay-write-chain
use Rattle.lay.specs.contracts.lay_write_factor as lay-write-factor
use Rattle.lay.specs.contracts.lay_list as lay-list

-- In any logic in which the contracts are stated.
module _ {M : Type 1} {𝓤 : Ura M} (𝓛 : Logic 𝓤) (mem : Memory → SProp 𝓤) (run : Routine → Fun 𝓤) where
  pub root_only : OneAnswer 𝓤 root.ended (root.clauses 𝓛 mem run)
  root_only κs a g x y = one 𝓤 same

  pub root_near_only : OneAnswer 𝓤 root-near.ended (root-near.clauses 𝓛 mem run)
  root_near_only κs a g x y = one 𝓤 same

  pub refusal_number_only : OneAnswer 𝓤 refusal-number.ended (refusal-number.clauses 𝓛 mem run)
  refusal_number_only κs a g x y = one 𝓤 same

  pub refusal_as_number_only : OneAnswer 𝓤 refusal-as-number.ended (refusal-as-number.clauses 𝓛 mem run)
  refusal_as_number_only κs a g x y = one 𝓤 same

  pub any_as_number_only : OneAnswer 𝓤 any-as-number.ended (any-as-number.clauses 𝓛 mem run)
  any_as_number_only κs a g x y = one 𝓤 same

  pub number_told_only : (t : RattleType) → OneAnswer 𝓤 (number-told.ended t) (number-told.clauses t 𝓛 mem run)
  number_told_only t κs a g x y = one 𝓤 same

  pub four_at_only : OneAnswer 𝓤 four-at.ended (four-at.clauses 𝓛 mem run)
  four_at_only κs a g x y = one 𝓤 same

  pub eight_at_only : OneAnswer 𝓤 eight-at.ended (eight-at.clauses 𝓛 mem run)
  eight_at_only κs a g x y = one 𝓤 same

  pub lies_inside_only : OneAnswer 𝓤 lies-inside.ended (lies-inside.clauses 𝓛 mem run)
  lies_inside_only κs a g x y = one 𝓤 same

  pub put_four_only : OneAnswer 𝓤 put_four.ended (put_four.clauses 𝓛 mem run)
  put_four_only κs a g x y = two 𝓤 (same beside same)

  pub put_eight_only : OneAnswer 𝓤 put-eight.ended (put-eight.clauses 𝓛 mem run)
  put_eight_only κs a g x y = two 𝓤 (same beside same)

  pub centimetres_only : OneAnswer 𝓤 centimetres.ended (centimetres.clauses 𝓛 mem run)
  centimetres_only κs a g x y = one 𝓤 same

  pub marked_only : OneAnswer 𝓤 marked.ended (marked.clauses 𝓛 mem run)
  marked_only κs a g x y = one 𝓤 same

  pub is_rounded_only : OneAnswer 𝓤 is-rounded.ended (is-rounded.clauses 𝓛 mem run)
  is_rounded_only κs a g x y = one 𝓤 same

  pub metres_only : OneAnswer 𝓤 metres.ended (metres.clauses 𝓛 mem run)
  metres_only κs a g x y = only 𝓤 (same beside told) (λ (answer, back). answer & refl)

  pub size_only : OneAnswer 𝓤 size.ended (size.clauses 𝓛 mem run)
  size_only κs a g x y = one 𝓤 same

  pub whole_figures_only : OneAnswer 𝓤 whole-figures.ended (whole-figures.clauses 𝓛 mem run)
  whole_figures_only κs a g x y = one 𝓤 same

  pub length_figures_only : OneAnswer 𝓤 length-figures.ended (length-figures.clauses 𝓛 mem run)
  length_figures_only κs a g x y = one 𝓤 same

  pub number_of_only : OneAnswer 𝓤 number_of_lem.ended (number_of_lem.clauses 𝓛 mem run)
  number_of_only κs a g x y = one 𝓤 same

  pub pattern_of_only : OneAnswer 𝓤 pattern-of.ended (pattern-of.clauses 𝓛 mem run)
  pattern_of_only κs a g x y = one 𝓤 same

  pub is_plus_zero_only : OneAnswer 𝓤 is-plus-zero.ended (is-plus-zero.clauses 𝓛 mem run)
  is_plus_zero_only κs a g x y = one 𝓤 same

  pub number_at_only : OneAnswer 𝓤 number_at.ended (number_at.clauses 𝓛 mem run)
  number_at_only κs a g x y = one 𝓤 same

  pub put_number_only : OneAnswer 𝓤 put-number.ended (put-number.clauses 𝓛 mem run)
  put_number_only κs a g x y = only 𝓤 (same beside same beside told) (λ (answer, (buffer, back)). answer & buffer & refl)

  pub in_range_only : OneAnswer 𝓤 in-range.ended (in-range.clauses 𝓛 mem run)
  in_range_only κs a g x y = one 𝓤 same

  pub is_factor_only : OneAnswer 𝓤 is-factor.ended (is-factor.clauses 𝓛 mem run)
  is_factor_only κs a g x y = one 𝓤 same

  pub sound_only : OneAnswer 𝓤 sound.ended (sound.clauses 𝓛 mem run)
  sound_only κs a g x y = one 𝓤 same

  pub readings_only : OneAnswer 𝓤 readings.ended (readings.clauses 𝓛 mem run)
  readings_only κs a g x y = only 𝓤 same (λ says. said_once x.0 y.0 says & refl)

  pub chart_as_figures_only : (t : RattleType) (numbered : Numbered.Ghosts t.Denot) (numbered-dict : Dict) → OneAnswer 𝓤 (chart-as-figures.ended t numbered numbered-dict) (chart-as-figures.clauses t numbered numbered-dict 𝓛 mem run)
  chart_as_figures_only t numbered numbered-dict κs (Ok readings, rest) g x y = one 𝓤 same
  chart_as_figures_only t numbered numbered-dict κs (Err why, rest) g x y = one 𝓤 same

  pub gap_only : OneAnswer 𝓤 gap.ended (gap.clauses 𝓛 mem run)
  gap_only κs a g x y = one 𝓤 same

  pub is_window_only : OneAnswer 𝓤 is-window.ended (is-window.clauses 𝓛 mem run)
  is_window_only κs a g x y = one 𝓤 same

  pub search_only : OneAnswer 𝓤 search.ended (search.clauses 𝓛 mem run)
  search_only κs a g x y = only 𝓤 (same beside same) (λ (answer, list). answer & list & refl)

  pub search_how_many_only : OneAnswer 𝓤 search-how-many.ended (search-how-many.clauses 𝓛 mem run)
  search_how_many_only κs a g x y = one 𝓤 same

  pub search_as_figures_only : OneAnswer 𝓤 search-as-figures.ended (search-as-figures.clauses 𝓛 mem run)
  search_as_figures_only κs a g x y = one 𝓤 same

  pub search_from_only : OneAnswer 𝓤 search-from.ended (search-from.clauses 𝓛 mem run)
  search_from_only κs a g x y = one 𝓤 same

  pub clear_entries_only : OneAnswer 𝓤 clear-entries.ended (clear-entries.clauses 𝓛 mem run)
  clear_entries_only κs a g x y = only 𝓤 same (λ list. refl & list & refl)

  pub raw_record_only : OneAnswer 𝓤 raw-record.ended (raw-record.clauses 𝓛 mem run)
  raw_record_only κs a g x y = one 𝓤 same

  pub log_record_only : OneAnswer 𝓤 log-record.ended (log-record.clauses 𝓛 mem run)
  log_record_only κs a g x y = one 𝓤 same

  pub log_entry_only : OneAnswer 𝓤 log-entry.ended (log-entry.clauses 𝓛 mem run)
  log_entry_only κs a g x y = one 𝓤 same

  pub marked_entry_only : OneAnswer 𝓤 marked-entry.ended (marked-entry.clauses 𝓛 mem run)
  marked_entry_only κs a g x y = one 𝓤 same

  pub is_place_only : OneAnswer 𝓤 is-place.ended (is-place.clauses 𝓛 mem run)
  is_place_only κs a g x y = one 𝓤 same

  pub one_to_only : OneAnswer 𝓤 one-to.ended (one-to.clauses 𝓛 mem run)
  one_to_only κs a g x y = one 𝓤 same

  pub chain_count_only : OneAnswer 𝓤 chain-count.ended (chain-count.clauses 𝓛 mem run)
  chain_count_only κs a g x y = one 𝓤 same

  pub is_scale_only : OneAnswer 𝓤 is_scale_lem.ended (is_scale_lem.clauses 𝓛 mem run)
  is_scale_only κs a g x y = one 𝓤 same

  pub scaled_count_only : OneAnswer 𝓤 scaled-count.ended (scaled-count.clauses 𝓛 mem run)
  scaled_count_only κs a g x y = one 𝓤 same

  pub chain_of_only : OneAnswer 𝓤 chain-of.ended (chain-of.clauses 𝓛 mem run)
  chain_of_only κs a g x y = one 𝓤 same

  pub raw_chain_only : OneAnswer 𝓤 raw-chain.ended (raw-chain.clauses 𝓛 mem run)
  raw_chain_only κs a g x y = one 𝓤 same

  pub raw_job_only : OneAnswer 𝓤 raw-job.ended (raw-job.clauses 𝓛 mem run)
  raw_job_only κs a g x y = one 𝓤 same

  pub formed_job_only : OneAnswer 𝓤 formed-job.ended (formed-job.clauses 𝓛 mem run)
  formed_job_only κs a g x y = one 𝓤 same

  pub job_of_only : OneAnswer 𝓤 Job-of.ended (Job-of.clauses 𝓛 mem run)
  job_of_only κs a g x y = one 𝓤 same

  pub refusal_with_visits_only : OneAnswer 𝓤 refusal-with-visits.ended (refusal-with-visits.clauses 𝓛 mem run)
  refusal_with_visits_only κs a g x y = one 𝓤 same

  pub refusal_of_stopped_only : OneAnswer 𝓤 refusal-of-stopped.ended (refusal-of-stopped.clauses 𝓛 mem run)
  refusal_of_stopped_only κs a g x y = one 𝓤 same

  pub any_with_visits_only : OneAnswer 𝓤 any-with-visits.ended (any-with-visits.clauses 𝓛 mem run)
  any_with_visits_only κs a g x y = one 𝓤 same

  pub any_of_stopped_only : OneAnswer 𝓤 any-of-stopped.ended (any-of-stopped.clauses 𝓛 mem run)
  any_of_stopped_only κs a g x y = one 𝓤 same

  pub many_by_only : (t answer : RattleType) (refusal : JobRefusal.Ghosts t.Denot answer.Denot) (refusal-dict : Dict) → OneAnswer 𝓤 (many_by.ended t answer refusal refusal-dict) (many_by.clauses t answer refusal refusal-dict 𝓛 mem run)
  many_by_only t answer refusal refusal-dict κs (Ok job, rest) g x y = one 𝓤 same
  many_by_only t answer refusal refusal-dict κs (Err why, rest) g x y = one 𝓤 same

  pub piece_end_only : OneAnswer 𝓤 piece-end.ended (piece-end.clauses 𝓛 mem run)
  piece_end_only κs a g x y = one 𝓤 same

  pub write_only : OneAnswer 𝓤 write.ended (write.clauses 𝓛 mem run)
  write_only κs a g x y = two 𝓤 (same beside same)

  pub write_chain_only : OneAnswer 𝓤 write-chain.ended (write-chain.clauses 𝓛 mem run)
  write_chain_only κs a g x y = two 𝓤 (same beside same)

  pub write_factor_only : OneAnswer 𝓤 write-factor.ended (write-factor.clauses 𝓛 mem run)
  write_factor_only κs a g x y = two 𝓤 (same beside same)

  pub write_job_only : OneAnswer 𝓤 write-job.ended (write-job.clauses 𝓛 mem run)
  write_job_only κs a g x y = two 𝓤 (same beside same)

  pub clear_buffer_only : OneAnswer 𝓤 clear-buffer.ended (clear-buffer.clauses 𝓛 mem run)
  clear_buffer_only κs a g x y = only 𝓤 same (λ buffer. refl & buffer & refl)

  pub text_put_only : OneAnswer 𝓤 text-put.ended (text-put.clauses 𝓛 mem run)
  text_put_only κs a g x y = two 𝓤 (same beside same)

  pub text_put_number_only : OneAnswer 𝓤 text-put-number.ended (text-put-number.clauses 𝓛 mem run)
  text_put_number_only κs a g x y = two 𝓤 (same beside same)

  pub put_whole_only : OneAnswer 𝓤 put_whole.ended (put_whole.clauses 𝓛 mem run)
  put_whole_only κs a g x y = two 𝓤 (same beside same)

  pub put_flag_only : OneAnswer 𝓤 put-flag.ended (put-flag.clauses 𝓛 mem run)
  put_flag_only κs a g x y = two 𝓤 (same beside same)

  pub put_bytes_only : OneAnswer 𝓤 put-bytes.ended (put-bytes.clauses 𝓛 mem run)
  put_bytes_only κs a g x y = two 𝓤 (same beside same)

  pub line_end_only : OneAnswer 𝓤 line-end.ended (line-end.clauses 𝓛 mem run)
  line_end_only κs a g x y = one 𝓤 same

  pub is_word_only : OneAnswer 𝓤 is_IsWord.ended (is_IsWord.clauses 𝓛 mem run)
  is_word_only κs a g x y = one 𝓤 same

  pub parsed_job_only : OneAnswer 𝓤 parsed-job.ended (parsed-job.clauses 𝓛 mem run)
  parsed_job_only κs a g x y = one 𝓤 same

  pub parsed_chain_only : OneAnswer 𝓤 parsed-chain.ended (parsed-chain.clauses 𝓛 mem run)
  parsed_chain_only κs a g x y = one 𝓤 same

  pub parsed_draft_only : OneAnswer 𝓤 parsed-draft.ended (parsed-draft.clauses 𝓛 mem run)
  parsed_draft_only κs a g x y = one 𝓤 same

  pub parsed_question_only : OneAnswer 𝓤 parsed-question.ended (parsed-question.clauses 𝓛 mem run)
  parsed_question_only κs a g x y = one 𝓤 same

  pub parsed_readings_only : OneAnswer 𝓤 parsed-readings.ended (parsed-readings.clauses 𝓛 mem run)
  parsed_readings_only κs a g x y = one 𝓤 same

  pub good_words_only : OneAnswer 𝓤 good-words.ended (good-words.clauses 𝓛 mem run)
  good_words_only κs a g x y = one 𝓤 same

  pub wrong_at_only : OneAnswer 𝓤 wrong-at.ended (wrong-at.clauses 𝓛 mem run)
  wrong_at_only κs a g x y = one 𝓤 same

  pub taken_for_only : OneAnswer 𝓤 taken-for.ended (taken-for.clauses 𝓛 mem run)
  taken_for_only κs a g x y = one 𝓤 same

  pub words_of_only : OneAnswer 𝓤 words_of.ended (words_of.clauses 𝓛 mem run)
  words_of_only κs a g x y = one 𝓤 same

  pub word_at_only : OneAnswer 𝓤 word_at.ended (word_at.clauses 𝓛 mem run)
  word_at_only κs a g x y = only 𝓤 (same beside told) (λ (answer, word). answer & refl)

  pub place_fault_only : OneAnswer 𝓤 place-fault.ended (place-fault.clauses 𝓛 mem run)
  place_fault_only κs a g x y = one 𝓤 same

  pub job_fault_only : OneAnswer 𝓤 job-fault.ended (job-fault.clauses 𝓛 mem run)
  job_fault_only κs a g x y = one 𝓤 same

  pub draft_fault_only : OneAnswer 𝓤 draft-fault.ended (draft-fault.clauses 𝓛 mem run)
  draft_fault_only κs a g x y = one 𝓤 same

  pub chain_fault_only : OneAnswer 𝓤 chain-fault.ended (chain-fault.clauses 𝓛 mem run)
  chain_fault_only κs a g x y = one 𝓤 same

  pub shown_job_only : OneAnswer 𝓤 shown-job.ended (shown-job.clauses 𝓛 mem run)
  shown_job_only κs a g x y = two 𝓤 (same beside same)

  pub shown_chain_only : OneAnswer 𝓤 shown-chain.ended (shown-chain.clauses 𝓛 mem run)
  shown_chain_only κs a g x y = two 𝓤 (same beside same)

  pub shown_scale_only : OneAnswer 𝓤 shown-scale.ended (shown-scale.clauses 𝓛 mem run)
  shown_scale_only κs a g x y = two 𝓤 (same beside same)

  pub shown_record_only : OneAnswer 𝓤 shown-record.ended (shown-record.clauses 𝓛 mem run)
  shown_record_only κs a g x y = two 𝓤 (same beside same)

  pub shown_expected_only : OneAnswer 𝓤 shown-expected.ended (shown-expected.clauses 𝓛 mem run)
  shown_expected_only κs a g x y = two 𝓤 (same beside same)

  pub shown_how_many_only : OneAnswer 𝓤 shown-how-many.ended (shown-how-many.clauses 𝓛 mem run)
  shown_how_many_only κs a g x y = two 𝓤 (same beside same)

  pub none_given_only : (t : RattleType) (env : Env.Ghosts t.Denot) (env-dict : Dict) (eprint : EprintBytes.Ghosts t.Denot) (eprint-dict : Dict) → OneAnswer 𝓤 (none-given.ended t env env-dict eprint eprint-dict) (none-given.clauses t env env-dict eprint eprint-dict 𝓛 mem run)
  none_given_only t env env-dict eprint eprint-dict κs a g x y = one 𝓤 same

  pub refused_only : (t : RattleType) (eprint : EprintBytes.Ghosts t.Denot) (eprint-dict : Dict) → OneAnswer 𝓤 (refused.ended t eprint eprint-dict) (refused.clauses t eprint eprint-dict 𝓛 mem run)
  refused_only t eprint eprint-dict κs a g x y = one 𝓤 same

  pub files_missing_only : (t : RattleType) (eprint : EprintBytes.Ghosts t.Denot) (eprint-dict : Dict) → OneAnswer 𝓤 (files-missing.ended t eprint eprint-dict) (files-missing.clauses t eprint eprint-dict 𝓛 mem run)
  files_missing_only t eprint eprint-dict κs a g x y = one 𝓤 same

  pub files_written_only : (t : RattleType) (print : Print.Ghosts t.Denot) (print-dict : Dict) (eprint : EprintBytes.Ghosts t.Denot) (eprint-dict : Dict) → OneAnswer 𝓤 (files-written.ended t print print-dict eprint eprint-dict) (files-written.clauses t print print-dict eprint eprint-dict 𝓛 mem run)
  files_written_only t print print-dict eprint eprint-dict κs a g x y = one 𝓤 same

  pub files_job_written_only : (t : RattleType) (print : Print.Ghosts t.Denot) (print-dict : Dict) (eprint : EprintBytes.Ghosts t.Denot) (eprint-dict : Dict) → OneAnswer 𝓤 (files-job-written.ended t print print-dict eprint eprint-dict) (files-job-written.clauses t print print-dict eprint eprint-dict 𝓛 mem run)
  files_job_written_only t print print-dict eprint eprint-dict κs a g x y = one 𝓤 same

  pub files_chains_unknown_only : (t : RattleType) (eprint : EprintBytes.Ghosts t.Denot) (eprint-dict : Dict) → OneAnswer 𝓤 (files-chains-unknown.ended t eprint eprint-dict) (files-chains-unknown.clauses t eprint eprint-dict 𝓛 mem run)
  files_chains_unknown_only t eprint eprint-dict κs a g x y = one 𝓤 same

  pub files_give_up_only :
      (t file dir : RattleType) (files : Files.Ghosts t.Denot file.Denot dir.Denot) (files-dict : Dict)
      (read : Read.Ghosts file.Denot) (read-dict : Dict) (write : Write.Ghosts file.Denot) (write-dict : Dict)
      (seek : Seek.Ghosts file.Denot) (seek-dict : Dict) (opening : OpenFile.Ghosts file.Denot) (opening-dict : Dict)
      (listed : Read.Ghosts dir.Denot) (listed-dict file-destruct dir-destruct : Dict) →
      OneAnswer 𝓤 (files-give-up.ended t file dir files files-dict read read-dict write write-dict seek seek-dict opening opening-dict listed listed-dict file-destruct dir-destruct) (files-give-up.clauses t file dir files files-dict read read-dict write write-dict seek seek-dict opening opening-dict listed listed-dict file-destruct dir-destruct 𝓛 mem run)
  files_give_up_only t file dir files files-dict read read-dict write write-dict seek seek-dict opening opening-dict listed listed-dict file-destruct dir-destruct κs a g x y = one 𝓤 same

  pub files_note_only : (t : RattleType) (eprint : EprintBytes.Ghosts t.Denot) (eprint-dict : Dict) → OneAnswer 𝓤 (files-note.ended t eprint eprint-dict) (files-note.clauses t eprint eprint-dict 𝓛 mem run)
  files_note_only t eprint eprint-dict κs a g x y = one 𝓤 same

  pub files_failed_only : (t : RattleType) (eprint : EprintBytes.Ghosts t.Denot) (eprint-dict : Dict) → OneAnswer 𝓤 (files-failed.ended t eprint eprint-dict) (files-failed.clauses t eprint eprint-dict 𝓛 mem run)
  files_failed_only t eprint eprint-dict κs a g x y = one 𝓤 same

  pub files_trouble_only : (t : RattleType) (eprint : EprintBytes.Ghosts t.Denot) (eprint-dict : Dict) → OneAnswer 𝓤 (files-trouble.ended t eprint eprint-dict) (files-trouble.clauses t eprint eprint-dict 𝓛 mem run)
  files_trouble_only t eprint eprint-dict κs a g x y = one 𝓤 same

  pub files_refused_word_only : (t : RattleType) (eprint : EprintBytes.Ghosts t.Denot) (eprint-dict : Dict) → OneAnswer 𝓤 (files-refused-word.ended t eprint eprint-dict) (files-refused-word.clauses t eprint eprint-dict 𝓛 mem run)
  files_refused_word_only t eprint eprint-dict κs a g x y = one 𝓤 same

  pub files_refused_argument_only : (t : RattleType) (env : Env.Ghosts t.Denot) (env-dict : Dict) (eprint : EprintBytes.Ghosts t.Denot) (eprint-dict : Dict) → OneAnswer 𝓤 (files-refused-argument.ended t env env-dict eprint eprint-dict) (files-refused-argument.clauses t env env-dict eprint eprint-dict 𝓛 mem run)
  files_refused_argument_only t env env-dict eprint eprint-dict κs a g x y = one 𝓤 same

  pub files_refused_form_only : (t : RattleType) (eprint : EprintBytes.Ghosts t.Denot) (eprint-dict : Dict) → OneAnswer 𝓤 (files-refused-form.ended t eprint eprint-dict) (files-refused-form.clauses t eprint eprint-dict 𝓛 mem run)
  files_refused_form_only t eprint eprint-dict κs a g x y = one 𝓤 same

  pub files_lines_refused_only : (t : RattleType) (eprint : EprintBytes.Ghosts t.Denot) (eprint-dict : Dict) → OneAnswer 𝓤 (files-lines-refused.ended t eprint eprint-dict) (files-lines-refused.clauses t eprint eprint-dict 𝓛 mem run)
  files_lines_refused_only t eprint eprint-dict κs a g x y = one 𝓤 same

  pub list_only : OneAnswer 𝓤 list.ended (list.clauses 𝓛 mem run)
  list_only κs a g x y = two 𝓤 (same beside same)

  pub lay_version_only : OneAnswer 𝓤 lay-version.ended (lay-version.clauses 𝓛 mem run)
  lay_version_only κs a g x y = one 𝓤 same

  pub lay_centimetres_only : OneAnswer 𝓤 lay-centimetres.ended (lay-centimetres.clauses 𝓛 mem run)
  lay_centimetres_only κs a g x y = only 𝓤 (same beside same beside same) (λ (answer, (centimetres, mark)). answer & refl & centimetres & mark & refl)

  pub lay_metres_only : OneAnswer 𝓤 lay-metres.ended (lay-metres.clauses 𝓛 mem run)
  lay_metres_only κs a g x y = only 𝓤 (same beside same) (λ (answer, metres). answer & refl & metres & refl)

  pub lay_expected_only : OneAnswer 𝓤 lay-expected.ended (lay-expected.clauses 𝓛 mem run)
  lay_expected_only κs a g x y = only 𝓤 (same beside same) (λ (answer, readings). answer & readings & refl & refl & refl & refl)

  pub lay_search_only : OneAnswer 𝓤 lay-search.ended (lay-search.clauses 𝓛 mem run)
  lay_search_only κs a g x y = only 𝓤 (same beside same beside same) (λ (answer, (list, found)). answer & list & refl & refl & refl & refl & found & refl)

  pub lay_how_many_only : OneAnswer 𝓤 lay-how-many.ended (lay-how-many.clauses 𝓛 mem run)
  lay_how_many_only κs a g x y = only 𝓤 (same beside same beside same beside same) (λ (refusal, (answer, (place, visits))). refusal & refl & refl & refl & refl & answer & place & visits & refl)

  pub lay_read_record_only : OneAnswer 𝓤 lay-read-record.ended (lay-read-record.clauses 𝓛 mem run)
  lay_read_record_only κs a g x y = only 𝓤 (same beside same beside same beside same beside same beside same beside same beside same) (λ (answer, (kind, (chain, (line, (first, (second, (first-mark, second-mark))))))). answer & refl & kind & chain & line & first & second & first-mark & second-mark & refl)

  pub lay_write_record_only : OneAnswer 𝓤 lay-write-record.ended (lay-write-record.clauses 𝓛 mem run)
  lay_write_record_only κs a g x y = two 𝓤 (same beside same)

  pub lay_read_job_only : OneAnswer 𝓤 lay-read-job.ended (lay-read-job.clauses 𝓛 mem run)
  lay_read_job_only κs a g x y = only 𝓤 (same beside same beside same beside same beside same beside same) (λ (answer, (easting, (northing, (k, (tolerance, allowance))))). answer & refl & easting & northing & k & tolerance & allowance & refl)

  pub lay_write_job_only : OneAnswer 𝓤 lay-write-job.ended (lay-write-job.clauses 𝓛 mem run)
  lay_write_job_only κs a g x y = two 𝓤 (same beside same)

  pub lay_count_chains_only : OneAnswer 𝓤 lay-count-chains.ended (lay-count-chains.clauses 𝓛 mem run)
  lay_count_chains_only κs a g x y = only 𝓤 (same beside same) (λ (answer, count). answer & refl & count & refl)

  pub lay_chain_only : OneAnswer 𝓤 lay-chain.ended (lay-chain.clauses 𝓛 mem run)
  lay_chain_only κs a g x y = only 𝓤 (same beside same beside same) (λ (answer, (buffer, factor)). answer & buffer & refl & refl & refl & factor & refl)

  pub lay_read_chain_only : OneAnswer 𝓤 lay-read-chain.ended (lay-read-chain.clauses 𝓛 mem run)
  lay_read_chain_only κs a g x y = only 𝓤 (same beside same) (λ (answer, stations). answer & refl & refl & stations & refl)

  pub lay_write_chain_only : OneAnswer 𝓤 lay-write-chain.ended (lay-write-chain.clauses 𝓛 mem run)
  lay_write_chain_only κs a g x y = only 𝓤 (same beside same) (λ (answer, buffer). answer & buffer & refl & refl)

  pub lay_write_factor_only : OneAnswer 𝓤 lay-write-factor.ended (lay-write-factor.clauses 𝓛 mem run)
  lay_write_factor_only κs a g x y = two 𝓤 (same beside same)

  pub lay_list_only : OneAnswer 𝓤 lay-list.ended (lay-list.clauses 𝓛 mem run)
  lay_list_only κs a g x y = only 𝓤 (same beside same beside same) (λ (answer, (text, part)). answer & text & refl & refl & refl & refl & part & refl)
