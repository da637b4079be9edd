-- The bytes of records that wait in a buffer to be written out, according to the lines that were read.
use Rattle.std.specs.Prelude.{◌≡◌, ℕ, ◌+◌, ◌≤◌, Bool, true, false, cond, ◌&&◌, List, [], ◌∷◌, ◌++◌, length, take, ◌==◌, nat_le, Option, Some, None, Result, Ok, Err}
use Rattle.refusals.specs.declared.Refusal.{Refusal}
use Rattle.refusals.specs.declared.Refusal.TheVariants as refusal
use Rattle.records.specs.LogRecords.{log_bytes}
use Rattle.writing.specs.declared.Draft.{Draft}
use Rattle.writing.specs.Writing.{refusal_of, buffer_of}
use Rattle.files.specs.declared.Input.{Input}
use Rattle.files.specs.declared.Input.TheVariants as input
use Rattle.laywrite.specs.declared.Judged.{Judged}
use Rattle.laywrite.specs.declared.Judged.TheVariants as judged
use Rattle.laywrite.specs.declared.Read.{Read}

-- How many bytes wait: none if all records are dropped.
abbrev pub waiting_of : Option ℕ → ℕ
waiting_of (Some n) = n
waiting_of None = 0

-- All records are dropped, and later ones will be too.
abbrev pub all_dropped : Option ℕ
all_dropped = None

-- `bytes` wait at the start of the buffer `out`.
abbrev pub Wait : List ℕ → List ℕ → Option ℕ → Type 0
Wait bytes out (Some n) = (n ≤ length out) × (take n out ≡ bytes)
Wait bytes out None = ⊥

-- The same, unless all were dropped.
abbrev pub MayWait : List ℕ → List ℕ → Option ℕ → Type 0
MayWait bytes out (Some n) = Wait bytes out (Some n)
MayWait bytes out None = Unit {0}

-- If there is room for both, a record's bytes wait after those that wait already. Else those were written out first, and the
-- record's bytes wait alone; if that failed, which depends on the operating system, nothing is kept.
abbrev pub KeptBy : Bool → List ℕ → List ℕ → List ℕ → Option ℕ → Type 0
KeptBy true waiting bytes out r = Wait (waiting ++ bytes) out r
KeptBy false waiting bytes out r = MayWait bytes out r

abbrev pub IsKept : List ℕ → List ℕ → List ℕ → Option ℕ → Type 0
IsKept waiting bytes out r = KeptBy (nat_le (length waiting + length bytes) (length out)) waiting bytes out r

-- The record of a draft is kept if nothing was dropped before.
abbrev pub KeptAfter : Option ℕ → List ℕ → List ℕ → List ℕ → Option ℕ → Type 0
KeptAfter (Some n) before bytes out r = IsKept (take n before) bytes out r
KeptAfter None before bytes out r = r ≡ None

-- The chain that a record names: only one with readings does.
unfoldable pub chain_named : Draft → Option ℕ
chain_named d = cond (d.kind == 1) (Some d.chain) None

-- What a draft is, by whether it is written or refused.
unfoldable pub judged_of : Result (Unit {0}) Refusal → Option ℕ → Judged
judged_of (Ok written) chain = judged.Record chain
judged_of (Err why) chain = judged.Refused why

-- A draft: its bytes are those that the writer makes, and it is refused if the writer refuses it. A hold is refused with 11 (Hold) if the
-- line before it was refused, since it has the place of the record before it.
abbrev pub JudgedBy : Bool → Draft → List ℕ → Judged → Type 0
JudgedBy true d bytes r = r ≡ judged.Refused refusal.Hold
JudgedBy false d bytes r = (bytes ≡ buffer_of log_bytes d) × (r ≡ judged_of (refusal_of log_bytes d) (chain_named d))

-- What a line is, according to what it says. `gap`: the line before it was refused.
abbrev pub IsJudged : Bool → Result (Option Draft) Refusal → List ℕ → Judged → Type 0
IsJudged gap (Ok (Some d)) bytes r = JudgedBy (gap && d.kind == 3) d bytes r
IsJudged gap (Ok None) bytes r = r ≡ judged.Passed
IsJudged gap (Err why) bytes r = r ≡ judged.Refused why

-- What waits after a line: the record is kept if nothing was dropped before; a refused line drops all, except at a keyboard.
abbrev pub IsTaken : Option ℕ → List ℕ → Judged → List ℕ → Bool → List ℕ → Option ℕ → Type 0
IsTaken waiting before (judged.Record chain) bytes keyboard out r = KeptAfter waiting before bytes out r
IsTaken waiting before judged.Passed bytes keyboard out r = (out ≡ before) × (r ≡ waiting)
IsTaken waiting before (judged.Refused why) bytes keyboard out r = (out ≡ before) × (r ≡ cond keyboard waiting None)

-- What is kept when no line comes next: at the end of the input all that waits; after text that was cut off as after a refused
-- line; and nothing if reading failed.
unfoldable pub ended_by : Input → Option ℕ → Bool → Option ℕ
ended_by (input.Line start end stop) waiting keyboard = None
ended_by input.Cut waiting keyboard = cond keyboard waiting None
ended_by input.End waiting keyboard = waiting
ended_by input.Failed waiting keyboard = None

-- What is kept of what was read.
abbrev pub kept_of : Read → Option ℕ
kept_of r = r.waiting

-- The bytes of the records of drafts, one after the other; and that each of the drafts is accepted.
unfoldable pub records_of : List Draft → List ℕ
records_of [] = []
records_of (d ∷ ds) = buffer_of log_bytes d ++ records_of ds

unfoldable pub AllAccepted : List Draft → Type 0
AllAccepted [] = Unit {0}
AllAccepted (d ∷ ds) = (refusal_of log_bytes d ≡ Ok tt) × AllAccepted ds

-- Unless all were dropped, what waits are the records of some drafts, in their order, each of them accepted. Which lines were read
-- depends on the operating system.
abbrev pub HoldRecords : List ℕ → Option ℕ → Type 0
HoldRecords out (Some n) = (n ≤ length out) × ((drafts : List Draft) × (AllAccepted drafts × (take n out ≡ records_of drafts)))
HoldRecords out None = Unit {0}
