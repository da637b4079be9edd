-- If what waits before a line are records of accepted drafts, so is what waits after it.
use Rattle.std.proofs.Common.{◌≡◌, ℕ, ◌+◌, ◌≤◌, Bool, true, false, cond, ◌&&◌, eqb, leb, List, [], ◌∷◌, ◌++◌, length, take, Option, Some, None, Result, Ok, Err, sym, refl, ap, ◌∙◌, subst, append_assoc, append-nil, arith}
use mathlib.Core.Path.{subst⁻¹}
use Rattle.refusals.specs.declared.Refusal.{Refusal}
use Rattle.records.specs.LogRecords.{log_bytes}
use Rattle.writing.specs.declared.Draft.{Draft}
use Rattle.writing.specs.Writing.{refusal_of, buffer_of}
use Rattle.files.specs.declared.Input.{Input}
use Rattle.files.specs.declared.Input.TheVariants as input
use Rattle.laywrite.specs.Waiting.{waiting_of, Wait, MayWait, KeptBy, KeptAfter, chain_named, judged_of, JudgedBy, IsJudged, IsTaken, ended_by, records_of, AllAccepted, HoldRecords}
use Rattle.laywrite.specs.declared.Judged.{Judged}
use Rattle.laywrite.specs.declared.Judged.TheVariants as judged

may_wait : (bytes out : List ℕ) (r : Option ℕ) → Wait bytes out r → MayWait bytes out r
may_wait bytes out (Some n) w = w
may_wait bytes out None w = tt

-- A line that is a record: its bytes are those of a draft that is accepted.
by_refusal : (written : Result (Unit {0}) Refusal) (named chain : Option ℕ) → judged.Record chain ≡ judged_of written named → written ≡ Ok tt
unfolding judged_of
by_refusal (Ok tt) named chain e = refl
by_refusal (Err why) named chain e = let z : ◌≡◌ {A = ℕ} 0 1 = cc in absurd (omega arith)

record_made : (gap : Bool) (t : Result (Option Draft) Refusal) (bytes : List ℕ) (chain : Option ℕ) → IsJudged gap t bytes (judged.Record chain) →
    (d : Draft) × ((refusal_of log_bytes d ≡ Ok tt) × (bytes ≡ buffer_of log_bytes d))
record_made gap (Ok (Some d)) bytes chain h = go (gap && eqb d.kind 3) h
  where
    go : (t : Bool) → JudgedBy t d bytes (judged.Record chain) → (d : Draft) × ((refusal_of log_bytes d ≡ Ok tt) × (bytes ≡ buffer_of log_bytes d))
    go true e = let z : ◌≡◌ {A = ℕ} 0 1 = cc in absurd (omega arith)
    go false (made, e) = (d, (by_refusal (refusal_of log_bytes d) (chain_named d) chain e, made))
record_made gap (Ok None) bytes chain e = let z : ◌≡◌ {A = ℕ} 0 1 = cc in absurd (omega arith)
record_made gap (Err why) bytes chain e = let z : ◌≡◌ {A = ℕ} 0 1 = cc in absurd (omega arith)

-- One more record after others.
records_behind : (ds : List Draft) (d : Draft) → records_of (ds ++ (d ∷ [])) ≡ records_of ds ++ buffer_of log_bytes d
unfolding records_of
records_behind [] d = append-nil (buffer_of log_bytes d)
records_behind (x ∷ ds) d =
    ap (λ (l : List ℕ). buffer_of log_bytes x ++ l) (records_behind ds d)
    ∙ sym (append_assoc (buffer_of log_bytes x) (records_of ds) (buffer_of log_bytes d))

accepted_behind : (ds : List Draft) (d : Draft) → AllAccepted ds → refusal_of log_bytes d ≡ Ok tt → AllAccepted (ds ++ (d ∷ []))
unfolding AllAccepted
accepted_behind [] d all one = (one, tt)
accepted_behind (x ∷ ds) d all one = (all.0, accepted_behind ds d all.1 one)

pub hold_none : (out : List ℕ) → HoldRecords out (Some 0)
unfolding records_of AllAccepted
hold_none out = (omega arith, ([], (tt, refl)))

pub hold_inside : (out : List ℕ) (r : Option ℕ) → HoldRecords out r → waiting_of r ≤ length out
hold_inside out (Some n) held = held.0
hold_inside out None held = omega arith

hold_dropped : (out : List ℕ) {r : Option ℕ} → r ≡ None → HoldRecords out r
hold_dropped out e = subst⁻¹ (HoldRecords out) e tt

-- The records of these accepted drafts wait, unless all were dropped.
hold_these : (ds : List Draft) (out : List ℕ) (r : Option ℕ) → AllAccepted ds → MayWait (records_of ds) out r → HoldRecords out r
hold_these ds out (Some n) accepted w = (w.0, (ds, (accepted, w.1)))
hold_these ds out None accepted w = tt

hold_kept : (waiting : Option ℕ) (before out : List ℕ) (d : Draft) (r : Option ℕ) → refusal_of log_bytes d ≡ Ok tt → HoldRecords before waiting → KeptAfter waiting before (buffer_of log_bytes d) out r → HoldRecords out r
unfolding records_of AllAccepted
hold_kept (Some n) before out d r accepted (inside, (ds, (all, made))) kept = go (leb (length (take n before) + length (buffer_of log_bytes d)) (length out)) kept
  where
    both_are : take n before ++ buffer_of log_bytes d ≡ records_of (ds ++ (d ∷ []))
    both_are = ap (λ (l : List ℕ). l ++ buffer_of log_bytes d) made ∙ sym (records_behind ds d)

    go : (t : Bool) → KeptBy t (take n before) (buffer_of log_bytes d) out r → HoldRecords out r
    go true w =
        hold_these (ds ++ (d ∷ [])) out r (accepted_behind ds d all accepted)
        (subst (λ (l : List ℕ). MayWait l out r) both_are (may_wait (take n before ++ buffer_of log_bytes d) out r w))
    go false w =
        hold_these (d ∷ []) out r (accepted, tt)
        (subst⁻¹ (λ (l : List ℕ). MayWait l out r) (append-nil (buffer_of log_bytes d)) w)
hold_kept None before out d r accepted held kept = hold_dropped out kept

hold_same : {before out : List ℕ} {waiting r : Option ℕ} → out ≡ before → r ≡ waiting → HoldRecords before waiting → HoldRecords out r
hold_same {before} {out} {waiting} {r} o e held = subst⁻¹ (λ (l : List ℕ). HoldRecords l r) o (subst⁻¹ (HoldRecords before) e held)

hold_or_drop : (keyboard : Bool) (out : List ℕ) (waiting : Option ℕ) → HoldRecords out waiting → HoldRecords out (cond keyboard waiting None)
hold_or_drop true out waiting held = held
hold_or_drop false out waiting held = tt

pub hold_taken : (waiting : Option ℕ) (before out bytes : List ℕ) (gap keyboard : Bool) (t : Result (Option Draft) Refusal) (j : Judged) (r : Option ℕ) → HoldRecords before waiting → IsJudged gap t bytes j → IsTaken waiting before j bytes keyboard out r → HoldRecords out r
hold_taken waiting before out bytes gap keyboard t (judged.Record chain) r held line taken =
    let made = record_made gap t bytes chain line in
    hold_kept waiting before out made.0 r made.1.0 held (subst (λ (l : List ℕ). KeptAfter waiting before l out r) made.1.1 taken)
hold_taken waiting before out bytes gap keyboard t judged.Passed r held line taken = hold_same taken.0 taken.1 held
hold_taken waiting before out bytes gap keyboard t (judged.Refused why) r held line taken =
    hold_same taken.0 taken.1 (hold_or_drop keyboard before waiting held)

-- What is kept at the end was waiting, or nothing is.
pub hold_ended : (out : List ℕ) (i : Input) (waiting : Option ℕ) (keyboard : Bool) → HoldRecords out waiting → HoldRecords out (ended_by i waiting keyboard)
unfolding ended_by
hold_ended out (input.Line start end stop) waiting keyboard held = tt
hold_ended out input.Cut waiting keyboard held = hold_or_drop keyboard out waiting held
hold_ended out input.End waiting keyboard held = held
hold_ended out input.Failed waiting keyboard held = tt

-- If a line comes next or reading failed, nothing is kept.
pub not_kept : (i : Input) (waiting : Option ℕ) (keyboard : Bool) → (i ≡ input.Cut → ⊥) → (i ≡ input.End → ⊥) → None ≡ ended_by i waiting keyboard
unfolding ended_by
not_kept (input.Line start end stop) waiting keyboard whole more = refl
not_kept input.Cut waiting keyboard whole more = absurd (whole refl)
not_kept input.End waiting keyboard whole more = absurd (more refl)
not_kept input.Failed waiting keyboard whole more = refl
