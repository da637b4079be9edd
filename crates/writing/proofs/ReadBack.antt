-- What is written is read back, field by field and kind by kind.
-- The checker computes where each byte lies, so each field is read from the bytes that were put there.
use Prim.Native.Nat.{ℕ, zero, suc, ◌^◌, ◌<◌}
use mathlib.Core.Path.{◌≡◌, refl, ap, ap₂, ◌∙◌}
use mathlib.Core.Bool.{Bool, true, false, cond, ◌&&◌}
use native.Mathlib.Omega.{arith}
use lib.Dec.{T, leb}
use lib.IntN.{ℤ, pos, nat_abs}
use lib.Ieee.{binary64, fits, of_int, of_bits, to_bits}
use lib.Ieee.Bits.{to_bits-lt}
use lib.Ieee.Fits.{div-fits}
use borrow.Author.Tests.{leb-true}
use Rattle.std.specs.Prelude.{Option, Some, None, Result, Ok}
use Rattle.refusals.specs.declared.Refusal.{Refusal}
use Rattle.fields.specs.Fields.{value_of, bytes_of}
use Rattle.fields.proofs.FieldLaws.{value_bytes}
use Rattle.metres.specs.Metres.{most_centimetres, centimetres_of, hundredth_of, metres_of, length_figures}
use Rattle.metres.specs.Patterns.{number_of, pattern_of}
use Rattle.metres.proofs.PatternLaws.{number_back}
use Rattle.metres.proofs.Back.{way_back}
use Rattle.chart.proofs.PlaceLaws.{both}
use Rattle.records.specs.declared.LogEntry.{LogEntry}
use Rattle.records.specs.declared.LogEntry.TheVariants as entry
use Rattle.records.specs.Bytes.{all_zero}
use Rattle.records.specs.LogRecords.{raw_record_of, log_record_of, is_place, placed, two_readings, pair_of, with_pair, in_centimetres, log_entry_of}
use Rattle.records.proofs.RefusalLaws.{passed}
use Rattle.writing.specs.declared.Draft.{Draft}
use Rattle.writing.specs.Writing.{refusal_of, used_of, in_metres, metres_bytes, record_bytes, raw_for, entry_for}
use Rattle.writing.proofs.BufferLaws.{not_refused}
use Rattle.writing.proofs.WriteLaws.{known_kind}

-- The metres of every number of centimetres fit binary64: they are a quotient, or plus zero for a number that is not written.
length_fits : (t : Bool) (z : ℤ) → T (fits binary64 (length_figures (cond t (Some (hundredth_of z)) None)).metres)
unfolding length_figures hundredth_of fits
length_fits true z = div-fits binary64 (of_int binary64 z) (of_int binary64 (pos 100))
length_fits false z = tt

metres_fit : (z : ℤ) → T (fits binary64 (in_metres z))
unfolding metres_of
metres_fit z = length_fits (leb (nat_abs z) most_centimetres) z

-- So they come back from their eight bytes.
metres_back : (z : ℤ) → number_of (value_of (metres_bytes z)) ≡ in_metres z
metres_back z =
    ap number_of (value_bytes 8 (pattern_of (in_metres z)) (to_bits-lt binary64 (in_metres z) (metres_fit z)))
    ∙ number_back (in_metres z) (metres_fit z)

-- Two numbers of centimetres that are written come back from their bytes, and so does the entry that they give.
pair_back : (give : ℤ → ℤ → Result LogEntry Refusal) (x y : ℤ) → (leb (nat_abs x) most_centimetres && leb (nat_abs y) most_centimetres) ≡ true →
    with_pair give (pair_of (centimetres_of (number_of (value_of (metres_bytes x)))) (centimetres_of (number_of (value_of (metres_bytes y))))) ≡ give x y
pair_back give x y h =
    let two = both (leb (nat_abs x) most_centimetres) (leb (nat_abs y) most_centimetres) h in
    ap₂ (λ (v w : Option ℤ). with_pair give (pair_of v w)) (back x two.0) (back y two.1)
  where
    back : (z : ℤ) → leb (nat_abs z) most_centimetres ≡ true → centimetres_of (number_of (value_of (metres_bytes z))) ≡ Some z
    back z fits = ap centimetres_of (metres_back z) ∙ way_back z (leb-true _ _ fits)

-- The raw record comes back from the bytes of any draft.
pub raw_back : (d : Draft) → d.line < 2 ^ 32 → raw_record_of (record_bytes d) ≡ Ok (raw_for d)
unfolding raw_record_of record_bytes bytes_of value_of of_bits
raw_back d h = rw (value_bytes 4 d.line h, metres_back d.x, metres_back d.y)

-- Readings come back from a hyperbolic record.
readings_back : (chain line : ℕ) (x y : ℤ) → (leb (nat_abs x) most_centimetres && leb (nat_abs y) most_centimetres) ≡ true →
    log_entry_of (record_bytes (record { kind = 1; chain = chain; line = line; x = x; y = y })) ≡ Ok (entry.Readings x y)
unfolding log_entry_of log_record_of in_centimetres record_bytes bytes_of all_zero
readings_back chain line x y h = pair_back two_readings x y h

-- A place comes back from a grid record.
place_back : (line : ℕ) (x y : ℤ) → (leb (nat_abs x) most_centimetres && leb (nat_abs y) most_centimetres) ≡ true → is_place x y ≡ true →
    log_entry_of (record_bytes (record { kind = 2; chain = 0; line = line; x = x; y = y })) ≡ Ok (entry.Place (record { easting = nat_abs x; northing = nat_abs y }))
unfolding log_entry_of log_record_of in_centimetres record_bytes bytes_of all_zero placed
place_back line x y h p = pair_back placed x y h ∙ rw p

-- A hold comes back.
hold_back : (line : ℕ) → log_entry_of (record_bytes (record { kind = 3; chain = 0; line = line; x = pos 0; y = pos 0 })) ≡ Ok entry.Hold
unfolding log_entry_of log_record_of in_centimetres record_bytes bytes_of all_zero metres_of length_figures to_bits
hold_back line = refl

-- What is accepted comes back from its bytes, each kind by itself.
by_kind : (kind chain line : ℕ) (x y : ℤ) →
    let d : Draft = record { kind = kind; chain = chain; line = line; x = x; y = y } in
    refusal_of 32 d ≡ Ok tt → log_entry_of (record_bytes (used_of d)) ≡ Ok (entry_for (used_of d))
unfolding refusal_of used_of entry_for
by_kind zero chain line x y e = absurd (not_refused e)
by_kind (suc zero) chain line x y e =
    readings_back chain line x y (passed _ not_refused e).0
by_kind (suc (suc zero)) chain line x y e =
    let fit = passed _ not_refused e in
    place_back line x y fit.0 (passed _ not_refused fit.1).0
by_kind (suc (suc (suc zero))) chain line x y e = hold_back line
by_kind (suc (suc (suc (suc kind)))) chain line x y e =
    absurd (omega (arith, known_kind (suc (suc (suc (suc kind)))) (passed _ not_refused e).0))

-- The same for any draft.
pub entry_back : (d : Draft) → refusal_of 32 d ≡ Ok tt → log_entry_of (record_bytes (used_of d)) ≡ Ok (entry_for (used_of d))
entry_back d e = by_kind d.kind d.chain d.line d.x d.y e
