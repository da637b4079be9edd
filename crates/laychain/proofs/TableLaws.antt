-- A chain put after those that are in the table makes one more; and the chains counted at the end are in the table.
use Rattle.std.proofs.Common.{◌≡◌, ℕ, ◌+◌, ◌-◌, ◌*◌, ◌<◌, ◌≤◌, Bool, true, false, cond, ltb, List, [], ◌∷◌, ◌++◌, length, take, drop, Option, Some, None, Result, Ok, Err, sym, refl, ap, ◌∙◌, ap₂, append_assoc, append-nil, arith, length-append, ltb-true, le-ltb, lt-ltb}
use mathlib.Core.Bool.{false≢true}
use mathlib.Core.Path.{subst⁻¹}
use borrow.Rule.Slice.PartMut.{put_mid, Post-is}
use Rattle.refusals.specs.declared.Refusal.{Refusal}
use Rattle.refusals.specs.declared.Refusal.TheVariants as refusal
use Rattle.chart.specs.declared.Chain.{Chain}
use Rattle.chart.specs.Chains.{is_sound}
use Rattle.chart.proofs.PlaceLaws.{both, and_both}
use Rattle.records.specs.Bytes.{unless}
use Rattle.records.specs.ChainTables.{chain_bytes, most_chains, factor_bytes}
use Rattle.writing.specs.ChainWriting.{chain_refusal_of, chain_buffer_of, all_sound, table_of}
use Rattle.writing.specs.FactorWriting.{factor_buffer_of, scale_of}
use Rattle.writing.proofs.ChainWriteLaws.{chain_same_length}
use Rattle.writing.proofs.FactorWriteLaws.{factor_same_length}
use Rattle.text.specs.Puts.{Put, end_after, with_text}
use Rattle.text.proofs.PutLaws.{put_front, put_from, put_promised, nothing_promised}
use Rattle.laychain.specs.declared.Verdict.{Verdict}
use Rattle.laychain.specs.declared.Verdict.TheVariants as verdict
use Rattle.laychain.specs.Tables.{verdict_of, line_verdict, table_with, scale_with, chains_after, is_well, HoldsChains}

-- With one more chain at the end: the bytes of the table and of the side file, and that all its chains are sound.
table_behind : (cs : List Chain) (c : Chain) → table_of (cs ++ (c ∷ [])) ≡ table_of cs ++ chain_buffer_of chain_bytes c
unfolding table_of
table_behind [] c = append-nil (chain_buffer_of chain_bytes c)
table_behind (x ∷ cs) c =
    ap (λ (l : List ℕ). chain_buffer_of chain_bytes x ++ l) (table_behind cs c)
    ∙ sym (append_assoc (chain_buffer_of chain_bytes x) (table_of cs) (chain_buffer_of chain_bytes c))

scale_behind : (cs : List Chain) (c : Chain) → scale_of (cs ++ (c ∷ [])) ≡ scale_of cs ++ factor_buffer_of factor_bytes c.factor
unfolding scale_of
scale_behind [] c = append-nil (factor_buffer_of factor_bytes c.factor)
scale_behind (x ∷ cs) c =
    ap (λ (l : List ℕ). factor_buffer_of factor_bytes x.factor ++ l) (scale_behind cs c)
    ∙ sym (append_assoc (factor_buffer_of factor_bytes x.factor) (scale_of cs) (factor_buffer_of factor_bytes c.factor))

sound_behind : (cs : List Chain) (c : Chain) → all_sound cs ≡ true → is_sound c ≡ true → all_sound (cs ++ (c ∷ [])) ≡ true
unfolding all_sound
sound_behind [] c all one = and_both one refl
sound_behind (x ∷ cs) c all one =
    let p = both (is_sound x) (all_sound cs) all in
    and_both p.0 (sound_behind cs c p.1 one)

-- A chain that is not refused has a place in the table, and is sound.
not_refused : (written : Result (Unit {0}) Refusal) → is_well (verdict_of written) ≡ true → written ≡ Ok tt
unfolding verdict_of is_well
not_refused (Ok tt) e = refl
not_refused (Err why) e = absurd (false≢true e)

-- A refusal is no success.
not_ok : (why : Refusal) → ◌≡◌ {A = Result (Unit {0}) Refusal} (Err why) (Ok tt) → ⊥
not_ok why e = false≢true (cc)

has_place : (before : ℕ) (c : Chain) → is_well (line_verdict before (Ok (Some c))) ≡ true → (before < most_chains) × (chain_refusal_of chain_bytes c ≡ Ok tt)
unfolding line_verdict
has_place before c e = go (ltb before most_chains) refl (not_refused (unless (ltb before most_chains) (Err refusal.Length) (chain_refusal_of chain_bytes c)) e)
  where
    go : (t : Bool) → ltb before most_chains ≡ t → unless t (Err refusal.Length) (chain_refusal_of chain_bytes c) ≡ Ok tt → (before < most_chains) × (chain_refusal_of chain_bytes c ≡ Ok tt)
    go true room e = (ltb-true before most_chains room, e)
    go false room e = absurd (not_ok refusal.Length e)

is_sound_lem : (c : Chain) → chain_refusal_of chain_bytes c ≡ Ok tt → is_sound c ≡ true
unfolding chain_refusal_of
is_sound_lem c e = go (is_sound c) e
  where
    go : (t : Bool) → ◌≡◌ {A = Result (Unit {0}) Refusal} (unless t (Err refusal.Chain) (Ok tt)) (Ok tt) → t ≡ true
    go true e = refl
    go false e = absurd (not_ok refusal.Chain e)

-- A text that is put into its own part of some bytes, from `at` on.
placed_in : (s : List ℕ) (at width : ℕ) (text written : List ℕ) → at + width ≤ length s → length text ≡ width → written ≡ text →
    put_mid at (at + width - at) s written ≡ with_text s at text
placed_in s at width text written fits long made =
    let behind : at + width ≡ at + length text = omega (arith, long) in
    let put : Put s at text (put_mid at (at + width - at) s written) (at + length text) =
    record {
      fits = omega (arith, fits, long);
      end_is = refl;
      now_is =
          ap₂ (λ (x y : List ℕ). take at s ++ (x ++ y)) made
          (Post-is at (at + width) s (omega arith) ∙ ap (λ (n : ℕ). drop n s) behind);
    } in
    (put_promised put).1

-- The answer, the table and the side file if there is no place for a chain, and if there is one.
pub no_place : (table scale : List ℕ) (before : ℕ) (c : Chain) → length table ≡ chain_bytes * most_chains → length scale ≡ factor_bytes * most_chains → most_chains ≤ before →
    (verdict.Refused refusal.Length ≡ line_verdict before (Ok (Some c))) × ((table ≡ table_with table before (Ok (Some c))) × (scale ≡ scale_with scale before (Ok (Some c))))
unfolding line_verdict verdict_of
no_place table scale before c size side many =
    let none : ltb before most_chains ≡ false = le-ltb before most_chains many in (
      ap (λ (t : Bool). verdict_of (unless t (Err refusal.Length) (chain_refusal_of chain_bytes c))) (sym none),
      (
        (nothing_promised table (chain_bytes * before) (chain_buffer_of chain_bytes c) (omega (arith, chain_same_length chain_bytes c))).1,
        (nothing_promised scale (factor_bytes * before) (factor_buffer_of factor_bytes c.factor) (omega (arith, factor_same_length factor_bytes c.factor))).1,
      ),
    )

pub chain_placed : (table : List ℕ) (before : ℕ) (c : Chain) (bytes : ℕ) (r : Result (Unit {0}) Refusal) (written : List ℕ) → length table ≡ chain_bytes * most_chains → before < most_chains →
    bytes ≡ chain_bytes → r ≡ chain_refusal_of bytes c → written ≡ chain_buffer_of bytes c →
    (verdict_of r ≡ line_verdict before (Ok (Some c))) × (put_mid (chain_bytes * before) (chain_bytes * before + chain_bytes - chain_bytes * before) table written ≡ table_with table before (Ok (Some c)))
unfolding line_verdict
chain_placed table before c bytes r written size few same answer made =
    let room : ltb before most_chains ≡ true = lt-ltb before most_chains few in (
      ap verdict_of (answer ∙ ap (λ (n : ℕ). chain_refusal_of n c) same ∙ ap (λ (t : Bool). unless t (Err refusal.Length) (chain_refusal_of chain_bytes c)) (sym room)),
      placed_in table (chain_bytes * before) chain_bytes (chain_buffer_of chain_bytes c) written (omega (arith, size, few)) (chain_same_length chain_bytes c) (made ∙ ap (λ (n : ℕ). chain_buffer_of n c) same),
    )

pub factor_placed : (scale : List ℕ) (before f bytes : ℕ) (written : List ℕ) → length scale ≡ factor_bytes * most_chains → before < most_chains →
    bytes ≡ factor_bytes → written ≡ factor_buffer_of bytes f →
    put_mid (factor_bytes * before) (factor_bytes * before + factor_bytes - factor_bytes * before) scale written ≡ with_text scale (factor_bytes * before) (factor_buffer_of factor_bytes f)
factor_placed scale before f bytes written size few same made =
    placed_in scale (factor_bytes * before) factor_bytes (factor_buffer_of factor_bytes f) written (omega (arith, size, few)) (factor_same_length factor_bytes f) (made ∙ ap (λ (n : ℕ). factor_buffer_of n f) same)

-- Then the bytes up to the end of the text are those before it, and the text.
grown : (s now : List ℕ) (at end : ℕ) (text : List ℕ) → at + length text ≤ length s → end ≡ at + length text → now ≡ with_text s at text → take end now ≡ take at s ++ text
grown s now at end text fits ends same =
    let put = put_from {o = s} {at = at} {x = text} {o' = now} {end = end_after (length s) at text} (refl, same) fits in
    ap (λ (n : ℕ). take n now) (ends ∙ sym put.end_is) ∙ put_front put

-- A table that holds no chain, and one that holds one more.
pub no_chains : (table scale : List ℕ) → HoldsChains table scale 0
unfolding all_sound table_of scale_of
no_chains table scale = record { few = omega arith; chains = []; size = refl; sound = refl; bytes = refl; factors = refl }

one_more : (table scale now side : List ℕ) (before : ℕ) (c : Chain) → length table ≡ chain_bytes * most_chains → length scale ≡ factor_bytes * most_chains → HoldsChains table scale before →
    is_well (line_verdict before (Ok (Some c))) ≡ true → now ≡ table_with table before (Ok (Some c)) → side ≡ scale_with scale before (Ok (Some c)) → HoldsChains now side (before + 1)
one_more table scale now side before c size wide held accepted same beside =
    let place = has_place before c accepted in
    let written = chain_buffer_of chain_bytes c in
    let factor = factor_buffer_of factor_bytes c.factor in
    let long = chain_same_length chain_bytes c in
    let short = factor_same_length factor_bytes c.factor in
    record {
      few = omega arith;
      chains = held.chains ++ (c ∷ []);
      size = length-append held.chains (c ∷ []) ∙ ap (λ (n : ℕ). n + 1) held.size;
      sound = sound_behind held.chains c held.sound (is_sound_lem c place.1);
      bytes =
          grown table now (chain_bytes * before) (chain_bytes * (before + 1)) written (omega (arith, size, place.0, long)) (omega (arith, long)) same
          ∙ ap (λ (l : List ℕ). l ++ written) held.bytes
          ∙ sym (table_behind held.chains c);
      factors =
          grown scale side (factor_bytes * before) (factor_bytes * (before + 1)) factor (omega (arith, wide, place.0, short)) (omega (arith, short)) beside
          ∙ ap (λ (l : List ℕ). l ++ factor) held.factors
          ∙ sym (scale_behind held.chains c);
    }

-- So it holds the chains of all lines with chains after one more line that is not refused.
is_chain : (before : ℕ) (c : Chain) → is_well (line_verdict before (Ok (Some c))) ≡ true → line_verdict before (Ok (Some c)) ≡ verdict.Chain
unfolding line_verdict verdict_of is_well
is_chain before c e = go (unless (ltb before most_chains) (Err refusal.Length) (chain_refusal_of chain_bytes c)) e
  where
    go : (written : Result (Unit {0}) Refusal) → is_well (verdict_of written) ≡ true → verdict_of written ≡ verdict.Chain
    go (Ok tt) e = refl
    go (Err why) e = absurd (false≢true e)

pub one_more_line : (table scale now side : List ℕ) (t : Result (Option Chain) Refusal) (before : ℕ) → length table ≡ chain_bytes * most_chains → length scale ≡ factor_bytes * most_chains → HoldsChains table scale before →
    is_well (line_verdict before t) ≡ true → now ≡ table_with table before t → side ≡ scale_with scale before t → HoldsChains now side (chains_after before (line_verdict before t))
unfolding chains_after
one_more_line table scale now side (Ok (Some c)) before size wide held e same beside =
    subst⁻¹ (λ (v : Verdict). HoldsChains now side (chains_after before v)) (is_chain before c e) (one_more table scale now side before c size wide held e same beside)
one_more_line table scale now side (Ok None) before size wide held e same beside =
    unfold line_verdict in subst⁻¹ (λ (l : List ℕ). HoldsChains l side before) same (subst⁻¹ (λ (l : List ℕ). HoldsChains table l before) beside held)
one_more_line table scale now side (Err why) before size wide held e same beside = unfold line_verdict is_well in absurd (false≢true e)

-- The table and the side file hold the chains that are counted.
pub held_if : (table scale : List ℕ) (lines : ℕ) (well : Bool) → (well ≡ true → HoldsChains table scale lines) → HoldsChains table scale (cond well lines 0)
held_if table scale lines true held = held refl
held_if table scale lines false held = no_chains table scale
