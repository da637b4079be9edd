-- What comes next in a text, according to whether it has bytes and a newline; and that a line that comes next is in the buffer.
use Rattle.std.proofs.Common.{◌≡◌, ℕ, ◌+◌, ◌-◌, ◌<◌, ◌≤◌, min, Bool, true, false, cond, ltb, List, [], ◌∷◌, ◌++◌, length, take, drop, sym, refl, ap, ◌∙◌, subst, inl, inr, arith, length-drop, length-take, take_at, ltb-true, le-ltb, lt-ltb}
use mathlib.Core.Path.{subst⁻¹}
use denote.Enum.Declared.{tag_of}
use types.Run.{OneOf}
use Rattle.parsing.specs.Words.{run, is_in_line}
use Rattle.files.specs.Input.{between, has_newline, next_in, at_end, Comes, failed, read, IsRead, is_there, NextBy, IsNext}
use Rattle.files.specs.declared.Input.{Input}
use Rattle.files.specs.declared.Input.TheVariants as input
use Rattle.files.specs.contracts.Input.{the_type}

pub text_size : (b : List ℕ) (from to : ℕ) → to ≤ length b → length (between from to b) ≡ to - from
text_size b from to h = length-take (to - from) _ ∙ omega (arith, length-drop from b)

-- How many bytes come before the first newline of a text: all of them if it has none.
abbrev pub newline_in : List ℕ → ℕ → ℕ → ℕ
newline_in b from to = run is_in_line (between from to b)

abbrev without : ℕ → ℕ → Input
without from to = cond (ltb from to) input.Cut input.End

module _ (b : List ℕ) (from to : ℕ) (inside : to ≤ length b) where
  pub next_line : newline_in b from to < to - from → input.Line from (from + newline_in b from to) to ≡ next_in b from to
  unfolding next_in
  next_line less =
      let there : has_newline (between from to b) ≡ true = lt-ltb (newline_in b from to) (length (between from to b)) (omega (arith, text_size b from to inside)) in
      rw there

  next_without : to - from ≤ newline_in b from to → without from to ≡ next_in b from to
  unfolding next_in
  next_without more =
      let none : has_newline (between from to b) ≡ false = le-ltb (newline_in b from to) (length (between from to b)) (omega (arith, text_size b from to inside)) in
      rw none

  pub next_cut : from < to → to - from ≤ newline_in b from to → input.Cut ≡ next_in b from to
  next_cut some more =
      let e : ltb from to ≡ true = lt-ltb from to some in
      ap (λ (t : Bool). cond t input.Cut input.End) (sym e) ∙ next_without more

  pub next_end : to ≤ from → input.End ≡ next_in b from to
  next_end none =
      let e : ltb from to ≡ false = le-ltb from to none in
      ap (λ (t : Bool). cond t input.Cut input.End) (sym e) ∙ next_without (omega arith)

-- Text without a newline is not a line.
never_without : (t : Bool) {start end stop : ℕ} → input.Line start end stop ≡ cond t input.Cut input.End → ⊥
never_without true e = let z : ◌≡◌ {A = ℕ} 0 1 = cc in omega arith
never_without false e = let z : ◌≡◌ {A = ℕ} 0 1 = cc in omega arith

-- Nothing more needs to be read if a line comes next, and in no other case.
pub line_there : (b : List ℕ) (from to : ℕ) {r : Input} {start end stop : ℕ} → r ≡ input.Line start end stop → r ≡ next_in b from to → is_there b from to ≡ true
unfolding next_in
line_there b from to {start = start} {end = end} {stop = stop} is e = go (has_newline (between from to b)) (sym is ∙ e)
  where
    go : (t : Bool) → input.Line start end stop ≡ cond t (input.Line from (from + newline_in b from to) to) (without from to) → t ≡ true
    go true same = refl
    go false same = absurd (never_without (ltb from to) same)

pub not_there : (b : List ℕ) (from to : ℕ) {r : Input} → r ≡ next_in b from to → ((start end stop : ℕ) → r ≡ input.Line start end stop → ⊥) → is_there b from to ≡ false
unfolding next_in
not_there b from to e never = go (has_newline (between from to b)) (λ end is. never from end to (e ∙ is))
  where
    go : (t : Bool) → ((end : ℕ) → cond t (input.Line from (from + newline_in b from to) to) (without from to) ≡ input.Line from end to → ⊥) → t ≡ false
    go true none = absurd (none (from + newline_in b from to) refl)
    go false none = refl

-- So what comes next is in the text that is there, or in what is read.
pub next_there : (b : List ℕ) (from to stop : ℕ) {r : Input} → stop ≡ min to (length b) → is_there b from stop ≡ true → r ≡ next_in b from stop → IsNext b from to b r
next_there b from to stop {r} same there e =
    subst (λ (n : ℕ). NextBy (is_there b from n) b from n b r) same
    (subst⁻¹ (λ (t : Bool). NextBy t b from stop b r) there (refl, e))

pub next_read : (b : List ℕ) (from to stop : ℕ) {now : List ℕ} {r : Input} → stop ≡ min to (length b) → is_there b from stop ≡ false → IsRead b from stop now r → IsNext b from to now r
next_read b from to stop {now} {r} same none e =
    subst (λ (n : ℕ). NextBy (is_there b from n) b from n now r) same
    (subst⁻¹ (λ (t : Bool). NextBy t b from stop now r) none e)

-- The text that was kept is at the front, whatever is read after it.
pub is_read : (b : List ℕ) (from to kept : ℕ) (moved now : List ℕ) {r : Input} → kept ≡ length (between from to b) → moved ≡ between from to b ++ drop kept b →
    take kept now ≡ take kept moved → length now ≡ length b → Comes kept now r → IsRead b from to now r
is_read b from to kept moved now {r} size front first same comes =
    let text = between from to b in
    record {
      size = same;
      front = ap (λ (n : ℕ). take n now) (sym size) ∙ first ∙ ap (take kept) front ∙ take_at text (drop kept b) kept (sym size);
      comes = subst (λ (n : ℕ). Comes n now r) size comes;
    }

-- If a line comes next or reading failed, `at_end` is `other`; and what holds for both `there` and `other` holds for `at_end`.
pub not_at_end : {A : Type 0} (i : Input) (there other : A) → OneOf (0 ∷ 3 ∷ []) (tag_of the_type i) → other ≡ at_end i there other
not_at_end (input.Line start end stop) there other key = refl
not_at_end input.Cut there other key = refl
not_at_end input.End there other (inl e) = absurd (omega arith)
not_at_end input.End there other (inr e) = absurd (omega arith)
not_at_end input.Failed there other key = refl

pub holds_at_end : {A : Type 0} (P : A → Type 0) (i : Input) (there other : A) → P there → P other → P (at_end i there other)
holds_at_end P (input.Line start end stop) there other p q = q
holds_at_end P input.Cut there other p q = q
holds_at_end P input.End there other p q = p
holds_at_end P input.Failed there other p q = q

-- A line ends before its text does, and the text ends within the buffer.
pub record IsLine (buffer : List ℕ) (start end stop : ℕ) : Type 0 where
  pub rises : start ≤ end
  pub inside : end < stop
  pub stands : stop ≤ length buffer

line_in : (b : List ℕ) (from to : ℕ) {start end stop : ℕ} → to ≤ length b → input.Line start end stop ≡ next_in b from to → IsLine b start end stop
unfolding next_in
line_in b from to {start} {end} {stop} h e = go (has_newline (between from to b)) refl e
  where
    go : (t : Bool) → has_newline (between from to b) ≡ t → input.Line start end stop ≡ cond t (input.Line from (from + newline_in b from to) to) (without from to) → IsLine b start end stop
    go true there same =
        let first : start ≡ from = cc in
        let last : end ≡ from + newline_in b from to = cc in
        let same_stop : stop ≡ to = cc in
        let less : newline_in b from to < to - from = omega (arith, ltb-true (newline_in b from to) (length (between from to b)) there, text_size b from to h) in
        record { rises = omega arith; inside = omega arith; stands = omega arith }
    go false there same = absurd (never_without (ltb from to) same)

line_read : {kept : ℕ} {now : List ℕ} {start end stop : ℕ} → Comes kept now (input.Line start end stop) → IsLine now start end stop
line_read (failed e) = let z : ◌≡◌ {A = ℕ} 0 1 = cc in absurd (omega arith)
line_read {now = now} (read stop few fits e) = line_in now 0 stop fits e

-- The same for a line that comes next, in the buffer as it then is.
pub line_next : (before : List ℕ) (from to : ℕ) (now : List ℕ) {start end stop : ℕ} → IsNext before from to now (input.Line start end stop) → IsLine now start end stop
line_next before from to now {start} {end} {stop} n = go (is_there before from (min to (length before))) n
  where
    go : (t : Bool) → NextBy t before from (min to (length before)) now (input.Line start end stop) → IsLine now start end stop
    go true (same, e) = subst⁻¹ (λ (b : List ℕ). IsLine b start end stop) same (line_in before from (min to (length before)) (omega arith) e)
    go false r = line_read r.comes
