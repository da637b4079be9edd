-- Texts put one after the other: `text` is in the buffer already and `left` is still to be put; together they are `whole`.
use Prim.Native.Nat.{ℕ, ◌≤◌}
use mathlib.Core.List.{List, [], ◌++◌, append-nil, append_assoc}
use mathlib.Core.Path.{◌≡◌, refl, sym, ap, ◌∙◌}
use lib.ListN.{length}
use Rattle.text.specs.Puts.{Put}
use Rattle.text.proofs.PutLaws.{put_then, put_none, put_as}

pub record Reached (o : List ℕ) (at : ℕ) (whole left o' : List ℕ) (end : ℕ) : Type 0 where
  pub text : List ℕ
  pub put : Put o at text o' end
  pub rest : whole ≡ text ++ left

-- Nothing is put yet.
pub reached_none : {o : List ℕ} {at : ℕ} (whole : List ℕ) → at ≤ length o → Reached o at whole whole o at
reached_none {o} {at} whole inside = record { text = []; put = put_none o at inside; rest = refl }

module _ {o : List ℕ} {at : ℕ} {whole left o' : List ℕ} {end : ℕ} (r : Reached o at whole left o' end) where
  -- One more text is put.
  pub reached_more : {x left' o'' : List ℕ} {end' : ℕ} → left ≡ x ++ left' → Put o' end x o'' end' → Reached o at whole left' o'' end'
  reached_more {x} {left'} e p =
      record {
        text = r.text ++ x;
        put = put_then r.put p;
        rest = r.rest ∙ ap (λ (l : List ℕ). r.text ++ l) e ∙ sym (append_assoc r.text x left');
      }

  -- Nothing is left: the whole is put.
  pub reached_all : left ≡ [] → Put o at whole o' end
  reached_all none = put_as (sym (r.rest ∙ ap (λ (l : List ℕ). r.text ++ l) none ∙ append-nil r.text)) r.put
