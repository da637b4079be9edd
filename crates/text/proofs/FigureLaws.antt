-- Numbers, each with a space before it: how the text grows by one more number.
use Prim.Native.Nat.{ℕ, ◌+◌, ◌<◌}
use mathlib.Core.Path.{◌≡◌, sym, ap, ◌∙◌}
use mathlib.Core.List.{List, [], ◌∷◌, ◌++◌, append-nil, append_assoc}
use native.Mathlib.Numerals.{add-one}
use lib.ListN.{length, get_or, take}
use lib.Seq.{take-suc}
use Rattle.text.specs.Texts.{spaced, figures_text}

figures_behind : (xs : List ℕ) (n : ℕ) → figures_text xs ++ spaced n ≡ figures_text (xs ++ (n ∷ []))
unfolding figures_text
figures_behind [] n = sym (append-nil (spaced n))
figures_behind (x ∷ xs) n = append_assoc (spaced x) (figures_text xs) (spaced n) ∙ ap (λ (z : List ℕ). spaced x ++ z) (figures_behind xs n)

pub figures_more : (l : List ℕ) (i : ℕ) → i < length l → figures_text (take i l) ++ spaced (get_or l i 0) ≡ figures_text (take (i + 1) l)
figures_more l i h =
    figures_behind (take i l) (get_or l i 0)
    ∙ ap figures_text (sym (ap (λ (n : ℕ). take n l) (add-one i) ∙ take-suc l i 0 h))
