-- What it means that a contract allows only one answer. A contract is the `clauses` that the toolchain makes from a
-- function's source.
use Rattle.std.specs.Prelude.{◌≡◌}
use seplogic.Ra.Ura.{Ura}
use seplogic.Bi.Sat.{Sat}
use contract.Lifetimes.{Lfts}
use denote.Triple.Entry.{Args, Res}
use denote.Triple.Clauses.{Ended, Clauses, Lasts, at_exit}

-- An answer to the arguments a: the result, and the final content of each buffer or number that the arguments lend.
abbrev pub FullAnswer : (T : Ended) (κs : Lfts T.signature.lifetimes) → Args T.signature κs → Type 0
FullAnswer T κs a = Res T.signature κs × Lasts T κs a

module _ {M : Type 1} (𝓤 : Ura M) (T : Ended) (c : Clauses 𝓤 T) where
  -- The contract allows the answer x: in some state, everything that the contract ensures holds of x.
  abbrev pub Allows :
      (κs : Lfts T.signature.lifetimes) (a : Args T.signature κs) →
      (c κs a).ghost →
      FullAnswer T κs a →
      Type 1
  Allows κs a g x = Sat 𝓤.op ((c κs a).ensures g x.0 (at_exit T κs a x.1))

  -- Two answers that the contract allows for the same arguments, in the same state or in two different ones, are equal.
  -- (`∥ P ∥₁` says that P holds, as `⌜ P ⌝` does in a contract.)
  abbrev pub OneAnswer : Type 1
  OneAnswer =
      (κs : Lfts T.signature.lifetimes) (a : Args T.signature κs) (g : (c κs a).ghost) (x y : FullAnswer T κs a) →
      Allows κs a g x →
      Allows κs a g y →
      ∥ x ≡ y ∥₁
