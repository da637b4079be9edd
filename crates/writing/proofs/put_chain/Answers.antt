-- `writing::put_chain` meets its contract: three places put into zeros, one after the other, are the chain.
use Prim.Native.Nat.{ℕ}
use mathlib.Core.Path.{ap, ◌∙◌}
use mathlib.Core.List.{List}
use Rattle.writing.specs.ChainWriting.{put_place_at}
use Rattle.writing.proofs.ChainWriteLaws.{places_together}
use Rattle.writing.proofs.put_chain.Goals as goal

pub returns : goal.returns
returns c =
    let chain = c.args.c in
    let master = c.put_place.ensures ∙ ap (λ (s : List ℕ). put_place_at s 0 chain.master) c.requires in
    let a = c.put_place-2.ensures ∙ ap (λ (s : List ℕ). put_place_at s 8 chain.a) master in
    c.put_place-3.ensures ∙ ap (λ (s : List ℕ). put_place_at s 16 chain.b) a ∙ places_together chain
