-- `listing::put_entries` meets its contract: each turn puts one entry more.
use Prim.Native.Nat.{◌+◌, ◌*◌, ◌≤◌}
use lib.ListN.{take}
use Rattle.text.specs.Texts.{figures_text}
use Rattle.text.specs.Puts.{Put}
use Rattle.listing.proofs.put_entries.Given as goal

abbrev pub invariant-loop-entry : goal.invariant-loop-entry
invariant-loop-entry l =
    Put l.initial.out l.at (figures_text (take l.entry-index l.list)) l.out l.end × (l.end ≤ l.at + 11 * l.entry-index)
