-- Parts of a word as the code takes them.
use Prim.Native.Nat.{ℕ, ◌-◌}
use mathlib.Core.Path.{◌≡◌}
use mathlib.Core.Bool.{false}
use mathlib.Core.List.{List}
use native.Mathlib.Omega.{arith}
use lib.ListN.{length, take, drop, length-drop}
use lib.Seq.{take_all}
use Rattle.parsing.specs.Numbers.{is_below, size_in}

-- All bytes from one on.
pub part_last : (w : List ℕ) (k : ℕ) → take (length w - k) (drop k w) ≡ drop k w
part_last w k = take_all (length w - k) (drop k w) (omega (arith, length-drop k w))

-- A word without a minus sign is its own size.
pub size_plain : (w : List ℕ) → is_below w ≡ false → size_in w ≡ w
size_plain w e = rw (e)
