-- A listing in a buffer that has room for it: it is not refused, and the buffer then begins with its text.
use Prim.Native.Nat.{ℕ, ◌≤◌}
use mathlib.Core.Bool.{true}
use mathlib.Core.List.{List, ◌++◌}
use mathlib.Core.Path.{◌≡◌, ap}
use native.Mathlib.Omega.{arith}
use lib.ListN.{length, take, drop, length-append}
use lib.Seq.{take-append_seam}
use Rattle.std.specs.Prelude.{Result, Ok, Err}
use Rattle.refusals.specs.declared.Refusal.{Refusal}
use Rattle.listing.specs.declared.Listed.{Listed}
use Rattle.listing.specs.Listings.{Part, has_listing_room, listed_as, listed_in, buffer_with}

module _ (out log : List ℕ) (roomy : has_listing_room (length out) log ≡ true) (p : Part) where
  pub listing_fits : {l : Listed} {after : List ℕ} → Ok l ≡ listed_in (length out) log p → after ≡ buffer_with out log p →
      (l.length ≤ length after) × ((take l.length after ≡ p.text) × (l.carried ≡ p.carried))
  unfolding listed_in buffer_with
  listing_fits {l} {after} answer buffer =
      let told : ◌≡◌ {A = Result Listed Refusal} (Ok l) (Ok (listed_as p)) = rw roomy at answer in
      let put : after ≡ p.text ++ drop (length p.text) out = rw roomy at buffer in
      let same : l ≡ listed_as p = cc in
      let size : l.length ≡ length p.text = ap (λ (x : Listed). x.length) same in
      (omega (arith, simp length-append at (ap length put), size), (rw (size, put, take-append_seam), ap (λ (x : Listed). x.carried) same))

  pub not_refused : {why : Refusal} → Err why ≡ listed_in (length out) log p → ⊥
  unfolding listed_in
  not_refused {why} answer =
      let told : ◌≡◌ {A = Result Listed Refusal} (Err why) (Ok (listed_as p)) = rw roomy at answer in
      let z : ◌≡◌ {A = ℕ} 0 1 = cc in
      omega arith
