-- What the proofs of several functions need. Assumes nothing.
use Prim.Native.Nat.{ℕ, ◌≤◌}
use mathlib.Core.Path.{◌≡◌, sym}
use mathlib.Core.List.{List}
use native.Mathlib.Omega.{arith}
use native.Mathlib.Decide.{dec_lt}
use lib.Dec.{ltb}
use lib.ListN.{length, get_or, get_or-eq_default}
use borrow.Author.Tests.{lt-ltb, le-ltb}
use Rattle.std.specs.Prelude.{if◌then◌else◌}

-- an entry of a table of at most n places, with d past it
pub entry_below : (l : List ℕ) (t n d : ℕ) → length l ≤ n → get_or l t d ≡ (if ltb t n then get_or l t d else d)
entry_below l t n d h = elim (dec_lt t n) [
  | yes a ↦ rw (lt-ltb t n a)
  | no a ↦ rw (le-ltb t n (omega arith)) (get_or-eq_default l d (omega arith))
]
