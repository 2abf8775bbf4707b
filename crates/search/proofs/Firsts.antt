-- The first that passes passes, and none before it does. Assumes nothing.
use Prim.Native.Nat.{ℕ, zero, suc, ◌+◌, ◌≤◌, ◌<◌}
use mathlib.Core.Path.{◌≡◌, refl, ap, ◌∙◌}
use mathlib.Core.Bool.{Bool, true, false}
use native.Mathlib.Omega.{arith}
use native.Mathlib.Decide.{ℕ_discrete}
use Rattle.std.specs.Prelude.{if◌then◌else◌}
use Rattle.search.specs.First.{first}

-- j is the first of the n numbers from k on that passes, or k + n
pub record First (ok : ℕ → Bool) (k n j : ℕ) : Type 0 where
  pub low : k ≤ j
  pub high : j ≤ k + n
  pub before : (i : ℕ) → k ≤ i → i < j → ok i ≡ false
  pub here : j < k + n → ok j ≡ true

one_more : (ok : ℕ → Bool) (k n j : ℕ) (b : Bool) → ok k ≡ b → First ok (suc k) n j → First ok k (suc n) (if b then k else j)
one_more ok k n j true e r = record { low = omega arith; high = omega arith; before = λ i p q. absurd (omega arith); here = λ _. e }
one_more ok k n j false e r = record {
  low = omega arith;
  high = omega arith;
  before = λ i p q. elim (ℕ_discrete i k) [ yes s ↦ ap ok s ∙ e | no d ↦ r.before i (omega arith) q ];
  here = λ h. r.here (omega arith);
}

pub first_law : (ok : ℕ → Bool) (k n : ℕ) → First ok k n (first ok k n)
unfolding first
first_law ok k zero = record { low = omega arith; high = omega arith; before = λ i p q. absurd (omega arith); here = λ h. absurd (omega arith) }
first_law ok k (suc n) = one_more ok k n (first ok (suc k) n) (ok k) refl (first_law ok (suc k) n)
