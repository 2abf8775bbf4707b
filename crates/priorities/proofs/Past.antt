-- What is read of a queue past its capacity: nobody. Assumes nothing.
use Prim.Native.Nat.{ℕ, zero, suc, ◌≤◌, ◌<◌, min}
use native.Mathlib.Nat.{not-suc-le-zero}
use native.Mathlib.Omega.{arith}
use native.Mathlib.Decide.{ℕ_discrete, dec_lt}
use mathlib.Core.Path.{◌≡◌, sym, ap, ◌∙◌}
use lib.ListN.{length, length-take, get_or-eq_default}
use Rattle.queue.specs.Limits.{capacity}
use Rattle.queue.specs.Waiting.{waiting, waiter}
use Rattle.queue.specs.declared.Queue.{Queue}
use Rattle.numbers.specs.Limits.{nobody}
use Rattle.protocol.specs.Ranks.{least_of}

-- nobody waits past the places
past_places : (q : Queue) (i : ℕ) → length q.tasks ≤ i → waiter q i ≡ nobody
unfolding waiter waiting
past_places q i h = get_or-eq_default (waiting q) nobody (simp length-take (omega arith))

-- the least of f, which is the same from k on
steady_least : (f : ℕ → ℕ) (k a : ℕ) → ((i : ℕ) → k ≤ i → f i ≡ f k) → (n : ℕ) → k < n → least_of f n a ≡ least_of f (suc k) a
unfolding least_of
steady_least f k a same zero h = absurd (not-suc-le-zero h)
steady_least f k a same (suc n) h = elim (ℕ_discrete n k) [
  | yes e ↦ rw e
  | no d ↦ omega (arith, same n (omega arith), steady_least f k a same n (omega arith))
]

-- the waiters of a queue, whatever its length, read to one place past the capacity
pub least_read : (q : Queue) → length q.tasks ≡ capacity → (f : ℕ → ℕ) (a : ℕ)
    → least_of (λ i. f (waiter q i)) (min q.len (suc capacity)) a ≡ least_of (λ i. f (waiter q i)) q.len a
least_read q sized f a = elim (dec_lt capacity q.len) [
  | yes h ↦
      let e : min q.len (suc capacity) ≡ suc capacity = omega arith in
      rw e (sym (steady_least (λ i. f (waiter q i)) capacity a (λ i l. ap f (past_places q i (omega arith) ∙ sym (past_places q capacity (omega arith)))) q.len h))
  | no n ↦
      let e : min q.len (suc capacity) ≡ q.len = omega arith in
      rw e
]
