-- A kind other than short is taken for long. Assumes nothing.
use Rattle.std.proofs.Common.{◌≡◌, ℕ, zero, suc, refl}
use Rattle.protocol.specs.Locks.{lock_of}
use Rattle.protocol.specs.declared.Lock.TheVariants.{Long}
use Rattle.locking.proofs.edits.lock_of.Goals as goal

long_lock : (kind r : ℕ) → (kind ≡ 0 → ⊥) → Long r ≡ lock_of kind r
long_lock zero r h = absurd (h refl)
long_lock (suc k) r h = refl

pub returns-then-kind-eq-SHORT : goal.returns-then-kind-eq-SHORT
returns-then-kind-eq-SHORT c = rw c.if-kind-eq-SHORT.true

pub returns-else-kind-eq-SHORT : goal.returns-else-kind-eq-SHORT
returns-else-kind-eq-SHORT c = long_lock _ _ c.if-kind-eq-SHORT.false
