-- The mask by a loop from the last processor, its highest bit, to the first. Assumes nothing.
use Prim.Native.Nat.{◌≤◌, ◌-◌}
use mathlib.Core.Path.{◌≡◌}
use Rattle.search.specs.First.{mask}
use Rattle.numbers.specs.Limits.{most_processors}
use Rattle.scheduler.specs.Arriving.{is_free}
use Rattle.scheduler.proofs.arriving.free_mask.Given as goal

abbrev pub invariant-loop-k : goal.invariant-loop-k
invariant-loop-k l = (l.k ≤ most_processors) × (l.free ≡ mask (is_free l.p) l.k (most_processors - l.k))
