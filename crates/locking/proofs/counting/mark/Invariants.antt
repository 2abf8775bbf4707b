-- The loop's invariant: the tasks of the processors passed are marked. Assumes nothing.
use Rattle.std.proofs.Common.{◌≤◌}
use Rattle.numbers.specs.Limits.{most_processors}
use Rattle.locking.proofs.Places.{Marked}
use Rattle.locking.proofs.counting.mark.Given as goal

abbrev pub invariant-loop-k : goal.invariant-loop-k
invariant-loop-k l = (l.k ≤ most_processors) × Marked l.place l.tasks l.initial.places l.k l.places
