-- The loop's invariant: those ahead of the suspended tasks passed are counted. Assumes nothing.
use Rattle.std.proofs.Common.{◌≤◌}
use Rattle.numbers.specs.Limits.{most_tasks}
use Rattle.locking.proofs.Ahead.{RankedTo}
use Rattle.locking.proofs.ranking.all_ahead.Given as goal

abbrev pub invariant-loop-t : goal.invariant-loop-t
invariant-loop-t l = (l.t ≤ l.tasks) × (l.tasks ≤ most_tasks) × RankedTo l.stands l.own l.tasks l.t l.ahead
