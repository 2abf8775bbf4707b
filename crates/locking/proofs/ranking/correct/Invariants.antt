-- The loop's invariant: the counts of the suspended tasks passed are corrected. Assumes nothing.
use Rattle.std.proofs.Common.{◌≤◌}
use Rattle.locking.proofs.Ahead.{Corrected}
use Rattle.locking.proofs.ranking.correct.Given as goal

abbrev pub invariant-loop-u : goal.invariant-loop-u
invariant-loop-u l = (l.u ≤ l.count) × Corrected l.stands l.own l.count l.t l.was l.before l.u l.ahead
