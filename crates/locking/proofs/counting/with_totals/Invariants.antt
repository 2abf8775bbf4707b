-- The loop's invariant: the records passed have the totals of the table. Assumes nothing.
use Rattle.std.proofs.Common.{◌≡◌, ◌≤◌, ◌++◌, drop}
use Rattle.search.specs.Table.{table}
use Rattle.numbers.specs.Limits.{most_tasks}
use Rattle.locking.proofs.Totals.{record_in}
use Rattle.locking.proofs.counting.with_totals.Given as goal

abbrev pub invariant-loop-t : goal.invariant-loop-t
invariant-loop-t l = (l.t ≤ most_tasks) × (l.next ≡ table (record_in l.initial.next l.totals) l.t ++ drop l.t l.initial.next)
