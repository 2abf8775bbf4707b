-- The loop's invariant: the totals passed are in the table. Assumes nothing.
use Rattle.std.proofs.Common.{◌≡◌, ◌≤◌, ◌++◌, drop}
use Rattle.search.specs.Table.{table}
use Rattle.locking.specs.Totals.{all_totals}
use Rattle.locking.proofs.Totals.{total_in}
use Rattle.locking.proofs.counting.totals_of.Given as goal

abbrev pub invariant-loop-k : goal.invariant-loop-k
invariant-loop-k l = (l.k ≤ all_totals) × (l.totals ≡ table (total_in l.tasks) l.k ++ drop l.k l.initial.totals)
