-- The loop's invariant: the tasks passed are charged, by the table of places. Assumes nothing.
use Rattle.std.proofs.Common.{◌≡◌, ◌≤◌}
use Rattle.search.specs.Table.{table}
use Rattle.numbers.specs.Limits.{most_tasks}
use Rattle.locking.specs.Totals.{place_by, total_with, charged_to}
use Rattle.locking.proofs.counting.charge.Given as goal

abbrev pub invariant-loop-t : goal.invariant-loop-t
invariant-loop-t l = (l.t ≤ l.count) × (l.places ≡ table (place_by l.p) most_tasks → l.totals ≡ charged_to l.ticks l.stands (total_with l.stands l.ahead l.p) l.initial.totals l.t)
