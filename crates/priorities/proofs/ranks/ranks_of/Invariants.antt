-- The loop's invariant: the ranks tell who is raised by the groups passed. Assumes nothing.
use Prim.Native.Nat.{◌≤◌, ◌-◌}
use mathlib.Core.Path.{◌≡◌}
use Rattle.search.specs.Table.{table}
use Rattle.numbers.specs.Limits.{most_tasks, most_resources}
use Rattle.priorities.proofs.Ruled.{rank_from}
use Rattle.priorities.proofs.ranks.ranks_of.Given as goal

abbrev pub invariant-loop-g : goal.invariant-loop-g
invariant-loop-g l = (l.count ≤ most_resources) × (l.ranks ≡ table (rank_from l.own l.kinds l.groups l.g (l.count - l.g)) most_tasks)
