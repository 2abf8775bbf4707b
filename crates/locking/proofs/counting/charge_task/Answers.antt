-- The total is one of the task's row, where the ticks fit. Assumes nothing.
use Rattle.std.proofs.Common.{arith}
use Rattle.locking.proofs.counting.charge_task.Goals as goal

pub bounds-totals-k : goal.bounds-totals-k
bounds-totals-k c = omega (arith, c.requires.0, c.requires.1.whole, c.requires.1.inside)

pub overflow_add-totals : goal.overflow_add-totals
overflow_add-totals c = omega (arith, c.requires.1.fits c.args.total c.requires.0)

pub bounds-totals-k-2 : goal.bounds-totals-k-2
bounds-totals-k-2 c = omega (arith, c.requires.0, c.requires.1.whole, c.requires.1.inside)
