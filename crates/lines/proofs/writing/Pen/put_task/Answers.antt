use mathlib.Core.Path.{ap}
use native.Mathlib.Omega.{arith}
use lib.ListN.{length}
use Rattle.lines.proofs.Laws.{task_none, task_some}
use Rattle.lines.proofs.writing.Pen.put_task.Goals as goal

pub put_text-requires : goal.put_text-requires
put_text-requires c = omega (arith, ap length (task_none c.if-t-eq-NOBODY.true))

pub put_number-requires : goal.put_number-requires
put_number-requires c = rw c.from.ensures (omega (arith, ap length (task_some c.if-t-eq-NOBODY.false)))

pub returns-then-t-eq-NOBODY-clause-wrote : goal.returns-then-t-eq-NOBODY-clause-wrote
returns-then-t-eq-NOBODY-clause-wrote c = rw (task_none c.if-t-eq-NOBODY.true) c.put_text.ensures.wrote

pub returns-else-t-eq-NOBODY-clause-wrote : goal.returns-else-t-eq-NOBODY-clause-wrote
returns-else-t-eq-NOBODY-clause-wrote c = rw (task_some c.if-t-eq-NOBODY.false, ← c.from.ensures) c.put_number.ensures.wrote
