-- `become_preemptable` follows `becoming_preemptable`. Assumes nothing.
use borrow.Author.Rules.{rules}
use Rattle.scheduler.proofs.Equations.{becoming_preemptable_is}
use Rattle.plain.proofs.moving.become_preemptable.Goals as goal

pub returns-then-is_awaited : goal.returns-then-is_awaited
returns-then-is_awaited c = search (rules, becoming_preemptable_is)

pub returns-else-k-lt-LIMIT : goal.returns-else-k-lt-LIMIT
returns-else-k-lt-LIMIT c = search (rules, becoming_preemptable_is)
