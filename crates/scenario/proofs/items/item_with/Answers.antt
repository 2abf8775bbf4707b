-- A task's period. Assumes nothing.
use Rattle.scenario.specs.Items.{entry_at}
use Rattle.scenario.specs.Reads.{said_with, said_by}
use Rattle.scenario.proofs.items.item_with.Goals as goal

pub returns-in_ok-period-in-Task : goal.returns-in_ok-period-in-Task
unfolding said_with said_by entry_at
returns-in_ok-period-in-Task c = rw (c.in-Task.is, c.in_ok-period-in-Task.ensures.word, c.period.ensures.rest)
