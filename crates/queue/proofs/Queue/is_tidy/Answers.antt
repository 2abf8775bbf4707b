-- `Queue::is_tidy` meets its contract. Assumes nothing.
use Rattle.std.proofs.Common.{rules}
use borrow.Author.Tests.{le-leb, lt-leb}
use Rattle.search.proofs.Chains.{all_in_range}
use Rattle.queue.specs.Limits.{capacity}
use Rattle.queue.specs.Waiting.{is_tidy}
use Rattle.queue.proofs.Queue.is_tidy.Goals as goal

pub returns-then-fits : goal.returns-then-fits
unfolding is_tidy
returns-then-fits c = rw (le-leb c.args.self.len capacity (search rules)) (all_in_range c.all.ensures.ran (λ x b q k. search rules))

pub returns-else-fits : goal.returns-else-fits
unfolding is_tidy
returns-else-fits c = rw (lt-leb c.args.self.len capacity (search rules))
