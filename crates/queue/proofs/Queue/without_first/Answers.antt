-- `Queue::without_first` meets its contract. Assumes nothing.
use Rattle.std.proofs.Common.{rules}
use borrow.Author.Tests.{lt-ltb, le-ltb}
use Rattle.queue.specs.Waiting.{without_first, moved_up}
use Rattle.queue.proofs.Lists.{turned}
use Rattle.queue.proofs.Queue.without_first.Goals as goal

pub returns-then-self-eq0 : goal.returns-then-self-eq0
unfolding without_first
returns-then-self-eq0 c = rw (le-ltb 0 c.args.self.len (search rules))

pub returns : goal.returns
unfolding without_first moved_up
returns c = rw (lt-ltb 0 c.args.self.len (search rules), c.rotate_left.ensures.after, turned c.args.self.tasks 255 (search rules))
