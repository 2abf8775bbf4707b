-- `Queue::waiter` meets its contract. Assumes nothing.
use Rattle.std.proofs.Common.{rules, sym, ◌∙◌}
use lib.Seq.{get_or-take}
use Rattle.numbers.specs.Limits.{nobody}
use Rattle.queue.specs.Waiting.{waiting, waiter}
use Rattle.queue.proofs.Lists.{take_past}
use Rattle.queue.proofs.Queue.waiter.Goals as goal

pub returns-then-i-self : goal.returns-then-i-self
unfolding waiter waiting
returns-then-i-self c =
    let q = c.args.self in
    c.number_at.ensures ∙ sym (get_or-take q.len q.tasks c.args.i nobody (search rules))

pub returns-else-i-self : goal.returns-else-i-self
unfolding waiter waiting
returns-else-i-self c = sym (take_past c.args.self.len c.args.self.tasks c.args.i nobody (search rules))
