-- An empty queue raises nobody. Assumes nothing.
use borrow.Author.Rules.{rules}
use Rattle.search.proofs.Chains.{made_table}
use Rattle.search.proofs.Tables.{table_of}
use Rattle.numbers.specs.Limits.{most_tasks}
use Rattle.protocol.specs.Ranks.{least_of}
use Rattle.priorities.specs.Bounds.{rank_before}
use Rattle.priorities.proofs.ranks.unraised.Goals as goal

pub returns-then-queue-eq0 : goal.returns-then-queue-eq0
unfolding least_of
returns-then-queue-eq0 c =
    let own = c.args.own in
    table_of (rank_before own c.args.queue) own most_tasks 0 (search rules) (λ t h. rw c.if-queue-eq0.true)

pub returns : goal.returns
returns c = made_table {h = rank_before c.args.own c.args.queue} c.from_fn.ensures.items (λ x y q k. search rules)
