use borrow.Author.Rules.{rules}
use lib.ListN.{get_or}
use Rattle.protocol.specs.Records.{no_task}
use Rattle.search.proofs.Chains.{made_table}
use Rattle.states.proofs.Tables.{task_read}
use Rattle.priorities.specs.Bounds.{mode_in}
use Rattle.priorities.proofs.ranks.modes_of.Goals as goal

pub returns : goal.returns
returns c =
    made_table {h = λ t. mode_in c.args.kinds (get_or c.args.tasks t no_task)} c.from_fn.ensures.items
    (λ x y q k. (search rules, λ l. let r = task_read c.args.tasks x (search rules) in rw (← r) (search rules)))
