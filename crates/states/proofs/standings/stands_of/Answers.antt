use borrow.Author.Rules.{rules}
use lib.ListN.{get_or}
use Rattle.protocol.specs.Words.{standing_no}
use Rattle.protocol.specs.Records.{no_task}
use Rattle.search.proofs.Chains.{made_table}
use Rattle.states.proofs.Tables.{task_read}
use Rattle.states.proofs.standings.stands_of.Goals as goal

pub returns : goal.returns
returns c =
    made_table {h = λ t. standing_no (get_or c.args.tasks t no_task).standing} c.from_fn.ensures.items
    (λ x y q k. (search rules, λ l. let r = task_read c.args.tasks x (search rules) in rw (← r) (search rules)))
