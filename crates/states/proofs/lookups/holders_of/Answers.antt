use borrow.Author.Rules.{rules}
use lib.ListN.{get_or}
use Rattle.protocol.specs.Records.{no_group}
use Rattle.search.proofs.Chains.{made_table}
use Rattle.states.proofs.Tables.{group_read}
use Rattle.states.proofs.lookups.holders_of.Goals as goal

pub returns : goal.returns
returns c =
    made_table {h = λ g. (get_or c.args.groups g no_group).holder} c.from_fn.ensures.items
    (λ x y q k. (search rules, λ l. let r = group_read c.args.groups x (search rules) in rw (← r) (search rules)))
