use borrow.Author.Rules.{rules}
use Rattle.search.proofs.Chains.{made_table}
use Rattle.setups.proofs.grouping.each_alone.Goals as goal

pub returns : goal.returns
returns c = made_table {h = λ i. i} c.from_fn.ensures.items (λ x y q k. search rules)
