-- `side_in` meets its contract: each place of the table is read. Assumes nothing.
use borrow.Author.Rules.{rules}
use Rattle.search.proofs.Chains.{made_table}
use Rattle.input.specs.Layout.{side_in}
use Rattle.input.proofs.reading.side_in.Goals as goal

pub returns : goal.returns
unfolding side_in
returns c = made_table c.from_fn.ensures.items (λ x y q k. search rules)
