use Rattle.std.proofs.Common.{rules}
use Rattle.search.proofs.Chains.{made_table}
use Rattle.locking.proofs.counting.row_of.Goals as goal

pub returns : goal.returns
returns c = made_table c.from_fn.ensures.items (λ x y q k. search rules)
