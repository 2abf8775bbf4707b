-- `is_reserve_blank` meets its contract. Assumes nothing.
use Rattle.std.proofs.Common.{rules}
use Rattle.search.proofs.Chains.{all_in_range}
use Rattle.blocks.proofs.kinds.is_reserve_blank.Goals as goal

pub returns : goal.returns
returns c = rw (← c.from.ensures) (all_in_range c.all.ensures.ran (λ i b q k. search rules))
