use Rattle.std.proofs.Common.{arith}
use Rattle.std.proofs.lemmas.Grind.{common_steps}
use Rattle.search.proofs.Chains.{all_in_range}
use Rattle.soundness.proofs.named.Named.all_longs_first.Goals as goal

pub returns : goal.returns
returns c = all_in_range c.all.ensures.ran (λ x b q k. grind (arith, common_steps))
