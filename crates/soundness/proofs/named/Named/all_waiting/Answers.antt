use Rattle.std.proofs.Common.{rules}
use Rattle.search.proofs.Chains.{all_in_range}
use Rattle.soundness.proofs.named.Named.all_waiting.Goals as goal

pub returns : goal.returns
returns c = all_in_range c.all.ensures.ran (λ x b q k. search rules)
