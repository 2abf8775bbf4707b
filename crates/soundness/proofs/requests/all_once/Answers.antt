use Rattle.std.proofs.Common.{rules}
use Rattle.search.proofs.Chains.{all_in_range}
use Rattle.soundness.proofs.requests.all_once.Goals as goal

pub returns : goal.returns
returns c = all_in_range c.all.ensures.ran (λ x b q k. search rules)
