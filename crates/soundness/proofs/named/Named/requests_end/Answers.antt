use Rattle.std.proofs.Common.{arith}
use Rattle.std.proofs.lemmas.Grind.{common_steps}
use Rattle.search.proofs.Chains.{all_in_range}
use Rattle.protocol.specs.Words.{depth, request}
use Rattle.soundness.proofs.named.Named.requests_end.Goals as goal

pub returns : goal.returns
unfolding depth request
returns c = all_in_range c.all.ensures.ran (λ x b q k. grind (arith, common_steps))
