use mathlib.Core.Path.{refl}
use Rattle.std.proofs.Common.{rules}
use Rattle.search.proofs.Chains.{all_in_slice}
use Rattle.numbers.specs.Limits.{nothing}
use Rattle.soundness.specs.Opens.{are_together}
use Rattle.soundness.proofs.named.Named.is_together.Goals as goal

pub returns : goal.returns
returns c = all_in_slice (are_together c.args.self.now.state.now c.args.a) nothing refl (search rules) c.all.ensures.ran (λ x b q k. search rules)
