use mathlib.Core.Path.{refl}
use Rattle.std.proofs.Common.{rules}
use Rattle.search.specs.Words.{◌isn't◌}
use Rattle.search.proofs.Chains.{all_in_slice}
use Rattle.input.specs.Words.{kind as kind_of}
use Rattle.numbers.specs.Limits.{nothing}
use Rattle.soundness.proofs.named.Named.has_none_of.Goals as goal

pub returns : goal.returns
returns c = all_in_slice (λ r. kind_of c.args.self.now.state.now.setup r isn't c.args.kind) nothing refl (search rules) c.all.ensures.ran (λ x b q k. search rules)
