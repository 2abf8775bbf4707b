use Rattle.std.proofs.Common.{rules, ◌∙◌}
use Rattle.search.specs.Words.{◌is◌}
use Rattle.search.proofs.Chains.{position_in_slice}
use Rattle.numbers.specs.Limits.{nobody}
use Rattle.processors.proofs.finding.place_of.Goals as goal

pub returns : goal.returns
returns c =
    c.unwrap_or.ensures
    ∙ position_in_slice (λ x. x is c.args.t) nobody (search rules) (search rules) c.position.ensures.ran (λ x b q k. search rules)
