use borrow.Author.Rules.{rules}
use Rattle.search.specs.Words.{◌is◌}
use Rattle.setups.proofs.Chained.{any_in_taken}
use Rattle.setups.proofs.judging.has_zero_period.Goals as goal

pub returns : goal.returns
returns c = any_in_taken c.any.new.self (λ x. x is 0) 0 (search rules) (search rules) (search rules) c.any.ensures.ran (λ x b q k. search rules)
