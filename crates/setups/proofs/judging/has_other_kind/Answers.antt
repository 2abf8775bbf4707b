use borrow.Author.Rules.{rules}
use lib.Dec.{ltb}
use Rattle.input.specs.Kinds.{long}
use Rattle.setups.proofs.Chained.{any_in_taken}
use Rattle.setups.proofs.judging.has_other_kind.Goals as goal

pub returns : goal.returns
returns c = any_in_taken c.any.new.self (ltb long) 0 (search rules) (search rules) (search rules) c.any.ensures.ran (λ x b q k. search rules)
