use borrow.Author.Rules.{rules}
use Rattle.setups.specs.Refusals.{is_stray_pair}
use Rattle.setups.proofs.Chained.{any_in_pairs}
use Rattle.setups.proofs.judging.has_stray_pair.Goals as goal

pub returns : goal.returns
returns c =
    let n = c.args.setup.now.resources in
    any_in_pairs c.any.new.self (is_stray_pair n) 0 (search rules) (search rules) (search rules) (search rules) (search rules) c.any.ensures.ran (λ x b q k. search rules)
