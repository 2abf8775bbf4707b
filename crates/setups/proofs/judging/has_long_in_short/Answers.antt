use borrow.Author.Rules.{rules}
use mathlib.Core.Bool.{◌&&◌}
use Rattle.search.specs.Words.{◌is◌}
use Rattle.input.specs.Kinds.{short, long}
use Rattle.input.specs.Words.{kind}
use Rattle.setups.proofs.Chained.{any_in_pairs}
use Rattle.setups.proofs.judging.has_long_in_short.Goals as goal

pub returns : goal.returns
returns c =
    let s = c.args.setup.now in
    any_in_pairs c.any.new.self (λ a b. kind s a is short && kind s b is long) 0 (search rules) (search rules) (search rules) (search rules) (search rules) c.any.ensures.ran (λ x b q k. search rules)
