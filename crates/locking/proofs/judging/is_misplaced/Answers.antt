use Rattle.std.proofs.Common.{rules}
use Rattle.search.proofs.Chains.{any_in_slice}
use Rattle.numbers.specs.Limits.{nothing}
use Rattle.locking.specs.Steps.{is_apart}
use Rattle.locking.proofs.judging.is_misplaced.Goals as goal

pub returns : goal.returns
returns c =
    let a = c.args in
    any_in_slice (is_apart a.kinds a.naming a.r) nothing (search rules) (search rules) c.any.ensures.ran (λ x b q k. search rules)
