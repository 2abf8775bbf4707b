use mathlib.Core.Path.{◌∙◌}
use borrow.Author.Rules.{rules}
use lib.ListN.{get_or}
use Rattle.search.specs.Words.{◌is◌}
use Rattle.search.proofs.Chains.{any_in_range}
use Rattle.numbers.specs.Limits.{nothing}
use Rattle.states.proofs.Tables.{kind_read}
use Rattle.states.proofs.lookups.has_kind.Goals as goal

pub returns : goal.returns
returns c =
    let a = c.args in
    (rw c.min.ensures at (any_in_range {ok = λ i. get_or a.kinds (get_or a.requests i nothing) 0 is a.kind} c.any.ensures.ran (λ x b q k. search rules)))
    ∙ kind_read a.kinds a.requests a.depth a.kind (search rules)
