use borrow.Author.Rules.{rules}
use Rattle.setups.specs.Clearing.{cleared}
use Rattle.setups.proofs.Lists.{below_front}
use Rattle.numbers.specs.Limits.{most_tasks, most_resources, most_pairs}
use Rattle.setups.proofs.clearing.clear.Goals as goal

pub returns : goal.returns
unfolding cleared
returns c =
    let s = c.args.setup in
    let periods = below_front s.tasks most_tasks s.periods (search rules) in
    let kinds = below_front s.resources most_resources s.kinds (search rules) in
    let outer = below_front s.pairs most_pairs s.outer (search rules) in
    let inner = below_front s.pairs most_pairs s.inner (search rules) in
    rw (c.clear_from.ensures, c.clear_from-2.ensures, c.clear_from-3.ensures, c.clear_from-4.ensures, periods, kinds, outer, inner)
