use mathlib.Core.Path.{◌≡◌}
use lib.ListN.{get_or}
use borrow.Author.Rules.{rules}
use Rattle.numbers.specs.Limits.{nothing}
use Rattle.setups.specs.Naming.{merged}
use Rattle.setups.proofs.Chained.{mapped}
use Rattle.setups.proofs.grouping.join.Goals as goal

pub returns : goal.returns
returns c =
    let s = c.args in
    let a : c.number_at-a.result ≡ get_or s.names s.outer nothing = search rules in
    let b : c.number_at-b.result ≡ get_or s.names s.inner nothing = search rules in
    rw (← a, ← b) (mapped (merged c.number_at-a.result c.number_at-b.result) 0 (search rules) c.map.ensures.items (λ x y q k. search rules))
