use Rattle.setups.proofs.Lists.{front_kept}
use borrow.Author.Rules.{rules}
use Rattle.setups.proofs.clearing.clear_from.Goals as goal

pub returns : goal.returns
returns g c = rw (c.copy_from_slice.ensures.after, c.min-kept.ensures) (front_kept c.args.places.now c.args.count g.row.N c.args.zero (search rules))
