-- By the name of the resource's group. Assumes nothing.
use borrow.Author.Rules.{rules}
use Rattle.setups.specs.Naming.{group_of}
use Rattle.plain.proofs.stepping.holder_of.Goals as goal

pub returns : goal.returns
unfolding group_of
returns c = search rules
