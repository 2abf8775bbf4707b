-- The order that the code computes is that of the empty state. Assumes nothing.
use Rattle.plain.proofs.Sessions.{empty_order}
use Rattle.plain.proofs.stepping.empty.Goals as goal

pub returns : goal.returns
returns c = rw (c.order_of.ensures, c.empty-state.ensures, empty_order)
