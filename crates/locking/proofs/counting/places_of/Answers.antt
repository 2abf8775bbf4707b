-- Links marked, then placements over them. Assumes nothing.
use Rattle.locking.proofs.Places.{places_all}
use Rattle.locking.proofs.counting.places_of.Goals as goal

pub returns : goal.returns
returns c = rw (c.mark-2.ensures, c.mark.ensures) (places_all c.args.p)
