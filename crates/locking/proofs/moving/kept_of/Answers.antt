use Rattle.locking.proofs.moving.kept_of.Goals as goal

pub returns : goal.returns
returns c = rw (c.own_ranks.ensures, c.modes_of.ensures, c.stands_of.ensures)
