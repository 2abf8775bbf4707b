use Rattle.locking.proofs.moving.keep.Goals as goal

pub returns : goal.returns
returns c = rw (c.own_rank.ensures, c.mode_in.ensures, c.stand_of.ensures)
