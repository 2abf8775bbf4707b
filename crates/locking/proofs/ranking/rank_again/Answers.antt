-- The counts are right but for the changed task, corrected, and counted for it. Assumes nothing.
use Rattle.std.proofs.Common.{arith}
use Rattle.locking.proofs.Ahead.{ranked_but, ranked_counted, ranked_awake}
use Rattle.locking.proofs.ranking.rank_again.Goals as goal

pub correct-requires : goal.correct-requires
correct-requires c =
    let p = c.requires.1 c.if-not-again.false in
    (p.0, p.1, p.2, p.3, rw (c.stand_of-was.ensures, c.own_rank-before.ensures) (ranked_but _ _ _ _ _ p.4))

pub returns-then-stands-i-eq-SUSPENDED : goal.returns-then-stands-i-eq-SUSPENDED
returns-then-stands-i-eq-SUSPENDED c =
    let a = c.args in
    let p = c.requires.1 c.if-not-again.false in
    rw c.ahead_of.ensures (ranked_counted a.stands.now a.own.now a.count a.t _ (omega (arith, p.0, p.1)) c.correct.ensures)

pub returns-else-stands-i-eq-SUSPENDED : goal.returns-else-stands-i-eq-SUSPENDED
returns-else-stands-i-eq-SUSPENDED c =
    let a = c.args in
    ranked_awake a.stands.now a.own.now a.count a.t _ c.if-stands-i-eq-SUSPENDED.false c.correct.ensures
