-- What is left and what is added, by the branches taken. Assumes nothing.
use Rattle.std.proofs.Common.{arith}
use Rattle.locking.proofs.ranking.corrected.Goals as goal
use Rattle.locking.proofs.ranking.corrected.Goals.{else-lost, then-lost}

pub overflow_sub-rest : goal.overflow_sub-rest
overflow_sub-rest c = omega (arith, c.requires.0 c.if-lost.true)

pub overflow_add-result : goal.overflow_add-result
overflow_add-result c = elim c.if-lost.branch [ then-lost w ↦ omega (arith, w.rest-is, c.requires.1) | else-lost w ↦ omega (arith, w.rest-is, c.requires.1) ]

pub returns-then-won : goal.returns-then-won
returns-then-won c = elim c.if-lost.branch [ then-lost w ↦ rw (c.if-won.true, w.if-lost.true, w.rest-is) (omega arith) | else-lost w ↦ rw (c.if-won.true, w.if-lost.false, w.rest-is) (omega arith) ]

pub returns-else-won : goal.returns-else-won
returns-else-won c = elim c.if-lost.branch [ then-lost w ↦ rw (c.if-won.false, w.if-lost.true, w.rest-is) (omega arith) | else-lost w ↦ rw (c.if-won.false, w.if-lost.false, w.rest-is) (omega arith) ]
