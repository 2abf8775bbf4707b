-- `total_by` meets its contract. Assumes nothing.
use Rattle.std.proofs.Common.{le-ltb, lt-ltb, eq-eqb, ne_eqb}
use Rattle.locking.proofs.counting.total_by.Goals as goal

pub returns-then-ahead-processors : goal.returns-then-ahead-processors
returns-then-ahead-processors c = rw (eq-eqb _ _ c.if-stand-eq-SUSPENDED.true, lt-ltb _ _ c.if-ahead-processors.true)

pub returns-else-ahead-processors : goal.returns-else-ahead-processors
returns-else-ahead-processors c = rw (eq-eqb _ _ c.if-stand-eq-SUSPENDED.true, le-ltb _ _ c.if-ahead-processors.false)

pub returns-then-stand-place : goal.returns-then-stand-place
returns-then-stand-place c = rw (ne_eqb _ _ c.if-stand-eq-SUSPENDED.false, c.if-stand-place.true)

pub returns-else-stand-place : goal.returns-else-stand-place
returns-else-stand-place c = rw (ne_eqb _ _ c.if-stand-eq-SUSPENDED.false, c.if-stand-place.false)
