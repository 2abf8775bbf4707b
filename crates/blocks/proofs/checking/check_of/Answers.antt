-- `check_of` meets its contract. The loop's invariant: the plain sums over the words passed, which are of 16 bits.
-- Assumes nothing.
use mathlib.Core.Path.{◌≡◌}
use native.Mathlib.Omega.{arith}
use Rattle.blocks.specs.Check.{words}
use Rattle.blocks.proofs.PlainSums.{plain_sums_rest, check_by}
use Rattle.blocks.proofs.checking.check_of.Goals as goal

pub returns : goal.returns
returns c =
    let e : c.loop-i.i ≡ words = omega arith in
    let first = rw e at c.loop-i.invariant.2 in
    let second = rw e at c.loop-i.invariant.3 in
    let rest = plain_sums_rest c.args.block.now words in
    check_by _ _ _ (omega arith) (omega arith)
