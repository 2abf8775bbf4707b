-- `check_of` meets its contract. The loop's invariant: the plain sums over the words passed, which are of 16 bits.
-- Assumes nothing.
use Prim.Native.Nat.{◌≤◌}
use mathlib.Core.Path.{◌≡◌}
use Rattle.blocks.specs.Check.{words}
use Rattle.blocks.proofs.PlainSums.{AreWords, plain_sums}
use Rattle.blocks.proofs.checking.check_of.Given as goal

abbrev pub invariant-loop-i : goal.invariant-loop-i
invariant-loop-i l =
    (l.i ≤ words) × AreWords l.block l.i × (l.first ≡ (plain_sums l.block l.i).first) × (l.second ≡ (plain_sums l.block l.i).second)
