-- A snapshot is written where there is room for all of it, and not at all otherwise. Assumes nothing.
use mathlib.Core.Path.{◌≡◌}
use native.Mathlib.Omega.{arith}
use Prim.Native.Nat.{◌+◌}
use lib.ListN.{length}
use Rattle.states.specs.Writing.{snapshot_size}
use Rattle.states.proofs.Writing.{written_part, put_whole, put_none}
use Rattle.states.proofs.snapshots.put_snapshot.Goals as goal

pub returns-in-Some : goal.returns-in-Some
returns-in-Some c =
    let a = c.args in
    let n : length a.snapshot ≡ snapshot_size = omega arith in
    let end : c.in-Some.end ≡ a.at + length a.snapshot = omega (arith, c.in-Some.ensures) in
    rw (end, written_part a.out.now a.at a.snapshot c.copy_from_slice.new.self (omega arith) c.copy_from_slice.ensures.after) (put_whole a.out.now a.at a.snapshot (omega arith))

pub returns-in_default : goal.returns-in_default
returns-in_default c = put_none _ _ _ (omega (arith, c.in-Some.ensures))

pub returns-in_default-2 : goal.returns-in_default-2
returns-in_default-2 c = put_none _ _ _ (omega (arith, c.in_default.ensures))
