-- `put_block` meets its contract. Assumes nothing.
use Rattle.std.proofs.Common.{rules, refl}
use Rattle.blocks.specs.Check.{words}
use Rattle.blocks.proofs.Sums.{sums_below}
use Rattle.writer.proofs.Checked.{three_copies}
use Rattle.writer.proofs.sealing.put_block.Goals as goal

pub check_bytes-check-requires-clause-first : goal.check_bytes-check-requires-clause-first
check_bytes-check-requires-clause-first c = rw c.check_of.ensures (sums_below _ words).0

pub check_bytes-check-requires-clause-second : goal.check_bytes-check-requires-clause-second
check_bytes-check-requires-clause-second c = rw c.check_of.ensures (sums_below _ words).1

pub returns : goal.returns
returns c =
    let s = c.args in
    rw (c.copy_from_slice.ensures.after, c.copy_from_slice-2.ensures.after)
    (three_copies s.head s.payload (search rules) (search rules) s.out.now c.requires _ (rw (c.copy_from_slice-3.ensures.after, c.check_bytes-check.ensures, c.check_of.ensures, c.copy_from_slice.ensures.after, c.copy_from_slice-2.ensures.after) refl))
