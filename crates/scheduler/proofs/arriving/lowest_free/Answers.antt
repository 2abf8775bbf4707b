-- The lowest bit of the mask is the processor that `lowest_free` finds. Assumes nothing.
use mathlib.Core.Path.{sym}
use native.Mathlib.Omega.{arith}
use Rattle.search.proofs.Masks.{mask_some, mask_none}
use Rattle.numbers.specs.Limits.{most_processors}
use Rattle.scheduler.specs.Arriving.{is_free, lowest_free}
use Rattle.scheduler.proofs.arriving.lowest_free.Goals as goal

pub overflow_cast-result : goal.overflow_cast-result
overflow_cast-result c = omega (arith, mask_some (is_free c.args.p) 32 most_processors _ (omega arith) c.free_mask-free.ensures c.if-free-gt0.true)

pub returns-then-free-gt0 : goal.returns-then-free-gt0
unfolding lowest_free
returns-then-free-gt0 c = (mask_some (is_free c.args.p) 32 most_processors _ (omega arith) c.free_mask-free.ensures c.if-free-gt0.true).1

pub returns-else-free-gt0 : goal.returns-else-free-gt0
unfolding lowest_free
returns-else-free-gt0 c = sym (mask_none (is_free c.args.p) most_processors _ c.free_mask-free.ensures c.if-free-gt0.false)
