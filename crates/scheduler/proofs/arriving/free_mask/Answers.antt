-- The mask by a loop from the last processor, its highest bit, to the first. Assumes nothing.
use Rattle.std.proofs.Common.{rules, ◌≡◌, ◌+◌, ◌-◌, arith}
use Rattle.search.specs.First.{mask}
use Rattle.search.proofs.Masks.{mask_small, bit_small, byte_bit, mask_turn}
use Rattle.numbers.specs.Limits.{most_processors}
use Rattle.scheduler.specs.Arriving.{is_free}
use Rattle.scheduler.proofs.arriving.free_mask.Goals as goal

pub loop-k-init : goal.loop-k-init
unfolding mask
loop-k-init c = search rules

pub overflow_mul-free : goal.overflow_mul-free
overflow_mul-free c = omega (arith, mask_small most_processors (is_free c.args.p) c.loop-k.k (most_processors - c.loop-k.k) (omega arith))

pub overflow_add-free : goal.overflow_add-free
overflow_add-free c = omega (
  arith,
  mask_small most_processors (is_free c.args.p) c.loop-k.k (most_processors - c.loop-k.k) (omega arith),
  byte_bit c.is_free.result,
  bit_small c.is_free.result,
)

pub loop-k-preserved : goal.loop-k-preserved
loop-k-preserved c =
    let back : c.loop-k.k - 1 + 1 ≡ c.loop-k.k = omega arith in
    let left : most_processors - (c.loop-k.k - 1) ≡ most_processors - c.loop-k.k + 1 = omega arith in (
      omega arith,
      rw (left, mask_turn, back, c.from.ensures, byte_bit, c.is_free.ensures, c.loop-k.invariant.1),
    )

pub returns : goal.returns
returns c =
    let e : c.loop-k.k ≡ 0 = omega arith in
    rw e at c.loop-k.invariant.1
