-- The last linked one stands among those that are left. Assumes nothing.
use Prim.Native.Nat.{ℕ, zero, suc, ◌-◌, ◌<◌}
use mathlib.Core.Path.{◌≡◌, ◌∙◌}
use native.Mathlib.Omega.{arith}
use lib.Dec.{ltb}
use borrow.Author.Tests.{lt-ltb, le-ltb}
use Rattle.std.specs.Prelude.{if◌then◌else◌}
use Rattle.numbers.specs.Limits.{most_processors}
use Rattle.processors.specs.Words.{link_of}
use Rattle.processors.specs.declared.Processors.{Processors}
use Rattle.plain.specs.Orders.{task_at}
use Rattle.plain.specs.Reading.{lowest_in}
use Rattle.plain.specs.declared.Order.{Order}
use Rattle.plain.proofs.moving.OrderedJobs.lowest_linked.Goals as goal

-- the last of the first i, then those before it
turn : (o : Order) (p : Processors) (i : ℕ) → 0 < i
    → lowest_in o p i ≡ (if ltb (link_of p (task_at o (i - 1))) most_processors then link_of p (task_at o (i - 1)) else lowest_in o p (i - 1))
unfolding lowest_in
turn o p zero h = absurd (omega arith)
turn o p (suc i) h = let back : suc i - 1 ≡ i = omega arith in rw back

pub returns-then-k-lt-LIMIT : goal.returns-then-k-lt-LIMIT
returns-then-k-lt-LIMIT c = rw (c.loop-i.invariant, turn _ _ c.loop-i.i c.loop-i-test.true, ← c.task_at.ensures, ← c.link_of-k.ensures, lt-ltb _ _ c.if-k-lt-LIMIT.true)

pub loop-i-preserved : goal.loop-i-preserved
loop-i-preserved c = c.loop-i.invariant ∙ rw (turn _ _ c.loop-i.i c.loop-i-test.true, ← c.task_at.ensures, ← c.link_of-k.ensures, le-ltb _ _ c.if-k-lt-LIMIT.false)

pub returns : goal.returns
unfolding lowest_in
returns c = let none : c.loop-i.i ≡ 0 = omega arith in rw (c.loop-i.invariant, none)
