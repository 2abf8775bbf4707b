-- The last linked one stands among those that are left. Assumes nothing.
use mathlib.Core.Path.{◌≡◌}
use Rattle.plain.specs.Reading.{lowest_in}
use Rattle.plain.proofs.moving.OrderedJobs.lowest_linked.Given as goal

abbrev pub invariant-loop-i : goal.invariant-loop-i
invariant-loop-i l = lowest_in l.self.order l.p l.self.order.pending ≡ lowest_in l.self.order l.p l.i
