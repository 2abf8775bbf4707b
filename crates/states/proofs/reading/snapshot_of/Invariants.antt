use Prim.Native.Nat.{◌≤◌}
use mathlib.Core.Path.{◌≡◌}
use Rattle.numbers.specs.Limits.{most_processors}
use Rattle.states.proofs.Writing.{line_to}
use Rattle.states.proofs.reading.snapshot_of.Given as goal

abbrev pub invariant-loop-k : goal.invariant-loop-k
invariant-loop-k l = (l.k ≤ most_processors) × (l.snapshot ≡ line_to l.answer l.p l.k)
