-- Each event is a step of the session; the buffer follows. Assumes nothing.
use Prim.Native.Nat.{◌≤◌}
use mathlib.Core.Path.{◌≡◌}
use Rattle.locking.specs.Playing.{playable}
use Rattle.plain.proofs.Parts.{Along}
use Rattle.plain.proofs.playing.play.Given as goal

abbrev pub invariant-loop-i : goal.invariant-loop-i
invariant-loop-i l = (l.i ≤ l.count) × (l.count ≡ playable l.part l.initial.out) × Along l.initial.x.state l.part l.initial.out l.i l.x l.out l.at
