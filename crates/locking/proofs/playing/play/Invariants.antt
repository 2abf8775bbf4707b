-- The session is at the state after the events so far, and their lines are in the buffer. Assumes nothing.
use Rattle.std.proofs.Common.{◌≡◌, ◌*◌, ◌≤◌}
use Rattle.states.specs.Writing.{snapshot_size}
use Rattle.locking.specs.Holding.{Holds}
use Rattle.locking.specs.Playing.{playable, played_to, written_to}
use Rattle.locking.proofs.playing.play.Given as goal

abbrev pub invariant-loop-i : goal.invariant-loop-i
invariant-loop-i l =
    (l.i ≤ l.count) × (l.at ≡ snapshot_size * l.i) × (l.count ≡ playable l.part l.initial.out)
    × Holds (played_to l.fn.state l.part l.i) l.session
    × (l.out ≡ written_to l.fn.state l.part l.initial.out l.i)
