-- `put_events` meets its contract. Assumes nothing.
use Rattle.std.proofs.Common.{◌≡◌, ◌*◌, ◌≤◌, length, take, drop}
use Rattle.states.specs.Writing.{snapshot_size}
use Rattle.lines.specs.Buffers.{Put, line_limit}
use Rattle.pages.specs.Pages.{events_text}
use Rattle.pages.proofs.writing.put_events.Given as goal

abbrev pub invariant-loop-i : goal.invariant-loop-i
invariant-loop-i l = (l.i ≤ l.count) × Put l.initial.out 0 (events_text (λ n. take snapshot_size (drop (snapshot_size * n) l.written)) l.processors l.events l.i) l.at l.out × (l.at ≤ line_limit * l.i) × (length l.out ≡ length l.initial.out)
