-- `put_tasks` meets its contract. Assumes nothing.
use Rattle.std.proofs.Common.{◌≡◌, ◌*◌, ◌≤◌, length, min}
use Rattle.numbers.specs.Limits.{most_tasks}
use Rattle.lines.specs.Buffers.{Put, line_limit}
use Rattle.pages.specs.Files.{tasks_text}
use Rattle.pages.proofs.writing.put_tasks.Given as goal

abbrev pub invariant-loop-t : goal.invariant-loop-t
invariant-loop-t l = (l.t ≤ min l.state.setup.tasks most_tasks) × Put l.initial.out 0 (tasks_text l.state l.t) l.at l.out × (l.at ≤ line_limit * l.t) × (length l.out ≡ length l.initial.out)
