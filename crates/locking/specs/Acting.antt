-- What the code requires of the state that an accepted event acts on. A sound state with the event's ticks charged
-- has it.
use Rattle.std.specs.Prelude.{◌≡◌, ℕ, ◌<◌, ◌≤◌, true, ◌≢◌}
use Rattle.numbers.specs.Limits.{most_tasks, most_resources, most_requests}
use Rattle.setups.specs.Naming.{group_of}
use Rattle.input.specs.Kinds.{request, completion}
use Rattle.input.specs.declared.Event.{Event}
use Rattle.protocol.specs.Words.{absent, stand, depth, len}
use Rattle.protocol.specs.Locks.{next_at}
use Rattle.protocol.specs.declared.State.{State}
use Rattle.priorities.specs.Bounds.{is_bounded}

-- the first in g's queue is a task with a job, and has room for one request more
pub record CanPass (s : State) (g : ℕ) : Type 0 where
  pub inside : next_at s g < most_tasks
  pub pending : stand s (next_at s g) ≢ absent
  pub room : depth s (next_at s g) < most_requests

-- t is a task with room for one request more, and g is a group's place
pub record CanRequest (s : State) (t g : ℕ) : Type 0 where
  pub inside : t < most_tasks
  pub placed : g < most_resources
  pub room : depth s t < most_requests

-- t is a task with a request open, and no more than eight; g is a group's place, and can be handed over if a task
-- waits for it
pub record CanComplete (s : State) (t g : ℕ) : Type 0 where
  pub inside : t < most_tasks
  pub placed : g < most_resources
  pub some : 0 < depth s t
  pub few : depth s t ≤ most_requests
  pub next : 0 < len s g → CanPass s g

-- the ranks fit their type, the event's task is one, and its request or completion can be done
pub record CanAct (s : State) (e : Event) : Type 0 where
  pub bounded : is_bounded s ≡ true
  pub inside : e.task < most_tasks
  pub asks : e.kind ≡ request → CanRequest s e.task (group_of s.setup e.resource)
  pub completes : e.kind ≡ completion → CanComplete s e.task (group_of s.setup e.resource)
