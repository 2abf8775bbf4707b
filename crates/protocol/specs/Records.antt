-- The records of a task, a group and a state: the empty ones, and one setter for each field that changes. antt has no
-- record update, so a new field of a record is added in this file alone.
use Rattle.std.specs.Prelude.{ℕ, Bool, false, List, replicate}
use Rattle.numbers.specs.Limits.{most_requests, nobody, nothing}
use Rattle.queue.specs.Waiting.{empty}
use Rattle.processors.specs.declared.Processors.{Processors}
use Rattle.input.specs.declared.Setup.{Setup}
use Rattle.protocol.specs.declared.Standing.{Standing}
use Rattle.protocol.specs.declared.Standing.TheVariants.{Absent}
use Rattle.protocol.specs.declared.Task.{Task}
use Rattle.protocol.specs.declared.Group.{Group}
use Rattle.protocol.specs.declared.State.{State}

-- how many totals a task has: `Task::TOTALS`
abbrev pub total_count : ℕ
total_count = 6

-- ---- the empty records
-- no task: no job, no request open, totals 0
abbrev pub no_task : Task
no_task = record {
  standing = Absent;
  deadline = 0;
  arrived = false;
  last = 0;
  requests = replicate most_requests nothing;
  depth = 0;
  totals = replicate total_count 0;
}

-- no group: no holder, and an empty queue
abbrev pub no_group : Group
no_group = record { holder = nobody; queue = empty }

-- ---- a task's record by its fields, and with one of them changed
abbrev task_of : Standing → ℕ → Bool → ℕ → List ℕ → ℕ → List ℕ → Task
task_of standing deadline arrived last requests depth totals = record {
  standing = standing;
  deadline = deadline;
  arrived = arrived;
  last = last;
  requests = requests;
  depth = depth;
  totals = totals;
}

-- another standing
abbrev pub with_standing : Standing → Task → Task
with_standing x t = task_of x t.deadline t.arrived t.last t.requests t.depth t.totals

-- another deadline
abbrev pub with_deadline : ℕ → Task → Task
with_deadline x t = task_of t.standing x t.arrived t.last t.requests t.depth t.totals

-- another word on whether it has ever arrived
abbrev pub with_arrived : Bool → Task → Task
with_arrived x t = task_of t.standing t.deadline x t.last t.requests t.depth t.totals

-- another last arrival
abbrev pub with_last : ℕ → Task → Task
with_last x t = task_of t.standing t.deadline t.arrived x t.requests t.depth t.totals

-- other open requests
abbrev pub with_requests : List ℕ → Task → Task
with_requests x t = task_of t.standing t.deadline t.arrived t.last x t.depth t.totals

-- another number of open requests
abbrev pub with_depth : ℕ → Task → Task
with_depth x t = task_of t.standing t.deadline t.arrived t.last t.requests x t.totals

-- other totals
abbrev pub with_totals : List ℕ → Task → Task
with_totals x t = task_of t.standing t.deadline t.arrived t.last t.requests t.depth x

-- ---- a state by its fields, and with one of them changed; its set-up never changes
abbrev state_of : Setup → ℕ → List Task → List Group → Processors → State
state_of setup clock tasks groups processors = record {
  setup = setup;
  clock = clock;
  tasks = tasks;
  groups = groups;
  processors = processors;
}

-- another clock
abbrev pub with_clock : ℕ → State → State
with_clock x s = state_of s.setup x s.tasks s.groups s.processors

-- other records of the tasks
abbrev pub with_tasks : List Task → State → State
with_tasks x s = state_of s.setup s.clock x s.groups s.processors

-- other records of the groups
abbrev pub with_groups : List Group → State → State
with_groups x s = state_of s.setup s.clock s.tasks x s.processors

-- other links and placements
abbrev pub with_processors : Processors → State → State
with_processors x s = state_of s.setup s.clock s.tasks s.groups x
