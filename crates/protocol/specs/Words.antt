-- Words over a state: what a standing says, and the parts of a state.
use Rattle.std.specs.Prelude.{ℕ, ◌+◌, List, [], ◌∷◌, get_or}
use Rattle.numbers.specs.Limits.{nothing}
use Rattle.queue.specs.Waiting.{waiter as queued}
use Rattle.protocol.specs.Records.{no_task, no_group}
use Rattle.protocol.specs.declared.Lock.TheVariants.{Short, Long}
use Rattle.protocol.specs.declared.Standing.{Standing}
use Rattle.protocol.specs.declared.Standing.TheVariants.{Absent, Active, Waiting}
use Rattle.protocol.specs.declared.Task.{Task}
use Rattle.protocol.specs.declared.Group.{Group}
use Rattle.protocol.specs.declared.State.{State}

-- the end of the exact clock
abbrev pub last_clock : ℕ
last_clock = 4294967295

-- the sum of a list
abbrev pub sum : List ℕ → ℕ
sum [] = 0
sum (x ∷ xs) = x + sum xs

-- ---- a standing as a number
-- no job
abbrev pub absent : ℕ
absent = 0

-- a job that does not wait
abbrev pub active : ℕ
active = 1

-- a job that waits for a short group
abbrev pub spinning : ℕ
spinning = 2

-- a job that waits for a long group
abbrev pub suspended : ℕ
suspended = 3

-- the number of a standing
abbrev pub standing_no : Standing → ℕ
standing_no Absent = absent
standing_no Active = active
standing_no (Waiting (Short r)) = spinning
standing_no (Waiting (Long r)) = suspended

-- the resource that a waiting job asked for, or nothing
abbrev pub asked_of : Standing → ℕ
asked_of Absent = nothing
asked_of Active = nothing
asked_of (Waiting (Short r)) = r
asked_of (Waiting (Long r)) = r

-- ---- the parts of a state
-- the record of task t; past the table, that of no task
abbrev pub task : State → ℕ → Task
task s t = get_or s.tasks t no_task

-- the record of group g; past the table, that of no group
abbrev pub group : State → ℕ → Group
group s g = get_or s.groups g no_group

-- the number of t's standing
unfoldable pub stand : State → ℕ → ℕ
stand s t = standing_no (task s t).standing

-- the resource that t's waiting job asked for, or nothing
unfoldable pub asked : State → ℕ → ℕ
asked s t = asked_of (task s t).standing

-- the deadline of t's job
unfoldable pub deadline : State → ℕ → ℕ
deadline s t = (task s t).deadline

-- how many requests t has open
unfoldable pub depth : State → ℕ → ℕ
depth s t = (task s t).depth

-- the resource of the i-th open request of t, oldest first
unfoldable pub request : State → ℕ → ℕ → ℕ
request s t i = get_or (task s t).requests i nothing

-- the holder of group g, or nobody
unfoldable pub holder : State → ℕ → ℕ
holder s g = (group s g).holder

-- how many wait for group g
unfoldable pub len : State → ℕ → ℕ
len s g = (group s g).queue.len

-- the task at place i of g's queue, or nobody
unfoldable pub waiter : State → ℕ → ℕ → ℕ
waiter s g i = queued (group s g).queue i
