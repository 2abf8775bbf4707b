-- The edits of the locks: tasks and groups alone, without the scheduler's moves. c is the set-up of s.
use Rattle.std.specs.Prelude.{ℕ, zero, suc, ◌+◌, ◌-◌, Bool, true, set}
use Rattle.search.specs.Words.{◌is◌}
use Rattle.search.specs.Below.{any_below}
use Rattle.queue.specs.Waiting.{appended, without_first}
use Rattle.queue.specs.declared.Queue.{Queue}
use Rattle.input.specs.Words.{due_at, kind}
use Rattle.input.specs.declared.Setup.{Setup}
use Rattle.numbers.specs.Limits.{nobody, nothing}
use Rattle.protocol.specs.Records.{with_standing, with_deadline, with_arrived, with_last, with_requests, with_depth, with_tasks, with_groups}
use Rattle.protocol.specs.Words.{task, group, asked, depth, request, waiter}
use Rattle.protocol.specs.declared.Lock.{Lock}
use Rattle.protocol.specs.declared.Lock.TheVariants.{Short, Long}
use Rattle.protocol.specs.declared.Standing.TheVariants.{Absent, Active, Waiting}
use Rattle.protocol.specs.declared.Task.{Task}
use Rattle.protocol.specs.declared.State.{State}

-- ---- a task's record as one edit leaves it
-- a request for r is open, as the newest
abbrev pub opening : ℕ → Task → Task
opening r t = with_requests (set t.requests t.depth r) (with_depth (t.depth + 1) t)

-- the newest request is closed
abbrev pub closing : Task → Task
closing t = with_requests (set t.requests (t.depth - 1) nothing) (with_depth (t.depth - 1) t)

-- a job arrives at the clock `now`, with the deadline `due`
abbrev pub arriving : ℕ → ℕ → Task → Task
arriving now due t = with_standing Active (with_deadline due (with_arrived true (with_last now t)))

-- the job is gone, and its deadline is 0
abbrev pub departing : Task → Task
departing t = with_standing Absent (with_deadline 0 t)

-- ---- a state with one task or one group changed
-- the state with the record of t changed by f
abbrev pub on_task : ℕ → (Task → Task) → State → State
on_task t f s = with_tasks (set s.tasks t (f (task s t))) s

-- the state with h as the holder of g, and q as its queue
abbrev pub with_group : ℕ → ℕ → Queue → State → State
with_group g h q s = with_groups (set s.groups g (record { holder = h; queue = q })) s

-- what a job waits for: a resource, by its kind
abbrev pub lock_of : ℕ → ℕ → Lock
lock_of zero r = Short r
lock_of (suc k) r = Long r

-- t has a request of r's kind open
unfoldable pub open_of_kind : Setup → State → ℕ → ℕ → Bool
open_of_kind c s t r = any_below (depth s t) (λ i. kind c (request s t i) is kind c r)

-- t's request for r is open, and t holds g
unfoldable pub opens : ℕ → ℕ → ℕ → State → State
opens t r g s = with_group g t (group s g).queue (on_task t (opening r) s)

-- t is enqueued at the end of g's queue, and waits for r
unfoldable pub enqueues : Setup → ℕ → ℕ → ℕ → State → State
enqueues c t r g s =
    with_group g (group s g).holder (appended (group s g).queue t)
    (on_task t (with_standing (Waiting (lock_of (kind c r) r))) s)

-- t's newest request is closed
unfoldable pub closes : ℕ → State → State
closes t s = on_task t closing s

-- nobody holds g
unfoldable pub frees : ℕ → State → State
frees g s = with_group g nobody (group s g).queue s

-- the first job in g's queue
abbrev pub next_at : State → ℕ → ℕ
next_at s g = waiter s g 0

-- the first job in g's queue is dequeued and active
unfoldable pub dequeues : ℕ → State → State
dequeues g s =
    with_group g (group s g).holder (without_first (group s g).queue) (on_task (next_at s g) (with_standing Active) s)

-- the first job in g's queue becomes holder, and what it asked for is open
unfoldable pub passes : ℕ → State → State
passes g s = opens (next_at s g) (asked s (next_at s g)) g (dequeues g s)

-- a job of t arrives, with its deadline set
abbrev pub arrive_edit : Setup → ℕ → State → State
arrive_edit c t s = on_task t (arriving s.clock (due_at c t s.clock)) s

-- the job of t is gone
abbrev pub finish_edit : ℕ → State → State
finish_edit t s = on_task t departing s
