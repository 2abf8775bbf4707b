-- What the code reads off an order, and the moves by it. `modes` are those of the tasks' jobs.
use Rattle.std.specs.Prelude.{ℕ, zero, suc, List, [], leb, ltb, get_or, set, if◌then◌else◌}
use Rattle.search.specs.Words.{◌is◌}
use Rattle.search.specs.First.{first}
use Rattle.search.specs.Table.{table}
use Rattle.numbers.specs.Limits.{most_processors, most_tasks, nobody}
use Rattle.processors.specs.Modes.{off}
use Rattle.processors.specs.Words.{jobs_from, link, link_of, run_of, is_unlinked, place_on, link_on}
use Rattle.processors.specs.declared.Processors.{Processors}
use Rattle.scheduler.specs.Arriving.{lowest_free, can_preempt}
use Rattle.scheduler.specs.Leaving.{awaited_else, becoming_preemptable}
use Rattle.input.specs.Kinds.{short, arrival, finish, request as asking, completion}
use Rattle.input.specs.Words.{kind}
use Rattle.input.specs.declared.Event.{Event}
use Rattle.setups.specs.Naming.{group_of}
use Rattle.protocol.specs.Records.{no_task}
use Rattle.protocol.specs.Words.{suspended, standing_no, task, group}
use Rattle.protocol.specs.declared.State.{State}
use Rattle.protocol.specs.declared.Task.{Task}
use Rattle.priorities.specs.Bounds.{mode_in, jobs_in}
use Rattle.plain.specs.Orders.{task_at, order_from}
use Rattle.plain.specs.declared.Order.{Order}

-- the number of each task's standing
abbrev pub stands_in : List Task → List ℕ
stands_in tasks = table (λ t. standing_no (get_or tasks t no_task).standing) most_tasks

-- the order of a state's pending jobs, by the ranks that the code computes; of a sound state it is `order_of`
unfoldable pub order_in : State → Order
order_in s =
    order_from (jobs_in s.setup.kinds s.setup.resources s.tasks s.groups).ranks (stands_in s.tasks)

-- the modes of a state's jobs
abbrev pub modes_in : State → List ℕ
modes_in s = table (λ t. mode_in s.setup.kinds (get_or s.tasks t no_task)) most_tasks

-- ---- what is read
-- the place of t; `pending` where it has none
abbrev pub place_in : Order → ℕ → ℕ
place_in o t = first (λ i. task_at o i is t) 0 o.pending

-- the place of the first job that is runnable and unlinked; `pending` where there is none
abbrev pub next_in : Order → List ℕ → Processors → ℕ
next_in o modes p = first (λ i. is_unlinked p (jobs_from [] modes) (task_at o i)) 0 o.pending

-- the processor of the last linked job among the first n; `most_processors` where there is none
unfoldable pub lowest_in : Order → Processors → ℕ → ℕ
lowest_in o p zero = most_processors
lowest_in o p (suc n) =
    if ltb (link_of p (task_at o n)) most_processors then link_of p (task_at o n) else lowest_in o p n

-- ---- the moves
module _ (o : Order) (modes : List ℕ) (p : Processors) where
  -- t takes the link of processor k, if it stands before the job that is linked there
  abbrev pub displacing_in : ℕ → ℕ → Processors
  displacing_in t k =
      if leb (place_in o (link p k)) (place_in o t) then p
      else if can_preempt p (jobs_from [] modes) k then place_on p k t
      else link_on p k t

  -- t arrives or resumes
  abbrev pub arriving_in : ℕ → Processors
  arriving_in t =
      if ltb (lowest_free p) most_processors then place_on p (lowest_free p) t
      else displacing_in t (lowest_in o p o.pending)

  -- the free processor k takes the next job; if that runs on q, it is linked there, and q's link comes to k
  abbrev pub filling_in : ℕ → Processors
  filling_in k =
      let i = next_in o modes p in
      let next = task_at o i in
      let q = run_of p next in
      if i is o.pending then p
      else if ltb q most_processors then place_on (link_on p q next) k (link p q)
      else place_on p k next

module _ (o : Order) (modes : List ℕ) (p : Processors) (t : ℕ) where
  -- t finishes or suspends
  abbrev pub leaving_in : Processors
  leaving_in =
      let k = run_of p t in
      if k is most_processors then p else awaited_else p k (filling_in o modes (place_on p k nobody) k)

  -- t gives way
  abbrev pub giving_way_in : Processors
  giving_way_in = if ltb (next_in o modes p) (place_in o t) then leaving_in else p

-- ---- after an event; s is the state with all else done, o its order
-- the modes with t asleep
abbrev pub asleep_in : List ℕ → ℕ → List ℕ
asleep_in modes t = set modes t off

module _ (s : State) (o : Order) (modes : List ℕ) (p : Processors) where
  -- t has requested a resource
  abbrev pub requested_in : ℕ → Processors
  requested_in t = if standing_no (task s t).standing is suspended then leaving_in o modes p t else p

  -- t has completed its request for r
  abbrev pub completed_in : ℕ → ℕ → Processors
  completed_in t r =
      let holder = (group s (group_of s.setup r)).holder in
      let given = giving_way_in o (asleep_in modes holder) p t in
      if holder is t then p
      else if kind s.setup r is short then becoming_preemptable p t
      else if holder is nobody then given
      else arriving_in o modes given holder

-- the links and placements after event e
abbrev pub placed_in : State → Order → Processors → Event → Processors
placed_in s o p e =
    if e.kind is arrival then arriving_in o (modes_in s) p e.task
    else if e.kind is finish then leaving_in o (modes_in s) p e.task
    else if e.kind is asking then requested_in s o (modes_in s) p e.task
    else if e.kind is completion then completed_in s o (modes_in s) p e.task e.resource
    else p
