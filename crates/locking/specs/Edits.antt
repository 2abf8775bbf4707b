-- RULES.md, 'What each event does', over the records of an event's task and group: the records after it, the
-- scheduler's move that follows, and the task that is then handed the group.
use Rattle.std.specs.Prelude.{ℕ, Bool, ◌||◌, List, get_or, slice_index, slice_index_or, slice_set, if◌then◌else◌}
use Rattle.search.specs.Words.{◌is◌}
use Rattle.search.specs.Below.{any_below}
use Rattle.queue.specs.Waiting.{waiter, appended, without_first}
use Rattle.processors.specs.declared.Jobs.{Jobs}
use Rattle.processors.specs.declared.Processors.{Processors}
use Rattle.scheduler.specs.Arriving.{arriving as linking}
use Rattle.scheduler.specs.Leaving.{becoming_preemptable, leaving, giving_way}
use Rattle.input.specs.Kinds.{short, arrival, finish, request as asking, completion}
use Rattle.input.specs.Words.{due_at}
use Rattle.input.specs.declared.Event.{Event}
use Rattle.numbers.specs.Limits.{nobody, nothing}
use Rattle.protocol.specs.Words.{asked_of, task, group}
use Rattle.protocol.specs.Ranks.{jobs}
use Rattle.protocol.specs.Records.{with_standing, with_tasks, with_groups, with_processors}
use Rattle.protocol.specs.Locks.{opening, closing, arriving, departing, lock_of}
use Rattle.protocol.specs.declared.Standing.TheVariants.{Active, Waiting}
use Rattle.protocol.specs.declared.Task.{Task}
use Rattle.protocol.specs.declared.Group.{Group}
use Rattle.protocol.specs.declared.State.{State}
use Rattle.locking.specs.declared.acting.Edit.{Edit as Edited}
use Rattle.locking.specs.declared.acting.Turn.{Turn}
use Rattle.locking.specs.declared.acting.Turn.TheVariants.{Stay, BecomePreemptable, Arrive, Leave, GiveWay}

-- ---- the scheduler's moves by number
-- no move
abbrev pub stay : ℕ
stay = 0

-- become preemptable
abbrev pub become_preemptable : ℕ
become_preemptable = 1

-- arrive or resume
abbrev pub arrive : ℕ
arrive = 2

-- finish or suspend
abbrev pub leave : ℕ
leave = 3

-- give way
abbrev pub give_way : ℕ
give_way = 4

-- the number of a move
abbrev pub turn_no : Turn → ℕ
turn_no Stay = stay
turn_no BecomePreemptable = become_preemptable
turn_no Arrive = arrive
turn_no Leave = leave
turn_no GiveWay = give_way

-- the records of an event's task and group after it, the move that follows, and the task that is then handed the group
pub record Edit : Type 0 where
  pub task : Task
  pub group : Group
  pub turn : ℕ
  pub next : ℕ

-- what the code returns as an edit
abbrev pub edit_from : Edited → Edit
edit_from d = record { task = d.task; group = d.group; turn = turn_no d.turn; next = d.next }

-- ---- the event on the records: x of its task, y of its group
-- x has a request of r's kind open
abbrev pub open_in : List ℕ → Task → ℕ → Bool
open_in kinds x r = any_below x.depth (λ i. get_or kinds (slice_index_or x.requests i nothing) 0 is get_or kinds r 0)

-- these records, then this move; nobody is handed the group
abbrev pub keeping : Task → Group → ℕ → Edit
keeping x y turn = record { task = x; group = y; turn = turn; next = nobody }

module _ (kinds : List ℕ) (x : Task) (y : Group) where
  -- Request of r by t. Same kind open, or the group free: granted at once. Otherwise t is enqueued at the end: a
  -- short request spins, a long one suspends.
  unfoldable pub requesting : ℕ → ℕ → Edit
  requesting t r =
      if open_in kinds x r || y.holder is nobody
      then keeping (opening r x) (record { holder = t; queue = y.queue }) stay
      else record {
        task = with_standing (Waiting (lock_of (slice_index kinds r) r)) x;
        group = record { holder = y.holder; queue = appended y.queue t };
        turn = if get_or kinds r 0 is short then stay else leave;
        next = nobody;
      }

  -- Completion of r. Inner: the request is closed, no more. Outermost: the group is free, and is handed to the
  -- queue's first job, if any; the completer of a short becomes preemptable, that of a long gives way.
  unfoldable pub completing : ℕ → Edit
  completing r =
      if open_in kinds (closing x) r then keeping (closing x) y stay
      else record {
        task = closing x;
        group = record { holder = nobody; queue = y.queue };
        turn = if get_or kinds r 0 is short then become_preemptable else give_way;
        next = if y.queue.len is 0 then nobody else waiter y.queue 0;
      }

-- event e at the clock, on the records x of its task and y of its group: an arriving job gets the deadline `due`
unfoldable pub editing : List ℕ → ℕ → ℕ → Task → Group → Event → Edit
editing kinds due clock x y e =
    if e.kind is arrival then keeping (arriving clock due x) y arrive
    else if e.kind is finish then keeping (departing x) y leave
    else if e.kind is asking then requesting kinds x y e.task e.resource
    else if e.kind is completion then completing kinds x y e.resource
    else keeping x y stay

-- `next`, with the record x, is dequeued and becomes holder of y, and what it asked for is open. Where the
-- completer's move `turn` was to give way, the group is long, and `next` resumes.
unfoldable pub handing : Task → Group → ℕ → ℕ → Edit
handing x y turn next = record {
  task = opening (asked_of x.standing) (with_standing Active x);
  group = record { holder = next; queue = without_first y.queue };
  turn = if turn is give_way then arrive else stay;
  next = next;
}

-- ---- the event on the state
-- the state with x as the record of task t, and y as that of group g
abbrev pub put : ℕ → ℕ → Task → Group → State → State
put t g x y s = with_tasks (slice_set s.tasks t x) (with_groups (slice_set s.groups g y) s)

-- the state with the records of an edit
abbrev pub stored : ℕ → ℕ → Edit → State → State
stored t g d s = put t g d.task d.group s

-- the processors after task t's move `turn`; a job that arrives or resumes has no processor suggested
abbrev pub moved_with : ℕ → Processors → Jobs → ℕ → Processors
moved_with turn p j t =
    if turn is arrive then linking p j t nobody
    else if turn is leave then leaving p j t
    else if turn is give_way then giving_way p j t
    else if turn is become_preemptable then becoming_preemptable p t
    else p

-- the state after task t's move `turn`, with its own jobs
unfoldable pub moved_by : ℕ → ℕ → State → State
moved_by turn t s = with_processors (moved_with turn s.processors (jobs s.setup s) t) s

-- the queue's first job u becomes holder of g, and resumes if the completer's move `turn` was to give way
unfoldable pub handed : ℕ → ℕ → ℕ → State → State
handed g turn u s = let n = handing (task s u) (group s g) turn u in moved_by n.turn u (stored u g n s)

-- what an event does to the records of its task and of group g in s
abbrev pub edit_of : Event → ℕ → State → Edit
edit_of e g s =
    editing s.setup.kinds (due_at s.setup e.task s.clock) s.clock (task s e.task) (group s g) e

-- an accepted event, on the state charged with its ticks; g is the place of its group, or any where it has none
unfoldable pub acted : Event → ℕ → State → State
acted e g s =
    let d = edit_of e g s in
    let s₁ = moved_by d.turn e.task (stored e.task g d s) in
    if d.next is nobody then s₁ else handed g d.turn d.next s₁
