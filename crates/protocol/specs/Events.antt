-- RULES.md, 'What each event does' and 'Tick totals': what an accepted event does. c is the set-up of s.
use Rattle.std.specs.Prelude.{ℕ, ◌+◌, ◌||◌, List, [], ◌∷◌, map, get_or, set, take, replicate, if◌then◌else◌}
use Rattle.search.specs.Words.{◌is◌, ◌isn't◌}
use Rattle.search.specs.Table.{table}
use Rattle.processors.specs.Words.{none_linked}
use Rattle.scheduler.specs.Arriving.{arriving as linking}
use Rattle.scheduler.specs.Leaving.{becoming_preemptable, leaving, giving_way}
use Rattle.numbers.specs.Limits.{most_tasks, most_resources, nobody}
use Rattle.input.specs.Kinds.{short, arrival, finish, request as asking, completion, no_event}
use Rattle.input.specs.Words.{kind, no_setup}
use Rattle.setups.specs.Refusals.{setup_refusal}
use Rattle.setups.specs.Naming.{group_of}
use Rattle.setups.specs.Clearing.{cleared}
use Rattle.input.specs.declared.Setup.{Setup}
use Rattle.input.specs.declared.Event.{Event}
use Rattle.protocol.specs.Records.{no_task, no_group, with_totals, with_clock, with_tasks, with_processors}
use Rattle.protocol.specs.Words.{absent, task, stand, holder, len}
use Rattle.protocol.specs.Ranks.{jobs}
use Rattle.protocol.specs.Situations.{total_for}
use Rattle.protocol.specs.Refusals.{step_of, judge}
use Rattle.protocol.specs.Locks.{open_of_kind, opens, enqueues, closes, frees, next_at, passes, arrive_edit, finish_edit}
use Rattle.protocol.specs.declared.Task.{Task}
use Rattle.protocol.specs.declared.State.{State}
use Rattle.protocol.specs.Replies.{Reply}

-- ---- the scheduler's moves, with the jobs of s
module _ (c : Setup) (t : ℕ) (s : State) where
  -- t finishes or suspends
  unfoldable pub leaves : State
  leaves = with_processors (leaving s.processors (jobs c s) t) s

  -- t becomes preemptable
  unfoldable pub becomes_preemptable : State
  becomes_preemptable = with_processors (becoming_preemptable s.processors t) s

  -- t gives way
  unfoldable pub gives_way : State
  gives_way = with_processors (giving_way s.processors (jobs c s) t) s

-- ---- finish and request
module _ (c : Setup) (t : ℕ) where
  -- Finish: the job is gone, then it leaves.
  unfoldable pub finish_event : State → State
  finish_event s = leaves c t (finish_edit t s)

  -- Request. Same kind open, or the group free: granted at once. Otherwise the job is enqueued at the end: a short
  -- request spins; a long one suspends, once its waiting counts for the holder's priority.
  unfoldable pub request_event : ℕ → State → State
  request_event r s =
      let g = group_of c r in
      if open_of_kind c s t r || holder s g is nobody then opens t r g s
      else if kind c r is short then enqueues c t r g s
      else leaves c t (enqueues c t r g s)

-- ---- tick totals
-- n ticks more in total i
abbrev pub counting : ℕ → ℕ → Task → Task
counting i n t = with_totals (set t.totals i (get_or t.totals i 0 + n)) t

-- the clock moves forward by n ticks, and each pending task has them charged to its total
unfoldable pub charged : ℕ → State → State
charged n s =
    with_clock (s.clock + n) (with_tasks (table
    (λ t. if stand s t isn't absent then counting (total_for s t) n (task s t) else task s t)
    most_tasks) s)

-- the answer to an event, and the state after it: `after` if it is accepted. A refused event hands back the same state.
abbrev pub replied : State → Event → State → Reply
replied s e after =
    if judge s e is 0 then record { answer = 0; state = after } else record { answer = judge s e; state = s }

-- ---- arrive or resume, and a whole step
-- the processor suggested to a task in a state
abbrev pub Prefers : Type 0
Prefers = State → ℕ → ℕ

-- no processor is suggested, as in the rules: the lowest-numbered unlinked one is taken
abbrev pub cold : Prefers
cold s t = nobody

module _ (pick : Prefers) where
  -- t arrives or resumes
  unfoldable pub arrives : Setup → ℕ → State → State
  arrives c t s = with_processors (linking s.processors (jobs c s) t (pick s t)) s

  -- Arrival: the job is active, with its deadline; then it arrives.
  unfoldable pub arrive_event : Setup → ℕ → State → State
  arrive_event c t s = arrives c t (arrive_edit c t s)

  -- Completion. Inner: the request is closed, no more. Outermost short: the queue's first job becomes holder, then
  -- the completer becomes preemptable. Outermost long: the completer's priority is restored, as the group is free,
  -- and it gives way; then the queue's first job becomes holder and resumes.
  unfoldable pub complete_event : Setup → ℕ → ℕ → State → State
  complete_event c t r s =
      let g = group_of c r in
      let closed = closes t s in
      let freed = frees g closed in
      if open_of_kind c closed t r then closed
      else if kind c r is short then becomes_preemptable c t (if len s g is 0 then freed else passes g freed)
      else if len s g is 0 then gives_way c t freed
      else arrives c (next_at s g) (passes g (gives_way c t freed))

  -- an accepted event, on the state charged with its ticks
  unfoldable pub act : Setup → Event → State → State
  act c e s =
      if e.kind is arrival then arrive_event c e.task s
      else if e.kind is finish then finish_event c e.task s
      else if e.kind is asking then request_event c e.task e.resource s
      else if e.kind is completion then complete_event c e.task e.resource s
      else s

  -- the answer to an event, and the state after it
  unfoldable pub step_by : State → Event → Reply
  step_by s e = replied s e (act s.setup e (charged (step_of s e) s))

-- the step of the rules: no processor is suggested
unfoldable pub step : State → Event → Reply
step s e = step_by cold s e

-- ---- lists of events, and of moves
-- an event, and the suggestion that goes with it
pub record Move : Type 0 where
  pub prefers : Prefers
  pub event : Event

-- the state after a move
abbrev pub moved : State → Move → State
moved s m = (step_by m.prefers s m.event).state

-- the state after some moves
unfoldable pub run_by : State → List Move → State
run_by s [] = s
run_by s (m ∷ ms) = run_by (moved s m) ms

-- events as moves without suggestions
abbrev pub plain : List Event → List Move
plain es = map (λ e. record { prefers = cold; event = e }) es

-- the state after some events
unfoldable pub run : State → List Event → State
run s es = run_by s (plain es)

-- ---- the state that a set-up begins with
-- nobody has arrived
unfoldable pub fresh : Setup → State
fresh c = record {
  setup = c;
  clock = c.start;
  tasks = replicate most_tasks no_task;
  groups = replicate most_resources no_group;
  processors = none_linked c.processors;
}

-- the answer to a set-up, and the state that it begins with; a refused one gives the empty state
unfoldable pub begin : Setup → Reply
begin c =
    if setup_refusal c is 0 then record { answer = 0; state = fresh (cleared c) }
    else record { answer = setup_refusal c; state = fresh no_setup }

-- ---- from a set-up on
-- the state after some moves
abbrev pub after : Setup → List Move → State
after c ms = run_by (begin c).state ms

-- the answer to event n of a list, after those before it
abbrev pub reply_at : State → List Event → ℕ → Reply
reply_at s es n = step (run s (take n es)) (get_or es n no_event)
