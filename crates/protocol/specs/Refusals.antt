-- RULES.md, 'The clock' and 'Numbers handed back': the clock step, and the refusals 9 to 26 in the list's order.
use Rattle.std.specs.Prelude.{ℕ, ◌+◌, ◌-◌, ◌%◌, Bool, not, ◌&&◌, ◌||◌, List, [], ◌++◌, leb, ltb}
use Rattle.search.specs.Words.{◌is◌, ◌isn't◌}
use Rattle.search.specs.Below.{any_below}
use Rattle.numbers.specs.Refusals.{not_sound, event_unknown, task_unknown, resource_unknown, field_unused, step_backward, clock_past_end, already_pending, arrives_early, not_pending, is_suspended, on_no_processor, is_spinning, finishes_open, already_open, wrongly_nested, too_many_open, not_newest}
use Rattle.numbers.specs.Rows.{Row, ◌when◌, ◌otherwise◌, first_of}
use Rattle.input.specs.Kinds.{short, long, arrival, finish, request as asking, completion, passing, fields_of}
use Rattle.input.specs.Words.{within, period, kind}
use Rattle.setups.specs.Naming.{group_of}
use Rattle.input.specs.declared.Setup.{Setup}
use Rattle.input.specs.declared.Event.{Event}
use Rattle.numbers.specs.Limits.{most_requests}
use Rattle.protocol.specs.Words.{last_clock, absent, task, stand, depth, request}
use Rattle.protocol.specs.Situations.{situation, situation_refusal}
use Rattle.protocol.specs.Sound.{sound}
use Rattle.protocol.specs.declared.State.{State}

-- how many values the console's tick has: after 65,535 comes 0
abbrev pub ticks : ℕ
ticks = 65536

-- a step of half of them or more goes backward
abbrev pub backward : ℕ
backward = 32768

-- the step from a clock to a tick of the console: the tick minus the last accepted one, modulo 65,536
abbrev pub ticks_to : ℕ → ℕ → ℕ
ticks_to clock tick = (tick + ticks - clock % ticks) % ticks

-- the step of an event
abbrev pub step_of : State → Event → ℕ
step_of s e = ticks_to s.clock e.tick

-- the exact clock after an event
abbrev pub clock_after : State → Event → ℕ
clock_after s e = s.clock + step_of s e

module _ (c : Setup) (s : State) (t r : ℕ) where
  -- t may not request r: it is long while a short is open, or the same kind is open in another group
  unfoldable pub misplaced : Bool
  misplaced = any_below (depth s t) (λ i.
      (kind c r is long && kind c (request s t i) is short)
      || (kind c (request s t i) is kind c r && group_of c (request s t i) isn't group_of c r))

-- the refusals 10 to 13, by the fields of an event and the counts of tasks and resources alone
abbrev pub field_rows : ℕ → ℕ → Event → List Row
field_rows tasks resources e =
    let uses = fields_of e.kind in
    event_unknown when not (within arrival e.kind passing) otherwise
    task_unknown when uses.task && leb tasks e.task otherwise
    resource_unknown when uses.resource && leb resources e.resource otherwise
    field_unused when (not uses.task && e.task isn't 0) || (not uses.resource && e.resource isn't 0) otherwise
    []

-- the list of 9 to 26; 26 is in 19's place, for a job that is suspended
unfoldable pub event_rows : State → Event → List Row
event_rows s e =
    let c = s.setup in
    let t = e.task in
    let r = e.resource in
    let acts = within finish e.kind completion in
    let comes_again = e.kind is arrival && (task s t).arrived in
    let refusal = situation_refusal (situation s t) in
    not_sound when not (sound s) otherwise
    -- 10 to 13, by the fields alone
    field_rows c.tasks c.resources e ++ (
    step_backward when leb backward (step_of s e) otherwise
    clock_past_end when ltb last_clock (clock_after s e) otherwise
    already_pending when e.kind is arrival && stand s t isn't absent otherwise
    arrives_early when comes_again && ltb (clock_after s e) ((task s t).last + period c t) otherwise
    not_pending when acts && refusal is not_pending otherwise
    is_suspended when acts && refusal is is_suspended otherwise
    on_no_processor when acts && refusal is on_no_processor otherwise
    is_spinning when acts && refusal is is_spinning otherwise
    finishes_open when e.kind is finish && depth s t isn't 0 otherwise
    already_open when e.kind is asking && any_below (depth s t) (λ i. request s t i is r) otherwise
    wrongly_nested when e.kind is asking && misplaced c s t r otherwise
    too_many_open when e.kind is asking && depth s t is most_requests otherwise
    not_newest when e.kind is completion && (depth s t is 0 || request s t (depth s t - 1) isn't r) otherwise
    [])

-- the first refusal that applies, or 0
unfoldable pub judge : State → Event → ℕ
judge s e = first_of (event_rows s e)
