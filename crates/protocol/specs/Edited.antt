-- What an accepted event does to tasks and groups, whatever the scheduler does: its edits without the scheduler's
-- moves. The law `step-does` in proofs/Events/Edited ties it to the rules in specs/Events. c is the set-up of s.
use Rattle.std.specs.Prelude.{ℕ, ◌||◌, if◌then◌else◌}
use Rattle.search.specs.Words.{◌is◌}
use Rattle.input.specs.Kinds.{arrival, finish, request as asking, completion}
use Rattle.setups.specs.Naming.{group_of}
use Rattle.input.specs.declared.Setup.{Setup}
use Rattle.input.specs.declared.Event.{Event}
use Rattle.numbers.specs.Limits.{nobody}
use Rattle.protocol.specs.Words.{holder, len}
use Rattle.protocol.specs.Locks.{open_of_kind, opens, enqueues, closes, frees, passes, arrive_edit, finish_edit}
use Rattle.protocol.specs.Refusals.{step_of}
use Rattle.protocol.specs.Events.{charged, replied}
use Rattle.protocol.specs.declared.State.{State}
use Rattle.protocol.specs.Replies.{Reply}

-- t requests r: the request is open at once, or t is enqueued
unfoldable pub request_edit : Setup → ℕ → ℕ → State → State
request_edit c t r s =
    let g = group_of c r in
    if open_of_kind c s t r || holder s g is nobody then opens t r g s else enqueues c t r g s

-- t completes r: the request is closed; if it was outermost, the group is free, or the queue's first job becomes
-- holder
unfoldable pub complete_edit : Setup → ℕ → ℕ → State → State
complete_edit c t r s =
    let g = group_of c r in
    let closed = closes t s in
    if open_of_kind c closed t r then closed
    else if len s g is 0 then frees g closed
    else passes g (frees g closed)

-- what e does
unfoldable pub edited : Setup → Event → State → State
edited c e s =
    if e.kind is arrival then arrive_edit c e.task s
    else if e.kind is finish then finish_edit e.task s
    else if e.kind is asking then request_edit c e.task e.resource s
    else if e.kind is completion then complete_edit c e.task e.resource s
    else s

-- the answer to an event, and the state after it but for links and placements, which are as they were
unfoldable pub unplaced : State → Event → Reply
unplaced s e = replied s e (edited s.setup e (charged (step_of s e) s))
