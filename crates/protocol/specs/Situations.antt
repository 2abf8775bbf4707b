-- RULES.md, 'Tick totals': the situation of a task, the total that it is charged to, and the refusal that it gives.
use Rattle.std.specs.Prelude.{ℕ, Bool, true, false, ◌&&◌, ltb, if◌then◌else◌}
use Rattle.search.specs.Words.{◌is◌, ◌isn't◌}
use Rattle.search.specs.Below.{how_many}
use Rattle.numbers.specs.Refusals.{not_pending, is_suspended, on_no_processor, is_spinning}
use Rattle.numbers.specs.Limits.{most_processors, most_tasks}
use Rattle.processors.specs.Words.{link_of, run_of}
use Rattle.processors.specs.declared.Processors.{Processors}
use Rattle.protocol.specs.Records.{total_count}
use Rattle.protocol.specs.Words.{absent, spinning, suspended, stand}
use Rattle.protocol.specs.Ranks.{own}
use Rattle.protocol.specs.declared.Situation.{Situation}
use Rattle.protocol.specs.declared.Situation.TheVariants.{NoJob, Running, Spinning, LinkedOnly, Ready, Suspended}
use Rattle.protocol.specs.declared.State.{State}

-- the situation of task t, by its standing's number and the processors: a job on a processor is spinning or running,
-- linked or not
abbrev pub situation_of : ℕ → Processors → ℕ → Situation
situation_of standing p t =
    if standing is absent then NoJob
    else if standing is suspended then Suspended
    else if ltb (run_of p t) most_processors then (if standing is spinning then Spinning else Running)
    else if ltb (link_of p t) most_processors then LinkedOnly
    else Ready

-- the situation of task t in s
unfoldable pub situation : State → ℕ → Situation
situation s t = situation_of (stand s t) s.processors t

-- u is pending, suspended or not, and has a higher priority than t; each by its own, inherited priority not counted
abbrev pub outranks : State → ℕ → ℕ → Bool
outranks s u t = stand s u isn't absent && ltb (own s u) (own s t)

-- t's job is one of the m highest-priority pending ones: fewer than m outrank it
unfoldable pub is_foremost : State → ℕ → Bool
is_foremost s t = ltb (how_many (λ u. outranks s u t) most_tasks) s.setup.processors

-- the total of a job in a situation, foremost or not, in the order printed: a suspended job is directly blocked while
-- it is foremost, and suspended otherwise; a task without a job has none
abbrev pub total_of : Situation → Bool → ℕ
total_of Running foremost = 0
total_of Spinning foremost = 1
total_of LinkedOnly foremost = 2
total_of Ready foremost = 3
total_of Suspended true = 4
total_of Suspended false = 5
total_of NoJob foremost = total_count

-- the total that a tick of t goes to in s
unfoldable pub total_for : State → ℕ → ℕ
total_for s t = total_of (situation s t) (is_foremost s t)

-- the refusal of a finish, request or completion in a situation: 18, 26, 19 or 20, or 0. Of a job on no processor it
-- says whether it is suspended or runnable
abbrev pub situation_refusal : Situation → ℕ
situation_refusal NoJob = not_pending
situation_refusal Suspended = is_suspended
situation_refusal LinkedOnly = on_no_processor
situation_refusal Ready = on_no_processor
situation_refusal Spinning = is_spinning
situation_refusal Running = 0
