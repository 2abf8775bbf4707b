-- The bounds within which the ranks of a state fit their type, and what the scheduler is given, from the parts of a
-- state. A state whose set-up, clock and times are sound is within the bounds: see `ViewIsRuled` in
-- soundness/specs/Parts.
use Rattle.std.specs.Prelude.{ℕ, ◌+◌, ◌*◌, min, Bool, ◌&&◌, List, leb, ltb, get_or, if◌then◌else◌}
use Rattle.search.specs.Words.{◌is◌}
use Rattle.search.specs.Below.{all_below, any_below}
use Rattle.search.specs.First.{first}
use Rattle.search.specs.Table.{table}
use Rattle.queue.specs.Waiting.{waiter}
use Rattle.queue.specs.declared.Queue.{Queue}
use Rattle.processors.specs.Words.{jobs_from}
use Rattle.processors.specs.declared.Jobs.{Jobs}
use Rattle.numbers.specs.Limits.{most_tasks, most_resources, nothing}
use Rattle.input.specs.Kinds.{short, long}
use Rattle.protocol.specs.Records.{no_task, no_group}
use Rattle.protocol.specs.Words.{task}
use Rattle.protocol.specs.Ranks.{least_of, mode_for}
use Rattle.protocol.specs.declared.Task.{Task}
use Rattle.protocol.specs.declared.Group.{Group}
use Rattle.protocol.specs.declared.State.{State}

-- 2 to the power of 40: no deadline of a sound state is past it
abbrev pub latest : ℕ
latest = 1099511627776

-- no more resources than there are places, and no deadline past the latest
unfoldable pub is_bounded : State → Bool
is_bounded s = leb s.setup.resources most_resources && all_below most_tasks (λ t. leb (task s t).deadline latest)

-- ---- what the scheduler is given, from the parts of a state
-- a task's own rank by its deadline; 0 where that is past the latest, which no sound state has
abbrev pub rank_by : ℕ → ℕ → ℕ
rank_by deadline t = if leb deadline latest then deadline * 256 + t else 0

-- a task's own rank in a table of them; past the table, that of no task, whose deadline is 0
abbrev pub rank_at : List ℕ → ℕ → ℕ
rank_at own t = if ltb t most_tasks then get_or own t 0 else t

-- the least of the own rank of t and those of the tasks that wait in q
abbrev pub rank_before : List ℕ → Queue → ℕ → ℕ
rank_before own q t = least_of (λ i. rank_at own (waiter q i)) q.len (get_or own t 0)

-- the first of the n groups from k on that is long and that t holds; k + n where there is none
abbrev pub held_from : List ℕ → List Group → ℕ → ℕ → ℕ → ℕ
held_from kinds groups k n t = first (λ g. get_or kinds g 0 is long && (get_or groups g no_group).holder is t) k n

-- the effective rank of t, from the own ones, with n groups; as in `effective`, a task that holds none of them takes
-- the queue at place n, which is empty in a sound state
abbrev pub rank_with : List ℕ → List ℕ → ℕ → List Group → ℕ → ℕ
rank_with own kinds n groups t = rank_before own (get_or groups (held_from kinds groups 0 n t) no_group).queue t

-- the mode of a task's job, by its record
abbrev pub mode_in : List ℕ → Task → ℕ
mode_in kinds x = mode_for x.standing (any_below x.depth (λ i. get_or kinds (get_or x.requests i nothing) 0 is short))

-- what the scheduler is given of the jobs
unfoldable pub jobs_in : List ℕ → ℕ → List Task → List Group → Jobs
jobs_in kinds resources tasks groups =
    let own = table (λ t. rank_by (get_or tasks t no_task).deadline t) most_tasks in
    jobs_from
    (table (rank_with own kinds (min resources most_resources) groups) most_tasks)
    (table (λ t. mode_in kinds (get_or tasks t no_task)) most_tasks)
