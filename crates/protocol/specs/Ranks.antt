-- RULES.md, 'Jobs and priorities': priorities, and what the scheduler is given of each job. A lower rank is a higher
-- priority. c is the set-up of the state s.
use Rattle.std.specs.Prelude.{ℕ, zero, suc, ◌+◌, ◌*◌, min, Bool, true, false, ◌&&◌}
use Rattle.search.specs.Words.{◌is◌}
use Rattle.search.specs.Below.{any_below}
use Rattle.search.specs.First.{first}
use Rattle.search.specs.Table.{table}
use Rattle.processors.specs.Modes.{off, preemptable, non_preemptable}
use Rattle.processors.specs.Words.{jobs_from}
use Rattle.processors.specs.declared.Jobs.{Jobs}
use Rattle.numbers.specs.Limits.{most_tasks}
use Rattle.input.specs.Kinds.{short, long}
use Rattle.input.specs.Words.{kind}
use Rattle.input.specs.declared.Setup.{Setup}
use Rattle.protocol.specs.Words.{task, deadline, depth, request, holder, len, waiter}
use Rattle.protocol.specs.declared.Lock.TheVariants.{Short, Long}
use Rattle.protocol.specs.declared.Standing.{Standing}
use Rattle.protocol.specs.declared.Standing.TheVariants.{Absent, Active, Waiting}
use Rattle.protocol.specs.declared.State.{State}

-- Own priority: an earlier deadline is higher, then a lower task number, which is below 256.
unfoldable pub own : State → ℕ → ℕ
own s t = deadline s t * 256 + t

-- the least of a and of f below n
unfoldable pub least_of : (ℕ → ℕ) → ℕ → ℕ → ℕ
least_of f zero a = a
least_of f (suc n) a = min (f n) (least_of f n a)

-- not runnable without a job or suspended; non-preemptable while it spins or has a short request open (`holds`); else
-- preemptable
abbrev pub mode_for : Standing → Bool → ℕ
mode_for Absent holds = off
mode_for Active true = non_preemptable
mode_for Active false = preemptable
mode_for (Waiting (Short r)) holds = non_preemptable
mode_for (Waiting (Long r)) holds = off

module _ (c : Setup) (s : State) where
  -- the long group that t holds; the number of resources where it holds none
  unfoldable pub long_held : ℕ → ℕ
  long_held t = first (λ g. kind c g is long && holder s g is t) 0 c.resources

  -- Effective priority: for the holder of a long group the highest among its own and those of the jobs queued there;
  -- for all others their own, as the place past the last group has an empty queue in a sound state.
  unfoldable pub effective : ℕ → ℕ
  effective t = least_of (λ i. own s (waiter s (long_held t) i)) (len s (long_held t)) (own s t)

  -- t has a short request open
  unfoldable pub short_open : ℕ → Bool
  short_open t = any_below (depth s t) (λ i. kind c (request s t i) is short)

  -- what the scheduler is given: each task's effective rank and mode
  unfoldable pub jobs : Jobs
  jobs = jobs_from (table effective most_tasks) (table (λ t. mode_for (task s t).standing (short_open t)) most_tasks)
