-- The scheduler's part of the sound state: what holds of links and placements between events.
use Rattle.std.specs.Prelude.{ℕ, ◌<◌, ◌≤◌, min, ◌≡◌, ◌≢◌, ◌↔◌, length}
use Rattle.search.specs.Words.{◌isn't◌}
use Rattle.search.specs.Below.{how_many}
use Rattle.numbers.specs.Limits.{most_processors, most_tasks, nobody}
use Rattle.processors.specs.Modes.{preemptable, non_preemptable}
use Rattle.processors.specs.Words.{link, runs, run_of, rank_of, mode_of, is_runnable, is_ahead}
use Rattle.processors.specs.declared.Jobs.{Jobs}
use Rattle.processors.specs.declared.Processors.{Processors}

-- t is a task with a runnable job
pub record Runnable (j : Jobs) (t : ℕ) : Type 0 where
  pub task : t < most_tasks
  pub mode : preemptable ≤ mode_of j t

-- the arrays have their lengths; the types say so, and no test checks it
pub record Sized (p : Processors) : Type 0 where
  pub links : length p.linked ≡ most_processors
  pub runnings : length p.running ≡ most_processors

-- links and placements, but for which of the runnable jobs are linked
pub record Settled (p : Processors) (j : Jobs) : Type 0 where
  pub sized : Sized p
  pub fits : p.count ≤ most_processors
  -- linked jobs are runnable, each linked once
  pub linked_runnable : (k : ℕ) → link p k ≢ nobody → Runnable j (link p k)
  pub linked_once : (k m : ℕ) → link p k ≢ nobody → link p k ≡ link p m → k ≡ m
  -- a processor without a link is idle, one with a link is not
  pub unlinked_idle : (k : ℕ) → link p k ≡ nobody → runs p k ≡ nobody
  pub linked_busy : (k : ℕ) → link p k ≢ nobody → runs p k ≢ nobody
  -- only runnable jobs run, each once, and if linked, linked there
  pub running_runnable : (k : ℕ) → runs p k ≢ nobody → Runnable j (runs p k)
  pub running_once : (k m : ℕ) → runs p k ≢ nobody → runs p k ≡ runs p m → k ≡ m
  pub running_linked : (k m : ℕ) → runs p k ≢ nobody → runs p k ≡ link p m → k ≡ m
  -- a preemptable running job is linked
  pub preemptable_linked : (k : ℕ) → runs p k ≢ nobody → mode_of j (runs p k) ≡ preemptable → link p k ≡ runs p k
  -- every non-preemptable job runs
  pub nonpreemptable_runs : (t : ℕ) → t < most_tasks → mode_of j t ≡ non_preemptable → (k : ℕ) × (runs p k ≡ t)
  -- processors from the count on have neither
  pub beyond : (k : ℕ) → p.count ≤ k → (link p k ≡ nobody) × (runs p k ≡ nobody)

-- no processor is linked to t
abbrev pub Unlinked : Processors → ℕ → Type 0
Unlinked p t = (k : ℕ) → link p k ≢ t

-- links and placements hold, and the linked jobs are the highest-priority runnable ones
pub record Placed (p : Processors) (j : Jobs) : Type 0 where
  pub settled : Settled p j
  -- where a runnable job is unlinked, every processor has a link of higher priority
  pub highest : (k t : ℕ) → k < p.count → Runnable j t → Unlinked p t
      → (link p k ≢ nobody) × (rank_of j (link p k) < rank_of j t)

-- the same by counting: a job is linked exactly if it is runnable and fewer than `count` runnable jobs are higher;
-- and as many are linked as there are processors, or runnable jobs if fewer
pub record Counted (p : Processors) (j : Jobs) : Type 0 where
  pub highest : (t : ℕ) → t < most_tasks
      → ((k : ℕ) × (link p k ≡ t)) ↔ (Runnable j t × (how_many (is_ahead j t) most_tasks < p.count))
  pub many : how_many (λ k. link p k isn't nobody) most_processors ≡ min p.count (how_many (is_runnable j) most_tasks)

-- what the locks need of a scheduler, this one or another: only runnable jobs run, and every non-preemptable job
-- runs, on a processor below the count
pub record Served (p : Processors) (j : Jobs) : Type 0 where
  pub runnable : (t : ℕ) → t < most_tasks → run_of p t < most_processors → Runnable j t
  pub nonpreemptable : (t : ℕ) → t < most_tasks → mode_of j t ≡ non_preemptable
      → (run_of p t < p.count) × (runs p (run_of p t) ≡ t)

-- t is linked but not running
pub record LinkedOnly (p : Processors) (t : ℕ) : Type 0 where
  pub task : t < most_tasks
  pub linked : (k : ℕ) × (link p k ≡ t)
  pub waits : (k : ℕ) → runs p k ≢ t
