-- `Placed` as a test that computes.
use Rattle.std.specs.Prelude.{ℕ, Bool, ◌&&◌, leb, ltb}
use Rattle.search.specs.Words.{◌is◌, ◌isn't◌, ◌implies◌}
use Rattle.search.specs.Below.{all_below}
use Rattle.numbers.specs.Limits.{most_processors, most_tasks, nobody}
use Rattle.processors.specs.Modes.{preemptable, non_preemptable}
use Rattle.processors.specs.Words.{link, runs, mode_of, is_runnable, is_higher, link_of, run_of, is_unlinked}
use Rattle.processors.specs.declared.Jobs.{Jobs}
use Rattle.processors.specs.declared.Processors.{Processors}

-- t is a task with a runnable job
abbrev pub runnable_task : Jobs → ℕ → Bool
runnable_task j t = ltb t most_tasks && is_runnable j t

module _ (p : Processors) (j : Jobs) where
  -- the linked job of processor k is runnable and linked once; without a link k is idle, with a link it is not
  abbrev pub link_holds : ℕ → Bool
  link_holds k =
      (link p k isn't nobody implies (runnable_task j (link p k) && link_of p (link p k) is k && runs p k isn't nobody))
      && (link p k is nobody implies runs p k is nobody)

  -- the job on processor k is runnable, runs once, and if linked, is linked there; if preemptable, it is linked
  abbrev pub run_holds : ℕ → Bool
  run_holds k =
      runs p k isn't nobody implies (
      runnable_task j (runs p k) && run_of p (runs p k) is k
      && (ltb (link_of p (runs p k)) most_processors implies link_of p (runs p k) is k)
      && (mode_of j (runs p k) is preemptable implies link p k is runs p k))

  -- the clauses of processor k; from the count on there is neither link nor job
  abbrev pub processor_holds : ℕ → Bool
  processor_holds k = link_holds k && run_holds k && (leb p.count k implies (link p k is nobody && runs p k is nobody))

  -- processor k, if it is one, is linked to a job higher than t
  abbrev pub links_higher : ℕ → ℕ → Bool
  links_higher t k = ltb k p.count implies (link p k isn't nobody && is_higher j (link p k) t)

  -- if t is runnable and unlinked, every processor is linked to a higher job; if t is non-preemptable, it runs
  abbrev pub task_holds : ℕ → Bool
  task_holds t =
      (is_unlinked p j t implies all_below most_processors (links_higher t))
      && (mode_of j t is non_preemptable implies ltb (run_of p t) most_processors)

  -- all of `Placed` but the lengths, which the types give
  unfoldable pub is_placed : Bool
  is_placed =
      leb p.count most_processors && all_below most_processors processor_holds && all_below most_tasks task_holds
