-- The words of the rules for links and placements.
use Rattle.std.specs.Prelude.{ℕ, Bool, ◌&&◌, List, leb, ltb, get_or, set, replicate, if◌then◌else◌}
use Rattle.search.specs.Words.{◌is◌, ◌isn't◌}
use Rattle.search.specs.First.{first}
use Rattle.search.specs.Table.{table}
use Rattle.numbers.specs.Limits.{most_processors, most_tasks, nobody}
use Rattle.processors.specs.Modes.{off, preemptable}
use Rattle.processors.specs.declared.Jobs.{Jobs}
use Rattle.processors.specs.declared.Processors.{Processors}

-- ---- jobs
-- what the scheduler is given of each task's job: its rank and its mode
abbrev pub jobs_from : List ℕ → List ℕ → Jobs
jobs_from ranks modes = record { ranks = ranks; modes = modes }

-- the modes of the first n tasks; from there on no job is runnable
unfoldable pub first_modes : ℕ → List ℕ → List ℕ
first_modes n modes = table (λ t. if ltb t n then get_or modes t off else off) most_tasks

-- the jobs, of which only those of the first n tasks count as runnable
abbrev pub first_jobs : ℕ → Jobs → Jobs
first_jobs n j = jobs_from j.ranks (first_modes n j.modes)

-- the rank of t's job; 0 past the last task
unfoldable pub rank_of : Jobs → ℕ → ℕ
rank_of j t = if ltb t most_tasks then get_or j.ranks t 0 else 0

-- the mode of t's job; `off` past the last task
unfoldable pub mode_of : Jobs → ℕ → ℕ
mode_of j t = if ltb t most_tasks then get_or j.modes t off else off

-- t's job is preemptable or non-preemptable
abbrev pub is_runnable : Jobs → ℕ → Bool
is_runnable j t = leb preemptable (mode_of j t)

-- a has a higher priority than b
abbrev pub is_higher : Jobs → ℕ → ℕ → Bool
is_higher j a b = ltb (rank_of j a) (rank_of j b)

-- a is runnable and has a higher priority than t
abbrev pub is_ahead : Jobs → ℕ → ℕ → Bool
is_ahead j t a = is_runnable j a && is_higher j a t

-- ---- processors
-- the task that processor k is linked to, or nobody
abbrev pub link : Processors → ℕ → ℕ
link p k = get_or p.linked k nobody

-- the task that processor k runs, or nobody
abbrev pub runs : Processors → ℕ → ℕ
runs p k = get_or p.running k nobody

-- the first processor with t in a list of the processors' tasks; `most_processors` for none
abbrev pub place_of : List ℕ → ℕ → ℕ
place_of l t = first (λ k. get_or l k nobody is t) 0 most_processors

-- the processor that is linked to t; `most_processors` for none
unfoldable pub link_of : Processors → ℕ → ℕ
link_of p t = place_of p.linked t

-- the processor that runs t; `most_processors` for none
unfoldable pub run_of : Processors → ℕ → ℕ
run_of p t = place_of p.running t

-- t is runnable and no processor is linked to it
abbrev pub is_unlinked : Processors → Jobs → ℕ → Bool
is_unlinked p j t = is_runnable j t && leb most_processors (link_of p t)

-- processor k is linked to a job that it does not run
abbrev pub is_awaited : Processors → ℕ → Bool
is_awaited p k = link p k isn't nobody && link p k isn't runs p k

-- ---- one processor changed
-- k is linked to t and runs it; t may be nobody
abbrev pub place_on : Processors → ℕ → ℕ → Processors
place_on p k t = record { count = p.count; linked = set p.linked k t; running = set p.running k t }

-- k is linked to t, and runs what it ran
abbrev pub link_on : Processors → ℕ → ℕ → Processors
link_on p k t = record { count = p.count; linked = set p.linked k t; running = p.running }

-- `count` processors, none linked and none running a job
unfoldable pub none_linked : ℕ → Processors
none_linked count = record {
  count = count;
  linked = replicate most_processors nobody;
  running = replicate most_processors nobody;
}
