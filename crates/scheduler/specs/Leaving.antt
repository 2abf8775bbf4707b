-- RULES.md, 'The scheduler's moves': become preemptable; finish or suspend; give way.
use Rattle.std.specs.Prelude.{ℕ, ◌&&◌, ltb, if◌then◌else◌}
use Rattle.search.specs.Best.{best}
use Rattle.numbers.specs.Limits.{most_processors, most_tasks, nobody}
use Rattle.processors.specs.Words.{link, run_of, is_higher, is_unlinked, is_awaited, place_on, link_on}
use Rattle.processors.specs.declared.Jobs.{Jobs}
use Rattle.processors.specs.declared.Processors.{Processors}

-- If processor k is linked to a job that it does not run, that job runs there; else `other`.
abbrev pub awaited_else : Processors → ℕ → Processors → Processors
awaited_else p k other = if is_awaited p k then place_on p k (link p k) else other

-- Become preemptable: if the processor that t runs on is linked to another job, that one runs instead. If t is on no
-- processor, nothing changes.
unfoldable pub becoming_preemptable : Processors → ℕ → Processors
becoming_preemptable p t = if ltb (run_of p t) most_processors then awaited_else p (run_of p t) p else p

-- the highest-priority unlinked runnable job, or `most_tasks` where there is none
unfoldable pub next_task : Processors → Jobs → ℕ
next_task p j = best (is_unlinked p j) (is_higher j) most_tasks most_tasks

-- u is linked. If it runs on q, it is linked to q, and the job that was linked to q is linked to k and runs there. If
-- it is not running (q is `most_processors`), it is linked to k and runs there.
unfoldable pub filling : Processors → ℕ → ℕ → ℕ → Processors
filling p k u q = if ltb q most_processors then place_on (link_on p q u) k (link p q) else place_on p k u

-- Processor k has neither link nor job: the highest-priority unlinked runnable job, if any, is linked.
unfoldable pub refilling : Processors → Jobs → ℕ → Processors
refilling p j k = if ltb (next_task p j) most_tasks then filling p k (next_task p j) (run_of p (next_task p j)) else p

-- Finish or suspend, on processor k: the job leaves k. If k is linked to another job, that one runs; else k is
-- refilled.
unfoldable pub leaving_from : Processors → Jobs → ℕ → Processors
leaving_from p j k = awaited_else p k (refilling (place_on p k nobody) j k)

-- Finish or suspend: t leaves the processor that it runs on. If it is on none, nothing changes.
unfoldable pub leaving : Processors → Jobs → ℕ → Processors
leaving p j t = if ltb (run_of p t) most_processors then leaving_from p j (run_of p t) else p

-- Give way: an outermost long completion has restored t's priority. If an unlinked runnable job is now higher than t,
-- t loses its link and stops, and the rule for a freed processor follows, with t as a candidate.
unfoldable pub giving_way : Processors → Jobs → ℕ → Processors
giving_way p j t = if ltb (next_task p j) most_tasks && is_higher j (next_task p j) t then leaving p j t else p
