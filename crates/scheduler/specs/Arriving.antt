-- RULES.md, 'The scheduler's moves': arrive or resume.
use Rattle.std.specs.Prelude.{ℕ, Bool, ◌&&◌, ltb, if◌then◌else◌}
use Rattle.search.specs.Words.{◌is◌}
use Rattle.search.specs.First.{first}
use Rattle.search.specs.Best.{best}
use Rattle.numbers.specs.Limits.{most_processors, nobody}
use Rattle.processors.specs.Modes.{preemptable}
use Rattle.processors.specs.Words.{mode_of, link, runs, is_higher, place_on, link_on}
use Rattle.processors.specs.declared.Jobs.{Jobs}
use Rattle.processors.specs.declared.Processors.{Processors}

-- k is a processor
abbrev pub is_used : Processors → ℕ → Bool
is_used p k = ltb k p.count

-- an unlinked processor
abbrev pub is_free : Processors → ℕ → Bool
is_free p k = is_used p k && link p k is nobody

-- the lowest-numbered unlinked processor, or `most_processors` where there is none
unfoldable pub lowest_free : Processors → ℕ
lowest_free p = first (is_free p) 0 most_processors

-- the link of processor a has a lower priority than that of b
abbrev pub links_lower : Processors → Jobs → ℕ → ℕ → Bool
links_lower p j a b = is_higher j (link p b) (link p a)

-- the processor with the lowest-priority linked job, or `most_processors` where there is no processor
unfoldable pub lowest_linked : Processors → Jobs → ℕ
lowest_linked p j = best (is_used p) (links_lower p j) most_processors most_processors

-- the job linked to processor k is running and preemptable
abbrev pub can_preempt : Processors → Jobs → ℕ → Bool
can_preempt p j k = runs p k is link p k && mode_of j (link p k) is preemptable

-- No processor is unlinked, and k has the lowest-priority linked job: if the arriving job t is higher, it takes that
-- link; it runs at once only if the displaced job is running and preemptable.
unfoldable pub displacing : Processors → Jobs → ℕ → ℕ → Processors
displacing p j t k =
    if ltb k most_processors && is_higher j t (link p k) then
    if can_preempt p j k then place_on p k t else link_on p k t
    else p

-- If k is an unlinked processor, t is linked to it and runs there; with `most_processors` for k there is none.
unfoldable pub arriving_on : Processors → Jobs → ℕ → ℕ → Processors
arriving_on p j t k = if ltb k most_processors then place_on p k t else displacing p j t (lowest_linked p j)

-- the processor taken where k is suggested: k, if it is unlinked; else the lowest-numbered unlinked one, or
-- `most_processors`
unfoldable pub taken : Processors → ℕ → ℕ
taken p k = if ltb k most_processors && is_free p k then k else lowest_free p

-- t arrives or resumes, and processor k is suggested; `nobody` suggests none, as in the rules
unfoldable pub arriving : Processors → Jobs → ℕ → ℕ → Processors
arriving p j t k = arriving_on p j t (taken p k)
