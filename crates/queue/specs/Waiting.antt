-- A queue holds the waiting tasks in the order they asked.
use Rattle.std.specs.Prelude.{ℕ, ◌+◌, ◌-◌, Bool, ◌&&◌, List, [], ◌∷◌, ◌++◌, get_or, set, take, drop, replicate, leb, ltb, if◌then◌else◌}
use Rattle.search.specs.Words.{◌is◌, ◌implies◌}
use Rattle.search.specs.Below.{all_below}
use Rattle.search.specs.First.{first}
use Rattle.queue.specs.Limits.{capacity}
use Rattle.numbers.specs.Limits.{nobody}
use Rattle.queue.specs.declared.Queue.{Queue}

-- the waiting tasks: the first `len` of the places
unfoldable pub waiting : Queue → List ℕ
waiting q = take q.len q.tasks

-- the task that waits at place i, or nobody
unfoldable pub waiter : Queue → ℕ → ℕ
waiter q i = get_or (waiting q) i nobody

-- nobody waits
unfoldable pub empty : Queue
empty = record { tasks = replicate capacity nobody; len = 0 }

-- t is enqueued at the end; a full queue stays as it is
unfoldable pub appended : Queue → ℕ → Queue
appended q t = if ltb q.len capacity then record { tasks = set q.tasks q.len t; len = q.len + 1 } else q

-- each place holds what the next one held, the last one nobody
unfoldable pub moved_up : List ℕ → List ℕ
moved_up tasks = drop 1 tasks ++ (nobody ∷ [])

-- the first task is dequeued, and the others move up a place; an empty queue stays as it is
unfoldable pub without_first : Queue → Queue
without_first q = if ltb 0 q.len then record { tasks = moved_up q.tasks; len = q.len - 1 } else q

-- the first place at which t waits; the capacity where it does not wait
unfoldable pub place_of : Queue → ℕ → ℕ
place_of q t = first (λ i. waiter q i is t) 0 capacity

-- place i is before the length, or empty
unfoldable pub is_clear : Queue → ℕ → Bool
is_clear q i = leb q.len i implies (get_or q.tasks i nobody is nobody)

-- no more tasks wait than there is room for, and the places past the length are empty
unfoldable pub is_tidy : Queue → Bool
is_tidy q = leb q.len capacity && all_below capacity (is_clear q)
