-- The parts of a set-up. A place past a table reads 0.
use Rattle.std.specs.Prelude.{ℕ, ◌+◌, Bool, ◌&&◌, leb, ltb, get_or, replicate}
use Rattle.search.specs.Below.{any_below}
use Rattle.numbers.specs.Limits.{most_tasks, most_resources, most_pairs}
use Rattle.input.specs.declared.Setup.{Setup}

-- every count and every place is 0
abbrev pub no_setup : Setup
no_setup = record {
  processors = 0;
  tasks = 0;
  resources = 0;
  pairs = 0;
  start = 0;
  periods = replicate most_tasks 0;
  kinds = replicate most_resources 0;
  outer = replicate most_pairs 0;
  inner = replicate most_pairs 0;
}

-- n is at least low and at most high
abbrev pub within : ℕ → ℕ → ℕ → Bool
within low n high = leb low n && leb n high

module _ (c : Setup) where
  -- the period of task t
  abbrev pub period : ℕ → ℕ
  period t = get_or c.periods t 0

  -- the deadline of a job of t that arrives at `now`: arrival plus period
  abbrev pub due_at : ℕ → ℕ → ℕ
  due_at t now = now + period t

  -- the kind of resource r
  abbrev pub kind : ℕ → ℕ
  kind r = get_or c.kinds r 0

  -- the outer resource of pair i
  abbrev pub outer_of : ℕ → ℕ
  outer_of i = get_or c.outer i 0

  -- the inner resource of pair i
  abbrev pub inner_of : ℕ → ℕ
  inner_of i = get_or c.inner i 0

  -- some task of the set-up passes
  abbrev pub some_task : (ℕ → Bool) → Bool
  some_task ok = any_below most_tasks (λ t. ltb t c.tasks && ok t)

  -- some resource of the set-up passes
  abbrev pub some_resource : (ℕ → Bool) → Bool
  some_resource ok = any_below most_resources (λ r. ltb r c.resources && ok r)

  -- some pair of the set-up passes
  abbrev pub some_pair : (ℕ → Bool) → Bool
  some_pair ok = any_below most_pairs (λ i. ltb i c.pairs && ok i)
