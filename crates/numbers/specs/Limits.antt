-- RULES.md, 'Numbers': the limits, which are the constants of `Limit`.
use Rattle.std.specs.Prelude.{ℕ}

abbrev pub most_processors : ℕ
most_processors = 8

abbrev pub most_tasks : ℕ
most_tasks = 32

abbrev pub most_resources : ℕ
most_resources = 32

-- nesting pairs of a set-up
abbrev pub most_pairs : ℕ
most_pairs = 64

-- open requests of a job
abbrev pub most_requests : ℕ
most_requests = 8

-- no task: what an empty place holds
abbrev pub nobody : ℕ
nobody = 255

-- no resource: what an empty place holds
abbrev pub nothing : ℕ
nothing = nobody
