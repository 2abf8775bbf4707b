-- The constant of `Queue`.
use Rattle.std.specs.Prelude.{ℕ}
use Rattle.numbers.specs.Limits.{most_tasks}

-- how many tasks can wait: all of them
abbrev pub capacity : ℕ
capacity = most_tasks
