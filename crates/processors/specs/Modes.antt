-- The modes of a job, which are the constants of `Jobs`.
use Rattle.std.specs.Prelude.{ℕ}

-- not runnable: there is no job, or it is suspended
abbrev pub off : ℕ
off = 0

-- runnable, and may be stopped for a higher job
abbrev pub preemptable : ℕ
preemptable = 1

-- runnable, and may not be stopped
abbrev pub non_preemptable : ℕ
non_preemptable = 2
