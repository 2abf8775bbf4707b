-- What the modes of the first n tasks tell. Assumes nothing.
use Prim.Native.Nat.{ℕ, ◌≤◌, ◌<◌}
use mathlib.Core.Path.{◌≡◌, sym}
use mathlib.Core.List.{List}
use native.Mathlib.Omega.{arith}
use native.Mathlib.Decide.{dec_lt}
use borrow.Author.Tests.{lt-ltb, le-ltb}
use Rattle.search.specs.Table.{table}
use Rattle.search.proofs.Tables.{table_at, table_same}
use Rattle.numbers.specs.Limits.{most_tasks}
use Rattle.processors.specs.Modes.{off}
use Rattle.processors.specs.Words.{jobs_from, first_modes, mode_of}

-- the mode of one of the first n, and of one past them
pub first_mode : (n : ℕ) (ranks modes : List ℕ) (t : ℕ) → t < n → mode_of (jobs_from ranks (first_modes n modes)) t ≡ mode_of (jobs_from ranks modes) t
unfolding mode_of first_modes
first_mode n ranks modes t h = elim (dec_lt t most_tasks) [
  | yes l ↦ rw (lt-ltb t most_tasks l, table_at _ most_tasks t off l, lt-ltb t n h)
  | no l ↦ let g : most_tasks ≤ t = omega arith in rw (le-ltb t most_tasks g)
]

pub past_mode : (n : ℕ) (ranks modes : List ℕ) (t : ℕ) → n ≤ t → mode_of (jobs_from ranks (first_modes n modes)) t ≡ off
unfolding mode_of first_modes
past_mode n ranks modes t h = elim (dec_lt t most_tasks) [
  | yes l ↦ rw (lt-ltb t most_tasks l, table_at _ most_tasks t off l, le-ltb t n h)
  | no l ↦ let g : most_tasks ≤ t = omega arith in rw (le-ltb t most_tasks g)
]

-- the modes of all tasks, where those past the first n have no runnable job
pub first_all : (n : ℕ) (f : ℕ → ℕ) → ((t : ℕ) → n ≤ t → t < most_tasks → f t ≡ off) → first_modes n (table f most_tasks) ≡ table f most_tasks
unfolding first_modes
first_all n f past = table_same _ f most_tasks (λ t l. elim (dec_lt t n) [
  | yes h ↦ rw (lt-ltb t n h) (table_at f most_tasks t off l)
  | no h ↦ let g : n ≤ t = omega arith in rw (le-ltb t n g) (sym (past t g l))
])
