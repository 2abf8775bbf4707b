-- What is kept of a state while a part of events is played: its records; the totals of all tasks, in one table of
-- numbers; and for each task three numbers that moves and charges look up.
use Rattle.std.specs.Prelude.{◌≡◌, ℕ, List, length, get_or, slice_index_or, slice_set}
use Rattle.search.specs.Table.{table}
use Rattle.processors.specs.declared.Processors.{Processors}
use Rattle.numbers.specs.Limits.{most_tasks}
use Rattle.protocol.specs.Records.{no_task}
use Rattle.protocol.specs.Words.{standing_no}
use Rattle.protocol.specs.declared.Task.{Task}
use Rattle.protocol.specs.declared.Group.{Group}
use Rattle.protocol.specs.declared.State.{State}
use Rattle.priorities.specs.Bounds.{rank_by, mode_in}
use Rattle.locking.specs.declared.moving.Kept.{Kept}
use Rattle.locking.specs.Totals.{all_totals, counted}

-- the three numbers of each task, from the records
abbrev pub kept_in : List ℕ → List Task → Kept
kept_in kinds tasks = record {
  own = table (λ t. rank_by (get_or tasks t no_task).deadline t) most_tasks;
  modes = table (λ t. mode_in kinds (slice_index_or tasks t no_task)) most_tasks;
  stands = table (λ t. standing_no (get_or tasks t no_task).standing) most_tasks;
}

-- the three numbers of each task, with x as the new record of task t
abbrev pub kept_with : List ℕ → ℕ → Task → Kept → Kept
kept_with kinds t x k = record {
  own = slice_set k.own t (rank_by x.deadline t);
  modes = slice_set k.modes t (mode_in kinds x);
  stands = slice_set k.stands t (standing_no x.standing);
}

-- the clock, the records, the processors and the tables are those of s; only the totals in the records are out of
-- date
pub record Keeps
    (s : State) (clock : ℕ) (ts : List Task) (gs : List Group) (p : Processors) (totals own modes stands : List ℕ)
    : Type 0 where
  pub timed : clock ≡ s.clock
  pub recorded : s.tasks ≡ counted ts totals
  pub grouped : gs ≡ s.groups
  pub placed : p ≡ s.processors
  pub ranked : own ≡ (kept_in s.setup.kinds s.tasks).own
  pub ready : modes ≡ (kept_in s.setup.kinds s.tasks).modes
  pub stood : stands ≡ (kept_in s.setup.kinds s.tasks).stands
  pub few : length ts ≡ most_tasks
  pub all : length totals ≡ all_totals
