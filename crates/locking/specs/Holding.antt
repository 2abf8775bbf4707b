-- A session while a part of events is played: what it holds of the state of the rules.
use Rattle.std.specs.Prelude.{◌≡◌, ℕ, ◌<◌, ◌≤◌, min, length, slice_set}
use Rattle.search.specs.Table.{table}
use Rattle.processors.specs.Words.{jobs_from}
use Rattle.numbers.specs.Limits.{most_processors, most_tasks, most_resources, most_requests}
use Rattle.queue.specs.Limits.{capacity}
use Rattle.input.specs.Words.{period}
use Rattle.setups.specs.Naming.{names}
use Rattle.protocol.specs.Sound.{sound}
use Rattle.protocol.specs.Records.{total_count}
use Rattle.protocol.specs.Words.{task, group}
use Rattle.protocol.specs.declared.Task.{Task}
use Rattle.protocol.specs.declared.Group.{Group}
use Rattle.protocol.specs.declared.State.{State}
use Rattle.priorities.specs.Bounds.{rank_with}
use Rattle.locking.specs.declared.session.Session.{Session}
use Rattle.locking.specs.Edits.{moved_with}
use Rattle.locking.specs.Keeping.{kept_with, Keeps}
use Rattle.locking.specs.Ranking.{Ranked}

-- the arrays of a state have their lengths, and its periods two bytes: the types of the code say so
pub record Typed (s : State) : Type 0 where
  pub tasks : length s.tasks ≡ most_tasks
  pub groups : length s.groups ≡ most_resources
  pub requests : (t : ℕ) → length (task s t).requests ≡ most_requests
  pub totals : (t : ℕ) → length (task s t).totals ≡ total_count
  pub linked : length s.processors.linked ≡ most_processors
  pub running : length s.processors.running ≡ most_processors
  pub queues : (g : ℕ) → length (group s g).queue.tasks ≡ capacity
  pub periods : (t : ℕ) → period s.setup t < 65536

-- the session is at the state s
pub record Holds (s : State) (x : Session) : Type 0 where
  pub typed : Typed s
  pub given : x.state.setup ≡ s.setup
  pub tested : x.sound ≡ sound s
  pub named : x.naming ≡ names s.setup
  pub keeps : Keeps s x.state.clock x.state.tasks x.state.groups x.state.processors x.totals
      x.kept.own x.kept.modes x.kept.stands
  pub ranked : x.state.setup.tasks ≤ most_tasks → Ranked x.kept.stands x.kept.own x.state.setup.tasks x.ahead

-- with y as the record of task t, and z as that at place g
abbrev pub stored_in : ℕ → ℕ → Task → Group → Session → Session
stored_in t g y z x = record x {
  state = record x.state { tasks = slice_set x.state.tasks t y; groups = slice_set x.state.groups g z };
  kept = kept_with x.state.setup.kinds t y x.kept;
}

-- after task t's move `turn`
abbrev pub turned_in : ℕ → ℕ → Session → Session
turned_in turn t x =
    let c = x.state.setup in
    let ranks = table (rank_with x.kept.own c.kinds (min c.resources most_resources) x.state.groups) most_tasks in
    let p = moved_with turn x.state.processors (jobs_from ranks x.kept.modes) t in
    record x { state = record x.state { processors = p } }
