-- How long the tables of tasks and of groups are, from their types. Assumes nothing.
use mathlib.Core.Path.{◌≡◌}
use mathlib.Core.List.{List}
use lib.ListN.{length}
use mir.Val.{Val}
use denote.Shadow.{shadow}
use Rattle.numbers.specs.Limits.{most_tasks, most_resources}
use Rattle.protocol.specs.contracts.State as state-type
use Rattle.protocol.specs.declared.State.{State}

pub tasks_long : (s : State) (vs : List Val) → shadow ((state-type.the_field).row.own_val ((state-type.the_field).into s) vs) → length s.tasks ≡ most_tasks
tasks_long s vs h = h.1.1.1.1.0.1.0.1

pub groups_long : (s : State) (vs : List Val) → shadow ((state-type.the_field).row.own_val ((state-type.the_field).into s) vs) → length s.groups ≡ most_resources
groups_long s vs h = h.1.1.1.1.1.0.1.0.1
