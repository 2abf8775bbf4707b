-- A state is within the bounds of its ranks where its times are sound, and stays so where a record of a task is stored. Assumes nothing.
use Rattle.std.proofs.Common.{◌≡◌, ℕ, ◌<◌, ◌≤◌, true, length, sym, ap, ◌∙◌, subst, arith, get_or-set_other, get_or-set_same}
use native.Mathlib.Decide.{ℕ_discrete}
use Rattle.search.proofs.Tests.{tests}
use Rattle.numbers.specs.Limits.{most_tasks, most_resources}
use Rattle.protocol.specs.Records.{no_task}
use Rattle.input.specs.Words.{period}
use Rattle.protocol.specs.Words.{absent, stand, task, deadline}
use Rattle.protocol.specs.declared.Task.{Task}
use Rattle.protocol.specs.declared.Group.{Group}
use Rattle.protocol.specs.declared.State.{State}
use Rattle.protocol.proofs.Sound.Statements.{Times}
use Rattle.priorities.specs.Bounds.{latest, is_bounded}
use Rattle.priorities.proofs.Bounding.{resources_bounded, deadline_bounded}
use Rattle.locking.specs.Edits.{put}

pub within_bounds : (s : State) → s.setup.resources ≤ most_resources → ((t : ℕ) → t < most_tasks → (task s t).deadline ≤ latest) → is_bounded s ≡ true
unfolding is_bounded
within_bounds s few due = simp tests (few, due)

-- where the times are sound, and the periods fit their type
pub times_bounded : (s : State) → s.setup.resources ≤ most_resources → ((t : ℕ) → period s.setup t < 65536) → Times s → is_bounded s ≡ true
unfolding deadline
times_bounded s few short T = within_bounds s few (λ t l. elim (ℕ_discrete (stand s t) absent) [
  | yes x ↦ omega (arith, (T.tasks t).undated x)
  | no x ↦ let y = (T.tasks t).pending x in omega (arith, y.1, ((T.tasks t).arrived y.0).1, T.clock, short t)
])

pub put_bounded : (s : State) → is_bounded s ≡ true → length s.tasks ≡ most_tasks → (t g : ℕ) (x : Task) (y : Group) → x.deadline ≤ latest → is_bounded (put t g x y s) ≡ true
put_bounded s h long t g x y low = within_bounds (put t g x y s) (resources_bounded s h) (λ u l. elim (ℕ_discrete u t) [
  | yes e ↦ subst (λ (z : Task). z.deadline ≤ latest) (sym (ap (task (put t g x y s)) e ∙ get_or-set_same s.tasks t x no_task (omega (arith, long)))) low
  | no d ↦ subst (λ (z : Task). z.deadline ≤ latest) (sym (get_or-set_other s.tasks t u x no_task d)) (deadline_bounded s h u l)
])
