-- What `is_bounded` says of the parts of a state. Assumes nothing.
use Prim.Native.Nat.{ℕ, ◌<◌, ◌≤◌}
use mathlib.Core.Path.{◌≡◌}
use mathlib.Core.Bool.{true}
use Rattle.search.proofs.Tests.{tests}
use Rattle.numbers.specs.Limits.{most_tasks, most_resources}
use Rattle.protocol.specs.Words.{task}
use Rattle.protocol.specs.declared.State.{State}
use Rattle.priorities.specs.Bounds.{latest, is_bounded}

module _ (s : State) (h : is_bounded s ≡ true) where
  pub resources_bounded : s.setup.resources ≤ most_resources
  unfolding is_bounded
  resources_bounded = (simp tests at h).0

  pub deadline_bounded : (t : ℕ) → t < most_tasks → (task s t).deadline ≤ latest
  unfolding is_bounded
  deadline_bounded = (simp tests at h).1
