-- What the clauses of the sound state bound: queues and deadlines, and so the ranks. Assumes nothing.
use Prim.Native.Nat.{ℕ, ◌<◌, ◌≤◌}
use mathlib.Core.Path.{◌≡◌}
use mathlib.Core.Bool.{true}
use native.Mathlib.Omega.{arith}
use native.Mathlib.Decide.{ℕ_discrete}
use borrow.Author.Tests.{leb-true, eqb-true}
use Rattle.search.proofs.Tests.{tests, and_iff, and_left, all_below_at}
use Rattle.queue.specs.Limits.{capacity}
use Rattle.queue.specs.Waiting.{is_tidy}
use Rattle.queue.specs.declared.Queue.{Queue}
use Rattle.numbers.specs.Limits.{most_tasks}
use Rattle.input.specs.Words.{period}
use Rattle.setups.specs.Refusals.{setup_refusal}
use Rattle.setups.proofs.Accepted.{accepted_iff}
use Rattle.protocol.specs.Words.{task, stand, deadline}
use Rattle.protocol.specs.Sound.{clock_sound, times_sound}
use Rattle.protocol.specs.declared.State.{State}
use Rattle.priorities.specs.Bounds.{latest, is_bounded}
use Rattle.priorities.proofs.Ruled.{jobs_ruled}
use Rattle.soundness.specs.Parts.{frame_sound, ViewIsRuled}

pub tidy_len : (q : Queue) → is_tidy q ≡ true → q.len ≤ capacity
unfolding is_tidy
tidy_len q h = leb-true q.len capacity (and_left _ _ h)

module _ (s : State) where
  -- a period is a u16
  dated_within : clock_sound s.setup s ≡ true → (t : ℕ) → period s.setup t < 65536 → times_sound s.setup s t ≡ true → (task s t).deadline ≤ latest
  unfolding clock_sound times_sound deadline
  dated_within k t p h =
      let y = simp tests at h in
      let clock = simp tests at k in
      elim (ℕ_discrete (stand s t) 0) [
        | yes e ↦ omega (arith, y.0.1 e)
        | no n ↦
            let x = y.0.0.1 n in
            omega (arith, (y.0.0.0 x.0).1)
      ]

  within : ((t : ℕ) → period s.setup t < 65536) → frame_sound s ≡ true → is_bounded s ≡ true
  unfolding is_bounded
  within p f =
      let frame = simp and_iff at f in
      let accepted = (accepted_iff s.setup).0 (eqb-true (setup_refusal s.setup) 0 frame.0.0.0) in
      let dates = all_below_at most_tasks (times_sound s.setup s) frame.1 in
      simp tests (accepted.resources, λ t h. dated_within frame.0.1 t (p t) (dates t h))

pub view_ruled : ViewIsRuled
view_ruled s tasked p f = jobs_ruled s tasked (within s p f)
