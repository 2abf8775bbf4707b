-- Requests and completions leave set-up, clock and dates alone, and who has a job. Assumes nothing.
use Prim.Native.Nat.{ℕ, zero, suc, ◌-◌, ◌≤◌}
use mathlib.Core.Path.{◌≡◌, refl, sym, ◌∙◌}
use mathlib.Core.Bool.{false}
use mathlib.Core.Logic.{◌≢◌}
use native.Mathlib.Omega.{arith}
use borrow.Author.Tests.{ne_eqb}
use Rattle.search.specs.Words.{◌is◌}
use Rattle.queue.specs.Waiting.{appended, without_first}
use Rattle.input.specs.Words.{kind}
use Rattle.setups.specs.Naming.{group_of}
use Rattle.input.specs.declared.Setup.{Setup}
use Rattle.numbers.specs.Limits.{nobody}
use Rattle.protocol.specs.Words.{absent, spinning, standing_no, group, stand, asked, len}
use Rattle.protocol.specs.Records.{with_standing}
use Rattle.protocol.specs.Locks.{opening, closing, on_task, lock_of, opens, enqueues, closes, frees, next_at, dequeues, passes}
use Rattle.protocol.specs.Edited.{request_edit, complete_edit}
use Rattle.protocol.specs.declared.Standing.TheVariants.{Active, Waiting}
use Rattle.protocol.specs.declared.State.{State}
use Rattle.protocol.proofs.Sound.Statements.{Grouped, Steady, Ends}
use Rattle.protocol.proofs.Events.Times.{Quiet, quiet_then, quiet_task, quiet_group}
use Rattle.protocol.proofs.Events.Branches.{request_edit_by, complete_edit_by}
use Rattle.protocol.proofs.Events.Kept.{kind_none, first_stands}

-- ---- the edits
opens_quiet : (t r g : ℕ) (s : State) → Quiet s (opens t r g s)
unfolding opens
opens_quiet t r g s = quiet_then s (on_task t (opening r) s) (opens t r g s) (quiet_task s t (opening r) (λ x. refl) refl) (quiet_group (on_task t (opening r) s) g t (group s g).queue)

closes_quiet : (t : ℕ) (s : State) → Quiet s (closes t s)
unfolding closes
closes_quiet t s = quiet_task s t closing (λ x. refl) refl

frees_quiet : (g : ℕ) (s : State) → Quiet s (frees g s)
unfolding frees
frees_quiet g s = quiet_group s g nobody (group s g).queue

-- who waits has a job
waits_here : (k r : ℕ) → (standing_no (Waiting (lock_of k r)) is absent) ≡ false
waits_here zero r = refl
waits_here (suc k) r = refl

enqueues_quiet : (c : Setup) (t r g : ℕ) (s : State) → stand s t ≢ absent → Quiet s (enqueues c t r g s)
unfolding enqueues stand
enqueues_quiet c t r g s h =
    let f = with_standing (Waiting (lock_of (kind c r) r)) in
    quiet_then s (on_task t f s) (enqueues c t r g s) (quiet_task s t f (λ x. refl) (waits_here (kind c r) r ∙ sym (ne_eqb _ _ h)))
    (quiet_group (on_task t f s) g (group s g).holder (appended (group s g).queue t))

passes_quiet : (g : ℕ) (s : State) → spinning ≤ stand s (next_at s g) → Quiet s (passes g s)
unfolding passes dequeues stand
passes_quiet g s h =
    let u = next_at s g in
    let f = with_standing Active in
    quiet_then s (dequeues g s) (passes g s)
    (quiet_then s (on_task u f s) (dequeues g s) (quiet_task s u f (λ x. refl) (sym (ne_eqb (stand s u) absent (λ z. omega arith))))
    (quiet_group (on_task u f s) g (group s g).holder (without_first (group s g).queue)))
    (opens_quiet u (asked s u) g (dequeues g s))

-- ---- a request
pub request_quiet : (c : Setup) (t r : ℕ) (s : State) → stand s t ≢ absent → Quiet s (request_edit c t r s)
request_quiet c t r s h = request_edit_by c t r s (Quiet s) (λ _. opens_quiet t r (group_of c r) s) (λ _ _. enqueues_quiet c t r (group_of c r) s h)

-- ---- a completion
module _ (c : Setup) (G : Grouped c) (s : State) (S : Steady c s) (t r : ℕ) (A : Ends s t r) where
  f : State
  f = frees (group_of c r) (closes t s)

  freed : Quiet s f
  unfolding f
  freed = quiet_then s (closes t s) f (closes_quiet t s) (frees_quiet (group_of c r) (closes t s))

  pub complete_quiet : Quiet s (complete_edit c t r s)
  unfolding f
  complete_quiet =
      let g = group_of c r in
      complete_edit_by c t r s (Quiet s) (λ _. closes_quiet t s) (λ _ _. freed)
      (λ e z. quiet_then s f (passes g f) freed (passes_quiet g f (first_stands c G s S t r A (kind_none c (closes t s) t r e) (len s g - 1) (omega arith))))
