-- A job that waits before and after an event waits for the same all along: its standing is changed only by being called. Assumes nothing.
use Prim.Native.Nat.{ℕ, ◌≤◌}
use mathlib.Core.Path.{◌≡◌, refl, ap, ◌∙◌}
use mathlib.Core.Logic.{◌≢◌, ◌⊎◌, inl, inr, ⊎_elim}
use mathlib.Core.List.{List}
use native.Mathlib.Omega.{arith}
use native.Mathlib.Decide.{dec_lt}
use lib.ListN.{length, get_or}
use lib.Seq.{set_out}
use Rattle.input.specs.Words.{kind}
use Rattle.setups.specs.Naming.{group_of}
use Rattle.input.specs.declared.Setup.{Setup}
use Rattle.input.specs.declared.Event.{Event}
use Rattle.protocol.specs.Words.{active, spinning, standing_no, asked_of, task, stand, asked}
use Rattle.protocol.specs.Records.{no_task, with_standing}
use Rattle.protocol.specs.Refusals.{step_of, judge}
use Rattle.protocol.specs.Locks.{opening, closing, arriving, departing, on_task, lock_of, opens, enqueues, closes, frees, next_at, dequeues, passes}
use Rattle.protocol.specs.Edited.{request_edit, complete_edit, edited}
use Rattle.protocol.specs.Events.{charged}
use Rattle.protocol.specs.declared.Standing.TheVariants.{Active, Waiting}
use Rattle.protocol.specs.declared.Task.{Task}
use Rattle.protocol.specs.declared.State.{State}
use Rattle.protocol.proofs.Sound.Statements.{Sound}
use Rattle.protocol.proofs.Edits.Untouched.{at_one}
use Rattle.protocol.proofs.Edits.Equations.{same_task, task_at_lem, task_off}
use Rattle.protocol.proofs.Events.Branches.{request_edit_by, complete_edit_by}
use Rattle.protocol.proofs.Events.Edited.{Does, by_edit}
use Rattle.protocol.proofs.Events.Step.{same_of, asks_of, edited_by}

-- w stands as it did, and asks for the same
abbrev pub Same : State → State → ℕ → Type 0
Same s s' w = (stand s' w ≡ stand s w) × (asked s' w ≡ asked s w)

-- if it waits in s'
abbrev Stays : State → State → ℕ → Type 0
Stays s s' w = spinning ≤ stand s' w → Same s s' w

stays_then : (s₁ s₂ s₃ : State) (w : ℕ) → Stays s₁ s₂ w → Stays s₂ s₃ w → Stays s₁ s₃ w
stays_then s₁ s₂ s₃ w P Q h = let y = Q h in let x = P (omega (arith, y.0)) in (y.0 ∙ x.0, y.1 ∙ x.1)

-- ---- the edits
-- a task that waits no more, or stands as it did
stays_task : (s : State) (t : ℕ) (f : Task → Task) → (standing_no (f (task s t)).standing ≤ active) ⊎ ((f (task s t)).standing ≡ (task s t).standing) → (w : ℕ) → Stays s (on_task t f s) w
unfolding stand asked
stays_task s t f how = at_one (Stays s (on_task t f s)) t
    (elim (dec_lt t (length s.tasks)) [
      | yes l ↦
          let e = ap (λ (x : Task). x.standing) (task_at_lem s t f l) in
          λ h. ⊎_elim (λ z. absurd (omega (arith, ap standing_no e, h))) (λ z. (ap standing_no (e ∙ z), ap asked_of (e ∙ z))) how
      | no l ↦
          let e = ap (λ (x : List Task). (get_or x t no_task).standing) (set_out s.tasks t (f (task s t)) (omega arith)) in
          λ h. (ap standing_no e, ap asked_of e)
    ])
    (λ u d h. let E = same_task s (on_task t f s) u (task_off s t f u d) in (E.stood, E.wants))

module _ (s : State) (g w : ℕ) where
  opens_stays : (t r : ℕ) → Stays s (opens t r g s) w
  unfolding opens stand asked
  opens_stays t r = stays_task s t (opening r) (inr refl) w

  freed_stays : (t : ℕ) → Stays s (frees g (closes t s)) w
  unfolding frees closes stand asked
  freed_stays t = stays_task s t closing (inr refl) w

  enqueues_stays : (c : Setup) (t r : ℕ) → w ≢ t → Stays s (enqueues c t r g s) w
  unfolding enqueues stand asked
  enqueues_stays c t r d h = let E = same_task s (enqueues c t r g s) w (task_off s t (with_standing (Waiting (lock_of (kind c r) r))) w d) in (E.stood, E.wants)

  dequeues_stays : Stays s (dequeues g s) w
  unfolding dequeues stand asked
  dequeues_stays = stays_task s (next_at s g) (with_standing Active) (inl (omega arith)) w

passes_stays : (s : State) (g w : ℕ) → Stays s (passes g s) w
unfolding passes
passes_stays s g w = stays_then s (dequeues g s) _ w (dequeues_stays s g w) (opens_stays (dequeues g s) g w (next_at s g) (asked s (next_at s g)))

-- ---- the events
module _ (c : Setup) (t r : ℕ) (s : State) (w : ℕ) where
  abbrev g : ℕ
  g = group_of c r

  request_stays : w ≢ t → Stays s (request_edit c t r s) w
  request_stays d = request_edit_by c t r s (λ x. Stays s x w) (λ _. opens_stays s g w t r) (λ _ _. enqueues_stays s g w c t r d)

  complete_stays : Stays s (complete_edit c t r s) w
  unfolding frees closes stand asked
  complete_stays =
      let f = frees g (closes t s) in
      let freed = freed_stays s g w t in
      complete_edit_by c t r s (λ x. Stays s x w) (λ _. freed) (λ _ _. freed) (λ _ _. stays_then s f (passes g f) w freed (passes_stays f g w))

edited_stays : (s : State) (e : Event) → Sound s → judge s e ≡ 0 → (w : ℕ) → spinning ≤ stand s w → Stays s (edited s.setup e (charged (step_of s e) s)) w
edited_stays s e Q ok w waits =
    let s₁ = charged (step_of s e) s in
    let c = s.setup in
    let t = e.task in
    let r = e.resource in
    let same = same_of s e Q ok in
    let then : (x : State) → Stays s₁ x w → Stays s x w = λ x. stays_then s s₁ x w (λ _. ((same w).stood, (same w).wants)) in
    edited_by s e Q ok (λ x. Stays s x w)
    (λ _. then _ (stays_task s₁ t (arriving s₁.clock _) (inl (omega arith)) w))
    (λ _. then _ (stays_task s₁ t departing (inl (omega arith)) w))
    (λ k. then _ (request_stays c t r s₁ w (λ d. omega (arith, (asks_of s e Q ok k).acts.act, (same t).stood, ap (stand s) d))))
    (λ _. then _ (complete_stays c t r s₁ w))
    (λ _. then s₁ (λ _. (refl, refl)))

pub step_stays : (s : State) (e : Event) → Sound s → judge s e ≡ 0 → (s' : State) → Does s e s' → (w : ℕ) → spinning ≤ stand s w → spinning ≤ stand s' w → Same s s' w
unfolding stand asked
step_stays s e Q ok s' D w waits = by_edit (λ x. Stays s x w) s e s' D (λ p. edited_stays s e Q ok w waits)
