-- The kinds of event, and the branches of a request and of a completion, taken apart once: for what an event does to tasks and groups
-- alone beside the event with the scheduler's moves, and for each by itself. Assumes nothing.
use Prim.Native.Nat.{ℕ, ◌≤◌}
use mathlib.Core.Path.{◌≡◌, refl}
use mathlib.Core.Bool.{Bool, true, false}
use mathlib.Core.Logic.{◌≢◌, ◌⊎◌, inl, inr}
use native.Mathlib.Omega.{arith}
use native.Mathlib.Decide.{ℕ_discrete}
use borrow.Author.Tests.{eqb-true, eqb-false, eq-eqb, ne_eqb}
use Rattle.std.specs.Prelude.{if◌then◌else◌}
use Rattle.search.specs.Words.{◌is◌}
use Rattle.input.specs.Kinds.{short, arrival, finish, request as asking, completion, passing}
use Rattle.input.specs.Words.{kind}
use Rattle.setups.specs.Naming.{group_of}
use Rattle.input.specs.declared.Setup.{Setup}
use Rattle.numbers.specs.Limits.{nobody}
use Rattle.protocol.specs.Words.{holder, len}
use Rattle.protocol.specs.Locks.{open_of_kind, opens, enqueues, closes, frees, next_at, passes}
use Rattle.protocol.specs.Edited.{request_edit, complete_edit}
use Rattle.protocol.specs.Events.{Prefers, cold, arrives, leaves, becomes_preemptable, gives_way, request_event, complete_event}
use Rattle.protocol.specs.declared.State.{State}

-- two choices by the same kind
pub kind_both : {A : Type 0} (P : A → A → Type 0) (n : ℕ) (a b q d z a' b' q' d' z' : A) → (arrival ≤ n) × (n ≤ passing)
    → (n ≡ arrival → P a a') → (n ≡ finish → P b b') → (n ≡ asking → P q q') → (n ≡ completion → P d d') → (n ≡ passing → P z z')
    → P (if n is arrival then a else if n is finish then b else if n is asking then q else if n is completion then d else z)
    (if n is arrival then a' else if n is finish then b' else if n is asking then q' else if n is completion then d' else z')
kind_both P n a b q d z a' b' q' d' z' l comes goes asks ends passes =
    elim (ℕ_discrete n arrival) [
      | yes k ↦ rw (eq-eqb _ _ k) (comes k)
      | no u ↦ rw (ne_eqb _ _ u) (
          elim (ℕ_discrete n finish) [
            | yes k ↦ rw (eq-eqb _ _ k) (goes k)
            | no v ↦ rw (ne_eqb _ _ v) (
                elim (ℕ_discrete n asking) [
                  | yes k ↦ rw (eq-eqb _ _ k) (asks k)
                  | no w ↦ rw (ne_eqb _ _ w) (
                      elim (ℕ_discrete n completion) [
                        | yes k ↦ rw (eq-eqb _ _ k) (ends k)
                        | no x ↦ rw (ne_eqb _ _ x) (passes (omega (arith, l.0, l.1)))
                      ])
                ])
          ])
    ]

-- tasks and groups alone, beside the whole event
module _ (c : Setup) (t r : ℕ) (s : State) (P : State → State → Type 0) where
  pub request_both : ((open_of_kind c s t r ≡ true) ⊎ (holder s (group_of c r) ≡ nobody) → P (opens t r (group_of c r) s) (opens t r (group_of c r) s))
      → (open_of_kind c s t r ≡ false → holder s (group_of c r) ≢ nobody → kind c r ≡ short → P (enqueues c t r (group_of c r) s) (enqueues c t r (group_of c r) s))
      → (open_of_kind c s t r ≡ false → holder s (group_of c r) ≢ nobody → kind c r ≢ short → P (enqueues c t r (group_of c r) s) (leaves c t (enqueues c t r (group_of c r) s)))
      → P (request_edit c t r s) (request_event c t r s)
  unfolding request_edit request_event
  request_both a b d = go (open_of_kind c s t r) refl (holder s (group_of c r) is nobody) refl (kind c r is short) refl
    where
      go : (x : Bool) → open_of_kind c s t r ≡ x → (y : Bool) → (holder s (group_of c r) is nobody) ≡ y → (k : Bool) → (kind c r is short) ≡ k
          → P (request_edit c t r s) (request_event c t r s)
      go true e y f k q = rw e (a (inl e))
      go false e true f k q = rw (e, f) (a (inr (eqb-true _ _ f)))
      go false e false f true q = rw (e, f, q) (b e (eqb-false _ _ f) (eqb-true _ _ q))
      go false e false f false q = rw (e, f, q) (d e (eqb-false _ _ f) (eqb-false _ _ q))

  pub complete_both : (pick : Prefers) → (open_of_kind c (closes t s) t r ≡ true → P (closes t s) (closes t s))
      → (open_of_kind c (closes t s) t r ≡ false → kind c r ≡ short → len s (group_of c r) ≡ 0 → P (frees (group_of c r) (closes t s)) (becomes_preemptable c t (frees (group_of c r) (closes t s))))
      → (open_of_kind c (closes t s) t r ≡ false → kind c r ≡ short → len s (group_of c r) ≢ 0
      → P (passes (group_of c r) (frees (group_of c r) (closes t s))) (becomes_preemptable c t (passes (group_of c r) (frees (group_of c r) (closes t s)))))
      → (open_of_kind c (closes t s) t r ≡ false → kind c r ≢ short → len s (group_of c r) ≡ 0 → P (frees (group_of c r) (closes t s)) (gives_way c t (frees (group_of c r) (closes t s))))
      → (open_of_kind c (closes t s) t r ≡ false → kind c r ≢ short → len s (group_of c r) ≢ 0
      → P (passes (group_of c r) (frees (group_of c r) (closes t s)))
      (arrives pick c (next_at s (group_of c r)) (passes (group_of c r) (gives_way c t (frees (group_of c r) (closes t s))))))
      → P (complete_edit c t r s) (complete_event pick c t r s)
  unfolding complete_edit complete_event
  complete_both pick inner se sp le lp = go (open_of_kind c (closes t s) t r) refl (kind c r is short) refl (len s (group_of c r) is 0) refl
    where
      go : (x : Bool) → open_of_kind c (closes t s) t r ≡ x → (k : Bool) → (kind c r is short) ≡ k → (n : Bool) → (len s (group_of c r) is 0) ≡ n
          → P (complete_edit c t r s) (complete_event pick c t r s)
      go true e k q n z = rw e (inner e)
      go false e true q true z = rw (e, q, z) (se e (eqb-true _ _ q) (eqb-true _ _ z))
      go false e true q false z = rw (e, q, z) (sp e (eqb-true _ _ q) (eqb-false _ _ z))
      go false e false q true z = rw (e, q, z) (le e (eqb-false _ _ q) (eqb-true _ _ z))
      go false e false q false z = rw (e, q, z) (lp e (eqb-false _ _ q) (eqb-false _ _ z))

-- the whole event
module _ (c : Setup) (t r : ℕ) (s : State) (P : State → Type 0) where
  pub request_by : ((open_of_kind c s t r ≡ true) ⊎ (holder s (group_of c r) ≡ nobody) → P (opens t r (group_of c r) s))
      → (open_of_kind c s t r ≡ false → holder s (group_of c r) ≢ nobody → kind c r ≡ short → P (enqueues c t r (group_of c r) s))
      → (open_of_kind c s t r ≡ false → holder s (group_of c r) ≢ nobody → kind c r ≢ short → P (leaves c t (enqueues c t r (group_of c r) s)))
      → P (request_event c t r s)
  request_by = request_both c t r s (λ _ x. P x)

module _ (pick : Prefers) (c : Setup) (t r : ℕ) (s : State) (P : State → Type 0) where
  pub complete_by : (open_of_kind c (closes t s) t r ≡ true → P (closes t s))
      → (open_of_kind c (closes t s) t r ≡ false → kind c r ≡ short → len s (group_of c r) ≡ 0 → P (becomes_preemptable c t (frees (group_of c r) (closes t s))))
      → (open_of_kind c (closes t s) t r ≡ false → kind c r ≡ short → len s (group_of c r) ≢ 0 → P (becomes_preemptable c t (passes (group_of c r) (frees (group_of c r) (closes t s)))))
      → (open_of_kind c (closes t s) t r ≡ false → kind c r ≢ short → len s (group_of c r) ≡ 0 → P (gives_way c t (frees (group_of c r) (closes t s))))
      → (open_of_kind c (closes t s) t r ≡ false → kind c r ≢ short → len s (group_of c r) ≢ 0
      → P (arrives pick c (next_at s (group_of c r)) (passes (group_of c r) (gives_way c t (frees (group_of c r) (closes t s))))))
      → P (complete_event pick c t r s)
  complete_by = complete_both c t r s (λ _ x. P x) pick

-- tasks and groups alone
module _ (c : Setup) (t r : ℕ) (s : State) (P : State → Type 0) where
  pub request_edit_by : ((open_of_kind c s t r ≡ true) ⊎ (holder s (group_of c r) ≡ nobody) → P (opens t r (group_of c r) s))
      → (open_of_kind c s t r ≡ false → holder s (group_of c r) ≢ nobody → P (enqueues c t r (group_of c r) s))
      → P (request_edit c t r s)
  request_edit_by a b = request_both c t r s (λ x _. P x) a (λ e h _. b e h) (λ e h _. b e h)

  pub complete_edit_by : (open_of_kind c (closes t s) t r ≡ true → P (closes t s))
      → (open_of_kind c (closes t s) t r ≡ false → len s (group_of c r) ≡ 0 → P (frees (group_of c r) (closes t s)))
      → (open_of_kind c (closes t s) t r ≡ false → len s (group_of c r) ≢ 0 → P (passes (group_of c r) (frees (group_of c r) (closes t s))))
      → P (complete_edit c t r s)
  complete_edit_by inner empty pass = complete_both c t r s (λ x _. P x) cold inner (λ e _ z. empty e z) (λ e _ z. pass e z) (λ e _ z. empty e z) (λ e _ z. pass e z)
