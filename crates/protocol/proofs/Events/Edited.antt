-- An event does to tasks and groups what `edited` says: the scheduler's moves change the processors alone. Assumes nothing.
use Prim.Native.Nat.{ℕ}
use mathlib.Core.Path.{◌≡◌, refl, sym, ap, subst}
use mathlib.Core.Bool.{Bool, true, false}
use borrow.Author.Tests.{eq-eqb}
use Rattle.std.specs.Prelude.{if◌then◌else◌}
use Rattle.search.specs.Words.{◌is◌}
use Rattle.processors.specs.declared.Processors.{Processors}
use Rattle.input.specs.Kinds.{arrival, finish, request as asking, completion}
use Rattle.input.specs.declared.Setup.{Setup}
use Rattle.input.specs.declared.Event.{Event}
use Rattle.protocol.specs.Words.{asked, waiter}
use Rattle.protocol.specs.Refusals.{step_of, judge}
use Rattle.protocol.specs.Locks.{opens, enqueues, closes, frees, dequeues, passes, arrive_edit, finish_edit}
use Rattle.protocol.specs.Edited.{request_edit, complete_edit, edited}
use Rattle.protocol.specs.Records.{with_processors}
use Rattle.protocol.specs.Events.{Prefers, arrives, leaves, becomes_preemptable, gives_way, arrive_event, finish_event, request_event, complete_event, charged, act, step_by}
use Rattle.protocol.specs.declared.State.{State}
use Rattle.protocol.proofs.Events.Branches.{request_both, complete_both}

-- s' is x but for the processors
abbrev pub Agrees : State → State → Type 0
Agrees x s' = s' ≡ with_processors s'.processors x

-- an event with the processors put back is its edit
module _ (pick : Prefers) (c : Setup) (s : State) where
  abbrev IsBack : State → State → Type 0
  IsBack x s' = with_processors s.processors s' ≡ x

  request_back : (t r : ℕ) → IsBack (request_edit c t r s) (request_event c t r s)
  unfolding leaves opens enqueues
  request_back t r = request_both c t r s IsBack (λ _. refl) (λ _ _ _. refl) (λ _ _ _. refl)

  complete_back : (t r : ℕ) → IsBack (complete_edit c t r s) (complete_event pick c t r s)
  unfolding arrives becomes_preemptable gives_way passes opens dequeues asked waiter closes frees
  complete_back t r = complete_both c t r s IsBack pick (λ _. refl) (λ _ _ _. refl) (λ _ _ _. refl) (λ _ _ _. refl) (λ _ _ _. refl)

  pub act_back : (e : Event) → with_processors s.processors (act pick c e s) ≡ edited c e s
  unfolding act edited arrive_event finish_event arrives leaves
  act_back e = go (e.kind is arrival) (e.kind is finish) (e.kind is asking) (e.kind is completion)
    where
      t : ℕ
      t = e.task

      r : ℕ
      r = e.resource

      go : (a b q d : Bool)
          → IsBack (if a then arrive_edit c t s else if b then finish_edit t s else if q then request_edit c t r s else if d then complete_edit c t r s else s)
          (if a then arrive_event pick c t s else if b then finish_event c t s else if q then request_event c t r s else if d then complete_event pick c t r s else s)
      go true b q d = refl
      go false true q d = refl
      go false false true d = request_back t r
      go false false false true = complete_back t r
      go false false false false = refl

-- s' has the tasks, groups, set-up and clock that the event e, accepted in s, leaves
abbrev pub Does : State → Event → State → Type 0
Does s e s' = Agrees (edited s.setup e (charged (step_of s e) s)) s'

pub step_does : (pick : Prefers) (s : State) (e : Event) → judge s e ≡ 0 → Does s e (step_by pick s e).state
unfolding step_by
step_does pick s e ok =
    let s₁ = charged (step_of s e) s in
    let s' = act pick s.setup e s₁ in
    rw (eq-eqb (judge s e) 0 ok) (ap (with_processors s'.processors) (act_back pick s.setup s₁ e))

-- what does not turn on the processors holds of s' if it holds of the edit
pub by_edit : (P : State → Type 0) (s : State) (e : Event) (s' : State) → Does s e s' → ((p : Processors) → P (with_processors p (edited s.setup e (charged (step_of s e) s)))) → P s'
by_edit P s e s' D h = subst P (sym D) (h s'.processors)
