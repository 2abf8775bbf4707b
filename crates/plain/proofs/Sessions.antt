-- What a step of a session gives, refused and accepted. Assumes nothing.
use Prim.Native.Nat.{ℕ, ◌<◌, ◌≤◌}
use mathlib.Core.Path.{◌≡◌, refl, sym, ap, subst, ◌∙◌}
use mathlib.Core.Bool.{Bool, true, false}
use mathlib.Core.Logic.{◌≢◌}
use native.Mathlib.Omega.{arith}
use native.Mathlib.Decide.{ℕ_discrete}
use lib.ListN.{length, length-replicate}
use borrow.Author.Tests.{eq-eqb, ne_eqb}
use Rattle.std.specs.Prelude.{if◌then◌else◌}
use Rattle.search.specs.Table.{table}
use Rattle.search.proofs.Tests.{never}
use Rattle.search.proofs.Tables.{replicate_at}
use Rattle.numbers.specs.Limits.{most_tasks, most_resources}
use Rattle.numbers.specs.Refusals.{not_sound}
use Rattle.processors.specs.declared.Jobs.{Jobs}
use Rattle.processors.specs.declared.Processors.{Processors}
use Rattle.input.specs.Words.{period, no_setup}
use Rattle.input.specs.declared.Setup.{Setup}
use Rattle.input.specs.declared.Event.{Event}
use Rattle.setups.specs.Refusals.{setup_refusal}
use Rattle.setups.specs.Clearing.{cleared}
use Rattle.protocol.specs.Records.{no_task, with_processors}
use Rattle.protocol.specs.Words.{stand}
use Rattle.protocol.specs.Sound.{sound}
use Rattle.protocol.specs.Refusals.{step_of, judge}
use Rattle.protocol.specs.Edited.{edited, unplaced}
use Rattle.protocol.specs.Events.{cold, charged, step_by, step, fresh, begin}
use Rattle.protocol.specs.declared.Task.{Task}
use Rattle.protocol.specs.declared.State.{State}
use Rattle.protocol.specs.Replies.{Reply}
use Rattle.protocol.proofs.Sound.Statements.{Sound}
use Rattle.protocol.proofs.Sound.Reflect.{Shaped, sound_of_test, test_of_sound}
use Rattle.protocol.proofs.Sound.Begin.{accepted_grouped}
use Rattle.protocol.proofs.Edits.Equations.{with_jobs}
use Rattle.protocol.proofs.Events.Edited.{step_does}
use Rattle.protocol.proofs.Events.Step.{grouped, done}
use Rattle.priorities.specs.Bounds.{is_bounded}
use Rattle.priorities.proofs.Ruled.{jobs_ruled}
use Rattle.locking.proofs.Bounded.{within_bounds, times_bounded}
use Rattle.locking.proofs.Accepted.{unsound_judged, replied_answer, step_refused}
use Rattle.plain.specs.Orders.{order_from, order_of, ordered, is_ordered}
use Rattle.plain.specs.Engine.{PlainReply, plain_reply, plain_step}
use Rattle.plain.specs.Reading.{order_in, placed_in}
use Rattle.plain.specs.declared.Order.{Order}
use Rattle.plain.specs.declared.Plain.{Plain}
use Rattle.plain.proofs.Sorted.{order_long, same_is, same_self}
use Rattle.plain.proofs.Placing.{read_off}

-- ---- the order that the code computes is that of the state, where the ranks fit their type
abbrev pub Short : Setup → Type 0
Short c = (t : ℕ) → period c t < 65536

module _ (s : State) where
  order_ruled : length s.tasks ≡ most_tasks → is_bounded s ≡ true → order_in s ≡ order_of s
  unfolding order_in order_of stand
  order_ruled long b = ap (λ (j : Jobs). order_from j.ranks (table (stand s) most_tasks)) (jobs_ruled s long b)

  order_with : (p : Processors) → order_of (with_processors p s) ≡ order_of s
  unfolding order_of stand
  order_with p = ap (λ (j : Jobs). order_from j.ranks (table (stand s) most_tasks)) (with_jobs s.setup s p)

-- in a sound state the order that the code computes is that of the rules
pub sound_order : (s : State) → Shaped s → Short s.setup → sound s ≡ true → order_in s ≡ order_of s
sound_order s Z short h =
    let Q = sound_of_test s Z h in
    order_ruled s Q.steady.sized.tasks (times_bounded s (accepted_grouped s.setup Q.setup).few_resources short Q.times)

-- ---- the session that a set-up begins with
fresh_order : (c : Setup) → c.resources ≤ most_resources → order_in (fresh c) ≡ order_of (fresh c)
unfolding fresh
fresh_order c few = order_ruled (fresh c) (length-replicate most_tasks no_task)
    (within_bounds (fresh c) few (λ t _. omega (arith, ap (λ (x : Task). x.deadline) (replicate_at most_tasks t no_task))))

pub empty_order : order_in (fresh no_setup) ≡ order_of (fresh no_setup)
empty_order = fresh_order no_setup (omega arith)

pub begun_order : (c : Setup) → order_in (begin c).state ≡ order_of (begin c).state
unfolding begin cleared
begun_order c = elim (ℕ_discrete (setup_refusal c) 0) [
  | yes q ↦ rw (eq-eqb _ _ q) (fresh_order (cleared c) (accepted_grouped c q).few_resources)
  | no q ↦ rw (ne_eqb _ _ q) empty_order
]

-- an event is stepped by the rules where the session is in the order of its state
stepped : (x : Plain) (e : Event) (b : Bool) → is_ordered x ≡ b → plain_step x e ≡ (if b then plain_reply (step x.state e) else record { answer = not_sound; session = x })
unfolding plain_step
stepped x e b q = rw q

-- ---- a session x, with the lengths that its type gives
module _ (x : Plain) (e : Event) (long : length x.order.tasks ≡ most_tasks) (Z : Shaped x.state) (short : Short x.state.setup) where
  abbrev s : State
  s = x.state

  in_order : is_ordered x ≡ true → ordered s ≡ x
  unfolding is_ordered order_of
  in_order h = ap (λ (o : Order). record { state = s; order = o }) (sym (same_is x.order (order_of s) long (order_long _ _) h))

  -- a refused event leaves a session that is in order as it was
  refused_step : judge s e ≢ 0 → is_ordered x ≡ true → plain_step x e ≡ record { answer = judge s e; session = x }
  refused_step d q = stepped x e true q ∙ ap plain_reply (step_refused s e d) ∙ rw (in_order q)

  -- a session that is not sound
  unsound_step : sound s ≡ false → plain_step x e ≡ record { answer = not_sound; session = x }
  unsound_step h = go (is_ordered x) refl
    where
      j : judge s e ≡ 9
      j = unsound_judged s e h

      go : (b : Bool) → is_ordered x ≡ b → plain_step x e ≡ record { answer = not_sound; session = x }
      go true q = rw (← j) (refused_step (λ z. omega (arith, z, j)) q)
      go false q = stepped x e false q

  sound_or_not : (P : Type 0) → (sound s ≡ true → P) → (sound s ≡ false → P) → P
  sound_or_not P is isn't = go (sound s) refl
    where
      go : (b : Bool) → sound s ≡ b → P
      go true h = is h
      go false h = isn't h

  -- ---- what the code returns: the order is not that which it computes
  pub disordered : x.order ≢ order_in s → record { answer = not_sound; session = x } ≡ plain_step x e
  unfolding is_ordered order_of
  disordered d = sound_or_not _ (λ h. go h (is_ordered x) refl) (λ h. sym (unsound_step h))
    where
      go : sound s ≡ true → (b : Bool) → is_ordered x ≡ b → record { answer = not_sound; session = x } ≡ plain_step x e
      go h true q = absurd (d (same_is x.order (order_of s) long (order_long _ _) q ∙ sym (sound_order s Z short h)))
      go h false q = sym (stepped x e false q)

  -- it is
  module _ (known : x.order ≡ order_in s) where
    is_in_order : sound s ≡ true → is_ordered x ≡ true
    unfolding is_ordered
    is_in_order h = rw (known, sound_order s Z short h) (same_self (order_of s))

    pub step_refuses : (answer : ℕ) → record { answer = answer; state = s } ≡ unplaced s e → answer ≢ 0 → record { answer = answer; session = x } ≡ plain_step x e
    unfolding unplaced
    step_refuses answer q d =
        let a : answer ≡ judge s e = ap (λ (r : Reply). r.answer) q ∙ replied_answer s e _ in
        rw a (sound_or_not _
        (λ h. sym (refused_step (λ z. d (a ∙ z)) (is_in_order h)))
        (λ h. rw (unsound_judged s e h) (sym (unsound_step h))))

    -- an accepted event; a is the state with all done but links and placements
    module _ (accepts : judge s e ≡ 0) where
      abbrev a : State
      a = edited s.setup e (charged (step_of s e) s)

      abbrev read : Processors
      read = placed_in a (order_in a) s.processors e

      Q : Sound s
      Q = sound_or_not _ (sound_of_test s Z) (λ h. absurd (omega (arith, accepts, unsound_judged s e h)))

      order_is : order_in a ≡ order_of a
      order_is =
          let D = done s e Q accepts a refl in
          order_ruled a D.1.sized.tasks (subst (λ (c : Setup). c.resources ≤ most_resources → Short c → is_bounded a ≡ true) D.0.1 (λ few brief. times_bounded a few brief D.0.0) (grouped s e Q accepts).few_resources short)

      read_is : read ≡ (step s e).state.processors
      read_is = ap (λ (o : Order). placed_in a o s.processors e) order_is ∙ read_off s e Q accepts

      state_is : with_processors read a ≡ (step s e).state
      unfolding step
      state_is = ap (λ (p : Processors). with_processors p a) read_is ∙ sym (step_does cold s e accepts)

      sound_accepted : record { answer = 0; session = record { state = with_processors read a; order = order_in a } } ≡ plain_step x e
      unfolding plain_step step step_by
      sound_accepted =
          let z : order_of (step s e).state ≡ order_in a = ap order_of (sym state_is) ∙ order_with a read ∙ sym order_is in
          rw (is_in_order (test_of_sound s Q), z, ← state_is, eq-eqb (judge s e) 0 accepts)

    pub step_accepts : (y : State) → record { answer = 0; state = y } ≡ unplaced s e
        → record { answer = 0; session = record { state = with_processors (placed_in y (order_in y) s.processors e) y; order = order_in y } } ≡ plain_step x e
    unfolding unplaced
    step_accepts y q =
        let ok : judge s e ≡ 0 = sym (ap (λ (r : Reply). r.answer) q ∙ replied_answer s e _) in
        let state : y ≡ edited s.setup e (charged (step_of s e) s) = ap (λ (r : Reply). r.state) (rw (eq-eqb (judge s e) 0 ok) at q) in
        rw state (sound_accepted ok)

-- ---- a session that is in the order of its state if that is sound is stepped as the rules step the state
abbrev pub Kept : Plain → Type 0
Kept x = sound x.state ≡ true → is_ordered x ≡ true

pub record Follows (x : Plain) (e : Event) : Type 0 where
  pub answer : (plain_step x e).answer ≡ (step x.state e).answer
  pub state : (plain_step x e).session.state ≡ (step x.state e).state
  pub kept : Kept (plain_step x e).session

as_stepped : (x : Plain) (e : Event) (r : PlainReply) → plain_step x e ≡ r → r.answer ≡ (step x.state e).answer → r.session.state ≡ (step x.state e).state → Kept r.session → Follows x e
as_stepped x e r q a b k = record {
  answer = ap (λ (y : PlainReply). y.answer) q ∙ a;
  state = ap (λ (y : PlainReply). y.session.state) q ∙ b;
  kept = subst (λ (y : PlainReply). Kept y.session) (sym q) k;
}

pub follows : (x : Plain) (e : Event) → Kept x → Follows x e
unfolding is_ordered
follows x e K = go (is_ordered x) refl (sound x.state) refl
  where
    go : (b : Bool) → is_ordered x ≡ b → (k : Bool) → sound x.state ≡ k → Follows x e
    go true q k h = as_stepped x e _ (stepped x e true q) refl refl (λ _. same_self (order_of (step x.state e).state))
    go false q true h = never q (K h)
    go false q false h =
        let j = unsound_judged x.state e h in
        let r = step_refused x.state e (λ z. omega (arith, z, j)) in
        as_stepped x e _ (stepped x e false q) (sym (ap (λ (y : Reply). y.answer) r ∙ j)) (sym (ap (λ (y : Reply). y.state) r)) K
