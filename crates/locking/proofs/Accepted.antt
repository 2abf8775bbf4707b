-- What the code of an accepted event needs holds of a sound state that accepts it. Assumes nothing.
use Rattle.std.proofs.Common.{◌≡◌, ℕ, ◌+◌, ◌<◌, ◌≤◌, Bool, true, false, not, ◌≢◌, refl, sym, ap, ◌∙◌, arith, eq-eqb, ne_eqb}
use native.Mathlib.Decide.{ℕ_discrete, dec_lt}
use Rattle.std.proofs.lemmas.Bool.{eqb-false}
use Rattle.search.proofs.Tests.{tests}
use Rattle.numbers.specs.Numbered.{NoneApplies}
use Rattle.numbers.proofs.Refusals.{none_iff}
use Rattle.numbers.specs.Answers.{number_of}
use Rattle.numbers.specs.declared.answers.Refusal.{Refusal}
use Rattle.numbers.proofs.Answered.{refusal_counts}
use Rattle.numbers.specs.Limits.{most_tasks, most_resources, most_requests}
use Rattle.setups.specs.Naming.{group_of}
use Rattle.input.specs.Kinds.{request as asking, completion, passing, fields_of}
use Rattle.input.specs.Words.{period}
use Rattle.input.specs.declared.Event.{Event}
use Rattle.setups.proofs.Accepted.{and_none_iff}
use Rattle.protocol.specs.Words.{last_clock, task, stand, absent, deadline, depth, len, sum}
use Rattle.protocol.specs.Sound.{sound}
use Rattle.protocol.specs.Refusals.{step_of, event_rows, judge}
use Rattle.protocol.specs.Locks.{next_at}
use Rattle.protocol.specs.Events.{charged, replied, step_by, step}
use Rattle.protocol.specs.declared.State.{State}
use Rattle.protocol.specs.Replies.{Reply}
use Rattle.protocol.proofs.Sound.Statements.{Sound}
use Rattle.protocol.proofs.Sound.Reflect.{Shaped, sound_of_test}
use Rattle.protocol.proofs.Events.Times.{charged_times}
use Rattle.protocol.proofs.Events.Step.{event_kinds, row11, row12, grouped, steady_of, same_of, asks_of, ends_of}
use Rattle.priorities.specs.Bounds.{is_bounded}
use Rattle.locking.specs.Acting.{CanPass, CanAct}
use Rattle.locking.proofs.Bounded.{times_bounded}

pub unsound_judged : (s : State) (e : Event) → sound s ≡ false → judge s e ≡ 9
unfolding judge event_rows
unsound_judged s e h = rw h

pub accepted_sound : (s : State) (e : Event) → judge s e ≡ 0 → sound s ≡ true
accepted_sound s e ok = go (sound s) refl
  where
    go : (b : Bool) → sound s ≡ b → sound s ≡ true
    go true h = h
    go false h = absurd (omega (arith, ok, unsound_judged s e h))

-- ---- what is replied to an event, whatever state follows where it is accepted
module _ (s : State) (e : Event) (after : State) where
  pub replied_answer : (replied s e after).answer ≡ judge s e
  replied_answer = elim (ℕ_discrete (judge s e) 0) [
    | yes x ↦ rw (eq-eqb (judge s e) 0 x, x)
    | no x ↦ rw (ne_eqb (judge s e) 0 x)
  ]

  replied_refused : (judge s e ≡ 0 → ⊥) → replied s e after ≡ record { answer = judge s e; state = s }
  replied_refused x = rw (ne_eqb (judge s e) 0 x)

pub step_answer : (s : State) (e : Event) → (step s e).answer ≡ judge s e
unfolding step step_by
step_answer s e = replied_answer s e _

pub step_refused : (s : State) (e : Event) → (judge s e ≡ 0 → ⊥) → step s e ≡ record { answer = judge s e; state = s }
unfolding step step_by
step_refused s e x = replied_refused s e _ x

-- a refused event leaves the state
pub refused_stays : (s : State) (e : Event) → (judge s e ≡ 0 → ⊥) → (step s e).state ≡ s
refused_stays s e x = ap (λ (r : Reply). r.state) (step_refused s e x)

-- no task of a sound state has more requests open than there may be
pub few_open : (s : State) → Shaped s → sound s ≡ true → (t : ℕ) → (task s t).depth ≤ most_requests
unfolding depth
few_open s Z h t = ((sound_of_test s Z h).steady.locks.tasks t).opened.few

-- ---- a sound state that accepts an event
module _ (s : State) (e : Event) (Q : Sound s) (ok : judge s e ≡ 0) where
  abbrev s₁ : State
  s₁ = charged (step_of s e) s

  no_row : NoneApplies (event_rows s e)
  unfolding judge event_rows
  no_row = (none_iff (event_rows s e) refl).0 ok

  -- the clock and the totals have room for the event's ticks
  pub room : s.clock + step_of s e ≤ last_clock
  unfolding event_rows
  room = simp tests at (no_row 6 (omega arith))

  pub charges : (t : ℕ) → t < most_tasks → sum (task s t).totals ≤ s.clock
  charges t l = omega (arith, (Q.times.tasks t).totals)

  charged_bounded : ((t : ℕ) → period s.setup t < 65536) → is_bounded s₁ ≡ true
  unfolding charged deadline
  charged_bounded short =
      let T = charged_times s (step_of s e) Q.steady.sized (λ u. (Q.steady.locks.tasks u).inside) room Q.times in
      times_bounded s₁ (grouped s e Q ok).few_resources short T

  pub inside : e.task < most_tasks
  unfolding event_rows fields_of
  inside = elim (dec_lt e.kind passing) [
    | yes x ↦ omega (arith, row11 s e Q ok (omega (arith, event_kinds s e Q ok)), (grouped s e Q ok).few_tasks)
    | no x ↦
        let k : e.kind ≡ passing = omega (arith, event_kinds s e Q ok) in
        omega (arith, (simp (tests, and_none_iff) at (no_row 4 (omega arith))).0 (ap (λ (n : ℕ). not (fields_of n).task) k))
  ]

  pub g_in : (asking ≤ e.kind) × (e.kind ≤ completion) → group_of s.setup e.resource < most_resources
  g_in k = let G = grouped s e Q ok in omega (arith, G.low e.resource (row12 s e Q ok k), G.few_resources)

  -- who asks has a job
  pub asker_pending : e.kind ≡ asking → stand s e.task ≢ absent
  asker_pending k q = omega (arith, (asks_of s e Q ok k).acts.act, (same_of s e Q ok e.task).stood, q)

  can_pass : (g : ℕ) → 0 < len s₁ g → CanPass s₁ g
  can_pass g l =
      let L = (steady_of s e Q ok).locks in
      let u = next_at s₁ g in
      let waits = ((L.groups g).queued 0 l).0 in
      let pending : stand s₁ u ≢ absent = λ q. omega (arith, waits, q) in
      record { inside = omega (arith, (L.tasks u).inside pending, (grouped s e Q ok).few_tasks); pending = pending; room = ((L.tasks u).waits waits).room }

  pub can_act : ((t : ℕ) → period s.setup t < 65536) → CanAct s₁ e
  unfolding charged
  can_act short =
      let G = grouped s e Q ok in
      record {
        bounded = charged_bounded short;
        inside = inside;
        asks = λ k. record { inside = inside; placed = g_in (omega arith); room = (asks_of s e Q ok k).room };
        completes = λ k. record { inside = inside; placed = g_in (omega arith); some = (let E = ends_of s e Q ok k in omega (arith, E.some)); few = ((steady_of s e Q ok).locks.tasks e.task).opened.few; next = can_pass (group_of s.setup e.resource) };
      }

-- a refused event is answered with its refusal, and leaves the state
pub refused_reply : (s : State) (e : Event) (refusal : Refusal) → number_of refusal ≡ judge s e → record { answer = number_of refusal; state = s } ≡ step s e
refused_reply s e refusal h = rw h (sym (step_refused s e (λ q. eqb-false _ _ (refusal_counts refusal) (h ∙ q))))
