-- An accepted event keeps the sound state, and a refused one hands back the very state. Assumes nothing.
use Prim.Native.Nat.{ℕ, zero, suc, ◌+◌, ◌-◌, ◌<◌, ◌≤◌}
use mathlib.Core.Path.{◌≡◌, refl, sym, ap, subst, ◌∙◌}
use mathlib.Core.Bool.{true}
use mathlib.Core.List.{List, [], ◌∷◌, ◌++◌, map-append}
use mathlib.Core.Logic.{◌≢◌, ⊎_elim}
use native.Mathlib.Omega.{arith}
use native.Mathlib.Decide.{ℕ_discrete}
use lib.ListN.{length}
use borrow.Author.Tests.{eq-eqb, ne_eqb}
use Rattle.numbers.specs.Numbered.{NoneApplies}
use Rattle.search.proofs.Tests.{tests}
use Rattle.numbers.proofs.Refusals.{none_iff}
use Rattle.numbers.specs.Limits.{most_processors, most_tasks, most_requests}
use Rattle.processors.specs.Words.{run_of}
use Rattle.scheduler.specs.Placed.{Served}
use Rattle.scheduler.proofs.Laws.{served_law, arriving_count, leaving_count, becoming_preemptable_count, giving_way_count}
use Rattle.input.specs.Kinds.{short, long, arrival, finish, request as asking, completion, passing, fields_of}
use Rattle.input.specs.Words.{kind}
use Rattle.setups.specs.Refusals.{setup_refusal}
use Rattle.setups.specs.Naming.{group_of}
use Rattle.setups.specs.Clearing.{is_clear}
use Rattle.input.specs.declared.Setup.{Setup}
use Rattle.input.specs.declared.Event.{Event}
use Rattle.setups.proofs.Accepted.{and_none_iff}
use Rattle.protocol.specs.Words.{last_clock, absent, stand, depth, request}
use Rattle.protocol.specs.Ranks.{jobs}
use Rattle.protocol.specs.Situations.{situation, situation_refusal}
use Rattle.protocol.specs.Refusals.{step_of, misplaced, event_rows, judge}
use Rattle.protocol.specs.Locks.{opens, enqueues, closes, frees, next_at, dequeues, passes, arrive_edit, finish_edit}
use Rattle.protocol.specs.Edited.{request_edit, complete_edit, edited}
use Rattle.protocol.specs.Records.{with_processors}
use Rattle.protocol.specs.Events.{Prefers, cold, arrives, leaves, becomes_preemptable, gives_way, arrive_event, finish_event, request_event, complete_event, charged, act, Move, moved, step_by, run_by, step, plain, run}
use Rattle.protocol.specs.declared.State.{State}
use Rattle.protocol.proofs.Sound.Statements.{Grouped, Times, Steady, Sound, Acts, Asks, Ends, SameTask}
use Rattle.protocol.proofs.Sound.Begin.{accepted_grouped}
use Rattle.protocol.proofs.Events.Branches.{kind_both, request_by, complete_by}
use Rattle.protocol.proofs.Events.Situations.{unhindered}
use Rattle.protocol.proofs.Events.Edited.{Does, step_does, by_edit}
use Rattle.protocol.proofs.Jobs.Modes.{mode_runs}
use Rattle.protocol.proofs.Events.Kept.{with_steady, Rests, arrive_steady, arrive_placed, finish_steady, finish_placed, request_steady, request_placed, complete_steady, complete_placed}
use Rattle.protocol.proofs.Events.Times.{Quiet, quiet_with, quiet_times, same_aged, charged_steady, charged_placed, charged_times, comes_times, goes_times}
use Rattle.protocol.proofs.Events.TimesKept.{request_quiet, complete_quiet}

-- ---- which fields a kind uses
uses_task : (k : ℕ) → (arrival ≤ k) × (k ≤ completion) → (fields_of k).task ≡ true
unfolding fields_of
uses_task zero h = absurd (omega arith)
uses_task (suc zero) h = refl
uses_task (suc (suc zero)) h = refl
uses_task (suc (suc (suc zero))) h = refl
uses_task (suc (suc (suc (suc zero)))) h = refl
uses_task (suc (suc (suc (suc (suc k))))) h = absurd (omega arith)

uses_resource : (k : ℕ) → (asking ≤ k) × (k ≤ completion) → (fields_of k).resource ≡ true
unfolding fields_of
uses_resource zero h = absurd (omega arith)
uses_resource (suc zero) h = absurd (omega arith)
uses_resource (suc (suc zero)) h = absurd (omega arith)
uses_resource (suc (suc (suc zero))) h = refl
uses_resource (suc (suc (suc (suc zero)))) h = refl
uses_resource (suc (suc (suc (suc (suc k))))) h = absurd (omega arith)

-- s' is sound, with the set-up of s
abbrev Keeps : State → State → Type 0
Keeps s s' = Sound s' × (s'.setup ≡ s.setup)

-- whatever the scheduler, this is what the locks have of it
pub sound_served : (s : State) → Sound s → Served s.processors (jobs s.setup s)
sound_served s Q = served_law s.processors (jobs s.setup s) Q.placed

-- ---- what an accepted event's rows say
module _ (s : State) (e : Event) (Q : Sound s) (ok : judge s e ≡ 0) where
  abbrev c : Setup
  c = s.setup

  abbrev t : ℕ
  t = e.task

  abbrev r : ℕ
  r = e.resource

  abbrev s₁ : State
  s₁ = charged (step_of s e) s

  no_row : NoneApplies (event_rows s e)
  unfolding judge event_rows
  no_row = (none_iff (event_rows s e) refl).0 ok

  pub event_kinds : (arrival ≤ e.kind) × (e.kind ≤ passing)
  unfolding event_rows
  event_kinds = simp tests at (no_row 1 (omega arith))

  pub row11 : (arrival ≤ e.kind) × (e.kind ≤ completion) → e.task < s.setup.tasks
  unfolding event_rows
  row11 k = (simp (tests, and_none_iff) at (no_row 2 (omega arith))) (uses_task e.kind k)

  pub row12 : (asking ≤ e.kind) × (e.kind ≤ completion) → e.resource < s.setup.resources
  unfolding event_rows
  row12 k = (simp (tests, and_none_iff) at (no_row 3 (omega arith))) (uses_resource e.kind k)

  room : s.clock + step_of s e ≤ last_clock
  unfolding event_rows
  room = simp tests at (no_row 6 (omega arith))

  pub row16 : e.kind ≡ arrival → stand s e.task ≡ absent
  unfolding event_rows
  row16 = simp (tests, and_none_iff) at (no_row 7 (omega arith))

  module _ (k : (finish ≤ e.kind) × (e.kind ≤ completion)) where
    row18 : situation_refusal (situation s t) ≢ 18
    unfolding event_rows
    row18 = (simp (tests, and_none_iff) at (no_row 9 (omega arith))) (omega arith)

    row26 : situation_refusal (situation s t) ≢ 26
    unfolding event_rows
    row26 = (simp (tests, and_none_iff) at (no_row 10 (omega arith))) (omega arith)

    row19 : situation_refusal (situation s t) ≢ 19
    unfolding event_rows
    row19 = (simp (tests, and_none_iff) at (no_row 11 (omega arith))) (omega arith)

    row20 : situation_refusal (situation s t) ≢ 20
    unfolding event_rows
    row20 = (simp (tests, and_none_iff) at (no_row 12 (omega arith))) (omega arith)

  row21 : e.kind ≡ finish → depth s t ≡ 0
  unfolding event_rows
  row21 = simp (tests, and_none_iff) at (no_row 13 (omega arith))

  row22 : e.kind ≡ asking → (i : ℕ) → i < depth s t → request s t i ≢ r
  unfolding event_rows
  row22 = simp (tests, and_none_iff) at (no_row 14 (omega arith))

  row23 : e.kind ≡ asking → (i : ℕ) → i < depth s t
      → (kind c r ≡ long → kind c (request s t i) ≢ short) × (kind c (request s t i) ≡ kind c r → group_of c (request s t i) ≡ group_of c r)
  unfolding event_rows misplaced
  row23 = simp (tests, and_none_iff) at (no_row 15 (omega arith))

  row24 : e.kind ≡ asking → depth s t ≢ most_requests
  unfolding event_rows
  row24 = simp (tests, and_none_iff) at (no_row 16 (omega arith))

  row25 : e.kind ≡ completion → (depth s t ≢ 0) × (request s t (depth s t - 1) ≡ r)
  unfolding event_rows
  row25 = simp (tests, and_none_iff) at (no_row 17 (omega arith))

  -- ---- the state charged with the event's ticks
  pub grouped : Grouped s.setup
  grouped = accepted_grouped c Q.setup

  pub steady_of : Steady s.setup (charged (step_of s e) s)
  steady_of = charged_steady c s (step_of s e) Q.steady

  times_of : Times s₁
  times_of = charged_times s (step_of s e) Q.steady.sized (λ u. (Q.steady.locks.tasks u).inside) room Q.times

  pub same_of : (u : ℕ) → SameTask s (charged (step_of s e) s) u
  same_of = same_aged s (step_of s e) Q.steady.sized

  -- ---- the job named runs and does not spin
  pub acts_of : (finish ≤ e.kind) × (e.kind ≤ completion) → Acts (charged (step_of s e) s) e.task
  unfolding charged
  acts_of k =
      let p = s.processors in
      let z = unhindered s t (row18 k) (row26 k) (row19 k) (row20 k) in
      let on : run_of p t < most_processors = z.1 in
      let t_in : t < most_tasks = omega (arith, row11 (omega arith), grouped.few_tasks) in
      let m = mode_runs c s t ((sound_served s Q).runnable t t_in on).mode in
      record { on = on; act = (same_of t).stood ∙ ⊎_elim (λ y. y) (λ y. absurd (z.0 y)) m.1 }

  pub asks_of : e.kind ≡ asking → Asks s.setup (charged (step_of s e) s) e.task e.resource
  asks_of k =
      let L = (Q.steady.locks.tasks t).opened in
      let same = same_of t in
      record {
        acts = acts_of (omega arith);
        inside = row12 (omega arith);
        new = λ i l q. row22 k i (omega (arith, same.deep)) (sym (same.requested i) ∙ q);
        longs_first = λ i l q. rw (same.requested i) (let m : i < depth s t = omega (arith, same.deep) in omega (arith, (row23 k i m).0 q, grouped.kinds _ (L.held i m).0));
        within = λ i l. rw (same.requested i) (row23 k i (omega (arith, same.deep))).1;
        room = omega (arith, same.deep, L.few, row24 k);
      }

  pub ends_of : e.kind ≡ completion → Ends (charged (step_of s e) s) e.task e.resource
  ends_of k =
      let same = same_of t in
      record { acts = acts_of (omega arith); left = depth s t - 1; some = omega (arith, same.deep, (row25 k).0); newest = same.requested _ ∙ (row25 k).1 }

  -- ---- kind by kind
  -- tasks and groups alone, beside the whole event
  pub step_both : (pick : Prefers) (P : State → State → Type 0)
      → (e.kind ≡ arrival → P (arrive_edit s.setup e.task (charged (step_of s e) s)) (arrive_event pick s.setup e.task (charged (step_of s e) s)))
      → (e.kind ≡ finish → P (finish_edit e.task (charged (step_of s e) s)) (finish_event s.setup e.task (charged (step_of s e) s)))
      → (e.kind ≡ asking → P (request_edit s.setup e.task e.resource (charged (step_of s e) s)) (request_event s.setup e.task e.resource (charged (step_of s e) s)))
      → (e.kind ≡ completion → P (complete_edit s.setup e.task e.resource (charged (step_of s e) s)) (complete_event pick s.setup e.task e.resource (charged (step_of s e) s)))
      → (e.kind ≡ passing → P (charged (step_of s e) s) (charged (step_of s e) s))
      → P (edited s.setup e (charged (step_of s e) s)) (step_by pick s e).state
  unfolding step_by act edited
  step_both pick P comes goes asks ends passes = rw (eq-eqb (judge s e) 0 ok) (kind_both P e.kind _ _ _ _ _ _ _ _ _ _ event_kinds comes goes asks ends passes)

  -- the whole event
  pub step_by_lem : (pick : Prefers) (P : State → Type 0)
      → (e.kind ≡ arrival → P (arrive_event pick s.setup e.task (charged (step_of s e) s)))
      → (e.kind ≡ finish → P (finish_event s.setup e.task (charged (step_of s e) s)))
      → (e.kind ≡ asking → P (request_event s.setup e.task e.resource (charged (step_of s e) s)))
      → (e.kind ≡ completion → P (complete_event pick s.setup e.task e.resource (charged (step_of s e) s)))
      → (e.kind ≡ passing → P (charged (step_of s e) s))
      → P (step_by pick s e).state
  step_by_lem pick P = step_both pick (λ _ x. P x)

  -- and tasks and groups alone
  pub edited_by : (P : State → Type 0)
      → (e.kind ≡ arrival → P (arrive_edit s.setup e.task (charged (step_of s e) s)))
      → (e.kind ≡ finish → P (finish_edit e.task (charged (step_of s e) s)))
      → (e.kind ≡ asking → P (request_edit s.setup e.task e.resource (charged (step_of s e) s)))
      → (e.kind ≡ completion → P (complete_edit s.setup e.task e.resource (charged (step_of s e) s)))
      → (e.kind ≡ passing → P (charged (step_of s e) s))
      → P (edited s.setup e (charged (step_of s e) s))
  edited_by P = step_both cold (λ x _. P x)

  t_in : (arrival ≤ e.kind) × (e.kind ≤ completion) → t < length s₁.tasks
  t_in k = omega (arith, row11 k, grouped.few_tasks, steady_of.sized.tasks)

  -- tasks and groups, times and set-up are as they must be, whatever became of the processors
  pub done : (s' : State) → Does s e s' → (Times s' × (s'.setup ≡ s.setup)) × Steady s.setup s'
  unfolding charged
  done s' D =
      let from : (s₂ x : State) → s₂.setup ≡ c → Times s₂ → Quiet s₂ x → Times x × (x.setup ≡ c) = λ s₂ x a T K. (quiet_times s₂ x K T, K.setup ∙ a) in
      by_edit (λ x. (Times x × (x.setup ≡ c)) × Steady c x) s e s' D (λ p.
      let x = edited c e s₁ in
      let z : (Times x × (x.setup ≡ c)) × Steady c x = edited_by (λ x. (Times x × (x.setup ≡ c)) × Steady c x)
      (λ k. ((comes_times s₁ t (t_in (omega arith)) times_of (row11 (omega arith)) _ refl, refl), arrive_steady c grouped s₁ steady_of t _ (row11 (omega arith)) ((same_of t).stood ∙ row16 k)))
      (λ k. ((goes_times s₁ t (t_in (omega arith)) times_of, refl), finish_steady c grouped s₁ steady_of t (acts_of (omega arith)) ((same_of t).deep ∙ row21 k)))
      (λ k. (from s₁ _ refl times_of (request_quiet c t r s₁ (λ z. omega (arith, (asks_of k).acts.act))), request_steady c grouped s₁ steady_of t r (asks_of k)))
      (λ k. (from s₁ _ refl times_of (complete_quiet c grouped s₁ steady_of t r (ends_of k)), complete_steady c grouped s₁ steady_of t r (ends_of k)))
      (λ k. ((times_of, refl), steady_of)) in
      (from x (with_processors p x) z.0.1 z.0.0 (quiet_with x p), with_steady c x p z.1))

  -- ---- the processors
  -- no move changes how many processors there are
  counted : (pick : Prefers) → (step_by pick s e).state.processors.count ≡ s.processors.count
  unfolding charged arrive_event finish_event arrives leaves becomes_preemptable gives_way passes opens dequeues enqueues frees closes
  counted pick =
      let p = s.processors in
      step_by_lem pick (λ x. x.processors.count ≡ p.count) (λ _. arriving_count _ _ _ _) (λ _. leaving_count _ _ _)
      (λ _. request_by c t r s₁ (λ x. x.processors.count ≡ p.count) (λ _. refl) (λ _ _ _. refl) (λ _ _ _. leaving_count _ _ _))
      (λ _. complete_by pick c t r s₁ (λ x. x.processors.count ≡ p.count) (λ _. refl) (λ _ _ _. becoming_preemptable_count p (jobs c s) t) (λ _ _ _. becoming_preemptable_count p (jobs c s) t)
      (λ _ _ _. giving_way_count _ _ _) (λ _ _ _. arriving_count _ _ _ _ ∙ giving_way_count _ _ _))
      (λ _. refl)

  placed_by : (pick : Prefers) → Rests c (step_by pick s e).state
  unfolding charged arrive_event
  placed_by pick =
      let P = charged_placed c grouped s (step_of s e) Q.steady Q.placed in
      step_by_lem pick (Rests c)
      (λ k. arrive_placed c grouped s₁ steady_of t _ (row11 (omega arith)) ((same_of t).stood ∙ row16 k) pick P)
      (λ k. finish_placed c grouped s₁ steady_of t (acts_of (omega arith)) ((same_of t).deep ∙ row21 k) P)
      (λ k. request_placed c grouped s₁ steady_of t r (asks_of k) P)
      (λ k. complete_placed c grouped s₁ steady_of t r (ends_of k) pick P)
      (λ k. P)

  accepted_sound : (pick : Prefers) → Keeps s (step_by pick s e).state
  accepted_sound pick =
      let s' = (step_by pick s e).state in
      let K = done s' (step_does pick s e ok) in
      let same : s'.setup ≡ c = K.0.1 in (
        record {
          setup = ap setup_refusal same ∙ Q.setup;
          clean = ap is_clear same ∙ Q.clean;
          count = counted pick ∙ Q.count ∙ ap (λ (x : Setup). x.processors) (sym same);
          times = K.0.0;
          steady = subst (λ (x : Setup). Steady x s') (sym same) K.1;
          placed = subst (λ (x : Setup). Rests x s') (sym same) (placed_by pick);
        },
        same,
      )

-- ---- every event, whatever is suggested
module _ (pick : Prefers) (s : State) (e : Event) where
  pub refused_by : judge s e ≢ 0 → (step_by pick s e).state ≡ s
  unfolding step_by
  refused_by h = rw (ne_eqb _ _ h)

  -- an answer other than 0 hands back the very state
  pub refused_keeps_by : (step_by pick s e).answer ≢ 0 → (step_by pick s e).state ≡ s
  unfolding step_by
  refused_keeps_by h = elim (ℕ_discrete (judge s e) 0) [ yes ok ↦ absurd (h (rw (eq-eqb _ _ ok))) | no d ↦ refused_by d ]

  step_keeps : Sound s → Keeps s (step_by pick s e).state
  step_keeps Q = elim (ℕ_discrete (judge s e) 0) [ yes ok ↦ accepted_sound s e Q ok pick | no d ↦ subst (Keeps s) (sym (refused_by d)) (Q, refl) ]

  pub step_sound_by : Sound s → Sound (step_by pick s e).state
  step_sound_by Q = (step_keeps Q).0

  pub step_setup_by : Sound s → (step_by pick s e).state.setup ≡ s.setup
  step_setup_by Q = (step_keeps Q).1

  -- an event asks at most once where to go: it does the same with one processor suggested to all
  pub one_suggested : (k : ℕ) × (step_by pick s e ≡ step_by (λ _ _. k) s e)
  unfolding step_by act arrive_event complete_event arrives
  one_suggested =
      let c = s.setup in
      let t = e.task in
      let g = group_of c e.resource in
      let s₁ = charged (step_of s e) s in
      elim (ℕ_discrete e.kind arrival) [
        | yes k ↦ (pick (arrive_edit c t s₁) t, rw (eq-eqb _ _ k))
        | no d ↦ (pick (passes g (gives_way c t (frees g (closes t s₁)))) (next_at s₁ g), rw (ne_eqb _ _ d))
      ]

-- ---- any events
pub run_sound_by : (s : State) (ms : List Move) → Sound s → Sound (run_by s ms)
unfolding run_by
run_sound_by s [] Q = Q
run_sound_by s (m ∷ ms) Q = run_sound_by (moved s m) ms (step_sound_by m.prefers s m.event Q)

pub run_setup_by : (s : State) (ms : List Move) → Sound s → (run_by s ms).setup ≡ s.setup
unfolding run_by
run_setup_by s [] Q = refl
run_setup_by s (m ∷ ms) Q = run_setup_by (moved s m) ms (step_sound_by m.prefers s m.event Q) ∙ step_setup_by m.prefers s m.event Q

-- one list behind another
pub run_join_by : (s : State) (ms ns : List Move) → run_by s (ms ++ ns) ≡ run_by (run_by s ms) ns
unfolding run_by
run_join_by s [] ns = refl
run_join_by s (m ∷ ms) ns = run_join_by (moved s m) ms ns

-- a refused event can be left out
pub refused_out : (s : State) (ms ns : List Move) (m : Move) → judge (run_by s ms) m.event ≢ 0 → run_by s (ms ++ m ∷ ns) ≡ run_by s (ms ++ ns)
unfolding run_by
refused_out s [] ns m h = ap (λ (x : State). run_by x ns) (refused_by m.prefers s m.event h)
refused_out s (l ∷ ms) ns m h = refused_out (moved s l) ms ns m h

-- ---- events alone
module _ (s : State) where
  pub refused_keeps : (e : Event) → (step s e).answer ≢ 0 → (step s e).state ≡ s
  unfolding step
  refused_keeps = refused_keeps_by cold s

  pub step_sound : (e : Event) → Sound s → Sound (step s e).state
  unfolding step
  step_sound = step_sound_by cold s

  pub step_setup : (e : Event) → Sound s → (step s e).state.setup ≡ s.setup
  unfolding step
  step_setup = step_setup_by cold s

  pub run_sound : (es : List Event) → Sound s → Sound (run s es)
  unfolding run
  run_sound es = run_sound_by s (plain es)

  pub run_setup : (es : List Event) → Sound s → (run s es).setup ≡ s.setup
  unfolding run
  run_setup es = run_setup_by s (plain es)

  pub run_join : (es fs : List Event) → run s (es ++ fs) ≡ run (run s es) fs
  unfolding run
  run_join es fs = ap (run_by s) (map-append _ es fs) ∙ run_join_by s (plain es) (plain fs)
