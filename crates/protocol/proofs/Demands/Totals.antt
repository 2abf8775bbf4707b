-- Each accepted step's ticks go to one total of each pending task, and a task's totals sum to the ticks that it has been pending,
-- counted from its accepted arrivals and finishes. Assumes nothing.
use Prim.Native.Nat.{ℕ, ◌+◌, ◌-◌, ◌<◌, ◌≤◌}
use mathlib.Core.Path.{◌≡◌, refl, sym, ap, ◌∙◌}
use mathlib.Core.Bool.{Bool, true, false, not, ◌&&◌}
use mathlib.Core.List.{List, [], ◌∷◌}
use mathlib.Core.Logic.{◌≢◌}
use native.Mathlib.Omega.{arith}
use native.Mathlib.Decide.{ℕ_discrete}
use lib.ListN.{length, get_or, set}
use borrow.Author.Tests.{eq-eqb, ne_eqb}
use Rattle.std.specs.Prelude.{if◌then◌else◌}
use Rattle.search.specs.Words.{◌is◌, ◌isn't◌}
use Rattle.search.proofs.Tests.{tests, never}
use Rattle.search.proofs.Tables.{table_at, replicate_at}
use Rattle.numbers.specs.Limits.{most_tasks}
use Rattle.setups.specs.Refusals.{setup_refusal}
use Rattle.input.specs.Kinds.{arrival, finish}
use Rattle.input.specs.declared.Setup.{Setup}
use Rattle.input.specs.declared.Event.{Event}
use Rattle.protocol.specs.Words.{sum, absent, standing_no, task, stand}
use Rattle.protocol.specs.Records.{no_task}
use Rattle.protocol.specs.Situations.{total_for}
use Rattle.protocol.specs.Refusals.{step_of, judge}
use Rattle.protocol.specs.Locks.{arriving, departing, on_task}
use Rattle.protocol.specs.Edited.{edited}
use Rattle.protocol.specs.Events.{Prefers, counting, charged, fresh, begin, Move, moved, step_by, run_by, after}
use Rattle.protocol.specs.Demands.{Given, accepts, pending_ticks, Charges}
use Rattle.protocol.specs.declared.Task.{Task}
use Rattle.protocol.specs.declared.State.{State}
use Rattle.protocol.proofs.Sound.Statements.{Sound}
use Rattle.protocol.proofs.Edits.Equations.{task_at_lem, task_off}
use Rattle.protocol.proofs.Sound.Begin.{begin_sound}
use Rattle.protocol.proofs.Events.Times.{Dates, Quiet, quiet_with, aged_sum}
use Rattle.protocol.proofs.Events.TimesKept.{request_quiet, complete_quiet}
use Rattle.protocol.proofs.Events.Edited.{Does, step_does, by_edit}
use Rattle.protocol.proofs.Events.Step.{grouped, steady_of, same_of, row11, row16, acts_of, asks_of, ends_of, edited_by, refused_by, step_sound_by}

abbrev pending : State → ℕ → Bool
pending s t = stand s t isn't absent

-- ---- the totals and the clock of s, and t pending as p says
record Comes (s s' : State) (t : ℕ) (p : Bool) : Type 0 where
  clock : s'.clock ≡ s.clock
  totals : (task s' t).totals ≡ (task s t).totals
  pends : pending s' t ≡ p

then_quiet : (s₁ s₂ s₃ : State) (t : ℕ) (p : Bool) → Comes s₁ s₂ t p → Quiet s₂ s₃ → Comes s₁ s₃ t p
then_quiet s₁ s₂ s₃ t p C K = record { clock = K.clock ∙ C.clock; totals = ap (λ (x : Dates). x.3) (K.dated t) ∙ C.totals; pends = ap not (K.still t) ∙ C.pends }

as_before : (s : State) (t : ℕ) → Comes s s t (pending s t)
as_before s t = record { clock = refl; totals = refl; pends = refl }

-- u comes or goes
one_changes : (s : State) (u t : ℕ) (f : Task → Task) (p : Bool) → u < length s.tasks → (f (task s u)).totals ≡ (task s u).totals
    → (standing_no (f (task s u)).standing isn't absent) ≡ p → Comes s (on_task u f s) t (if u is t then p else pending s t)
unfolding stand
one_changes s u t f p h keep e = elim (ℕ_discrete t u) [
  | yes y ↦
      let x : task (on_task u f s) t ≡ f (task s u) = ap (task (on_task u f s)) y ∙ task_at_lem s u f h in
      record {
        clock = refl;
        totals = ap (λ (z : Task). z.totals) x ∙ keep ∙ ap (λ (i : ℕ). (task s i).totals) (sym y);
        pends = rw (eq-eqb u t (sym y)) (ap (λ (z : Task). standing_no z.standing isn't absent) x ∙ e);
      }
  | no d ↦
      let x = task_off s u f t d in
      record {
        clock = refl;
        totals = ap (λ (z : Task). z.totals) x;
        pends = rw (ne_eqb u t (λ z. d (sym z))) (ap (λ (z : Task). standing_no z.standing isn't absent) x);
      }
]

-- ---- an accepted event
module _ (s : State) (e : Event) (Q : Sound s) (ok : judge s e ≡ 0) (s' : State) (D : Does s e s') (t : ℕ) where
  abbrev s₁ : State
  s₁ = charged (step_of s e) s

  -- t is pending after the event
  abbrev stays : Bool
  stays = if e.kind is arrival && e.task is t then true else if e.kind is finish && e.task is t then false else pending s₁ t

  t_in : e.task < s.setup.tasks → e.task < length s₁.tasks
  t_in l = omega (arith, (grouped s e Q ok).few_tasks, (steady_of s e Q ok).sized.tasks)

  comes : Comes s₁ s' t stays
  comes =
      let c = s.setup in
      let named = row11 s e Q ok in
      let start = as_before s₁ t in
      by_edit (λ x. Comes s₁ x t stays) s e s' D (λ p. then_quiet s₁ _ _ t stays (edited_by s e Q ok (λ x. Comes s₁ x t stays)
      (λ k. rw (eq-eqb e.kind arrival k, ne_eqb e.kind finish (λ z. omega arith))
      (one_changes s₁ e.task t (arriving s₁.clock _) true (t_in (named (omega arith))) refl refl))
      (λ k. rw (ne_eqb e.kind arrival (λ z. omega arith), eq-eqb e.kind finish k) (one_changes s₁ e.task t departing false (t_in (named (omega arith))) refl refl))
      (λ k. rw (ne_eqb e.kind arrival (λ z. omega arith), ne_eqb e.kind finish (λ z. omega arith))
      (then_quiet s₁ s₁ _ t _ start (request_quiet c e.task e.resource s₁ (λ z. omega (arith, (asks_of s e Q ok k).acts.act)))))
      (λ k. rw (ne_eqb e.kind arrival (λ z. omega arith), ne_eqb e.kind finish (λ z. omega arith))
      (then_quiet s₁ s₁ _ t _ start (complete_quiet c (grouped s e Q ok) s₁ (steady_of s e Q ok) e.task e.resource (ends_of s e Q ok k))))
      (λ k. rw (ne_eqb e.kind arrival (λ z. omega arith), ne_eqb e.kind finish (λ z. omega arith)) start)) (quiet_with (edited c e s₁) p))

charged_totals : (s : State) (n t : ℕ) → t < most_tasks
    → (task (charged n s) t).totals
    ≡ (if stand s t isn't absent then set (task s t).totals (total_for s t) (get_or (task s t).totals (total_for s t) 0 + n) else (task s t).totals)
unfolding charged
charged_totals s n t h = ap (λ (x : Task). x.totals) (table_at _ most_tasks t no_task h) ∙ go (stand s t isn't absent)
  where
    go : (b : Bool) → (if b then counting (total_for s t) n (task s t) else task s t).totals
        ≡ (if b then set (task s t).totals (total_for s t) (get_or (task s t).totals (total_for s t) 0 + n) else (task s t).totals)
    go true = refl
    go false = refl

-- the ticks of an accepted step go to one total, by the state before it
pub charges : (s : State) (pick : Prefers) (e : Event) (t : ℕ) → Sound s → judge s e ≡ 0 → t < most_tasks → Charges s pick e t
charges s pick e t Q ok h = (comes s e Q ok _ (step_does pick s e ok) t).totals ∙ charged_totals s (step_of s e) t h

-- ---- any event: ticks that go to t's totals where it was pending, and who is pending after
record Turn (s : State) (pick : Prefers) (e : Event) (t : ℕ) : Type 0 where
  ticks : ℕ
  clock : (step_by pick s e).state.clock ≡ s.clock + ticks
  spent : sum (task (step_by pick s e).state t).totals ≡ sum (task s t).totals + (if pending s t then ticks else 0)
  begins : (accepts s e arrival && e.task is t) ≡ true → pending s t ≡ false
  ends : (accepts s e finish && e.task is t) ≡ true → pending s t ≡ true
  pends : pending (step_by pick s e).state t ≡ (if accepts s e arrival && e.task is t then true else if accepts s e finish && e.task is t then false else pending s t)

turn : (s : State) (pick : Prefers) (e : Event) (t : ℕ) → Sound s → Turn s pick e t
unfolding charged
turn s pick e t Q = elim (ℕ_discrete (judge s e) 0) [
  | yes ok ↦
      let C = comes s e Q ok _ (step_does pick s e ok) t in
      let same = ap (λ (n : ℕ). n isn't absent) (same_of s e Q ok t).stood in
      record {
        ticks = step_of s e;
        clock = C.clock;
        spent = ap sum C.totals ∙ aged_sum s (step_of s e) Q.steady.sized t;
        begins = λ x. let z = simp tests at x in rw (eq-eqb (stand s t) absent (ap (stand s) (sym z.1) ∙ row16 s e Q ok z.0.1));
        ends = λ x. let z = simp tests at x in
            rw (ne_eqb (stand s t) absent (λ y. omega (arith, z.0.1, (acts_of s e Q ok (omega (arith, z.0.1))).act, (same_of s e Q ok e.task).stood, ap (stand s) z.1)));
        pends = rw (eq-eqb (judge s e) 0 ok, ← same) C.pends;
      }
  | no d ↦ record {
    ticks = 0;
    clock = rw (refused_by pick s e d) (omega arith);
    spent = rw (refused_by pick s e d) (nothing (pending s t));
    begins = λ x. let z = simp tests at x in absurd (d z.0.0);
    ends = λ x. let z = simp tests at x in absurd (d z.0.0);
    pends = rw (refused_by pick s e d, ne_eqb (judge s e) 0 d);
  }
]
  where
    nothing : (b : Bool) → sum (task s t).totals ≡ sum (task s t).totals + (if b then 0 else 0)
    nothing true = omega arith
    nothing false = omega arith

-- ---- any events: where t is pending, since the clock `since`
sum_for : (ms : List Move) (s : State) (t since : ℕ) (p : Bool) → Sound s → pending s t ≡ p → (p ≡ true → since ≤ s.clock)
    → sum (task (run_by s ms) t).totals + (if p then s.clock - since else 0) ≡ sum (task s t).totals + pending_ticks s ms t p since
unfolding run_by pending_ticks
sum_for [] s t since p Q q low = refl
sum_for (m ∷ ms) s t since p Q q low =
    go (sum_for ms s' t) (accepts s e arrival && e.task is t) refl (accepts s e finish && e.task is t) refl p q low
  where
    e : Event
    e = m.event

    s' : State
    s' = moved s m

    K : Turn s m.prefers e t
    K = turn s m.prefers e t Q

    Q' : Sound s'
    Q' = step_sound_by m.prefers s e Q

    go : ((from : ℕ) (p : Bool) → Sound s' → pending s' t ≡ p → (p ≡ true → from ≤ s'.clock)
        → sum (task (run_by s' ms) t).totals + (if p then s'.clock - from else 0) ≡ sum (task s' t).totals + pending_ticks s' ms t p from)
        → (a : Bool) → (accepts s e arrival && e.task is t) ≡ a → (b : Bool) → (accepts s e finish && e.task is t) ≡ b
        → (p : Bool) → pending s t ≡ p → (p ≡ true → since ≤ s.clock)
        → sum (task (run_by s' ms) t).totals + (if p then s.clock - since else 0) ≡ sum (task s t).totals + pending_ticks s (m ∷ ms) t p since
    go ih true x b y true q low = never (K.begins x) q
    go ih true x b y false q low =
        rw x (omega (arith, ih s'.clock true Q' (rw x at K.pends) (λ _. omega arith), rw q at K.spent))
    go ih false x true y true q low =
        rw (x, y) (omega (arith, ih 0 false Q' (rw (x, y) at K.pends) (λ z. never refl z), rw q at K.spent, K.clock, low refl))
    go ih false x true y false q low = never q (K.ends y)
    go ih false x false y true q low =
        rw (x, y) (omega (arith, ih since true Q' (rw (x, y, q) at K.pends) (λ _. omega (arith, K.clock, low refl)), rw q at K.spent, K.clock, low refl))
    go ih false x false y false q low =
        rw (x, y) (omega (arith, ih since false Q' (rw (x, y, q) at K.pends) (λ z. never refl z), rw q at K.spent))

pub totals_sum : (ms : List Move) (s : State) (t since : ℕ) → Sound s → (stand s t ≢ absent → since ≤ s.clock)
    → sum (task (run_by s ms) t).totals + (if stand s t isn't absent then s.clock - since else 0) ≡ sum (task s t).totals + pending_ticks s ms t (stand s t isn't absent) since
totals_sum ms s t since Q low = sum_for ms s t since (pending s t) Q refl (λ z. low (simp tests at z))

-- ---- from a set-up, which has no task pending
begin_none : (c : Setup) → setup_refusal c ≡ 0 → (t : ℕ) → task (begin c).state t ≡ no_task
unfolding begin fresh
begin_none c good t = rw (eq-eqb (setup_refusal c) 0 good) (replicate_at most_tasks t no_task)

pub totals_after : (c : Setup) → Given c → (ms : List Move) (t : ℕ) → sum (task (after c ms) t).totals ≡ pending_ticks (begin c).state ms t false 0
unfolding stand
totals_after c G ms t =
    let s = (begin c).state in
    let none = begin_none c G.accepted t in
    let gone : pending s t ≡ false = ap (λ (x : Task). standing_no x.standing isn't absent) none in
    let zero : sum (task s t).totals ≡ 0 = ap (λ (x : Task). sum x.totals) none in
    omega (arith, sum_for ms s t 0 false (begin_sound c G.accepted G.start) gone (λ z. never refl z))
