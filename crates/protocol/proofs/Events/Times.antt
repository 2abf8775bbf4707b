-- Clock, arrivals, deadlines and totals: what leaves them alone, and what the passing of time does. Assumes nothing.
use Prim.Native.Nat.{ℕ, zero, suc, ◌+◌, ◌<◌, ◌≤◌}
use mathlib.Core.Path.{◌≡◌, refl, sym, ap, subst, subst₂, ◌∙◌}
use mathlib.Core.Bool.{Bool, true, false}
use mathlib.Core.List.{List, [], ◌∷◌}
use mathlib.Core.Logic.{◌≢◌, inl}
use native.Mathlib.Nat.{le_of_suc-le-suc, not-suc-le-zero}
use native.Mathlib.Omega.{arith}
use native.Mathlib.Decide.{ℕ_discrete, dec_lt}
use lib.Dec.{ltb}
use lib.ListN.{length, get_or, set, length-set, get_or-eq_default}
use lib.Seq.{set_out}
use borrow.Author.Tests.{not-true, eqb-true, eqb-false, eq-eqb, ne_eqb}
use Rattle.std.specs.Prelude.{if◌then◌else◌}
use Rattle.search.specs.Words.{◌is◌, ◌isn't◌}
use Rattle.search.proofs.Tables.{table_at, table_length, table_past}
use Rattle.queue.specs.declared.Queue.{Queue}
use Rattle.numbers.specs.Limits.{most_processors, most_tasks, nobody}
use Rattle.processors.specs.Words.{link_of, run_of}
use Rattle.processors.specs.declared.Processors.{Processors}
use Rattle.scheduler.specs.Placed.{Placed}
use Rattle.scheduler.proofs.Laws.{alike_law}
use Rattle.input.specs.Words.{period}
use Rattle.input.specs.declared.Setup.{Setup}
use Rattle.protocol.specs.Records.{total_count, no_task, with_processors}
use Rattle.protocol.specs.Words.{last_clock, sum, absent, spinning, suspended, standing_no, asked_of, task, stand, asked, deadline, depth, request}
use Rattle.protocol.specs.Ranks.{own, jobs}
use Rattle.protocol.specs.Situations.{situation_of, situation, is_foremost, total_of, total_for}
use Rattle.protocol.specs.Locks.{arriving, departing, on_task, with_group}
use Rattle.protocol.specs.Events.{counting, charged}
use Rattle.protocol.specs.declared.Situation.TheVariants.{Running, Spinning, LinkedOnly, Ready, Suspended}
use Rattle.protocol.specs.declared.Task.{Task}
use Rattle.protocol.specs.declared.State.{State}
use Rattle.protocol.proofs.Sound.Statements.{Grouped, TimesOk, Times, Sized, Steady, SameTask, SameGroup}
use Rattle.protocol.proofs.Edits.Untouched.{at_one}
use Rattle.protocol.proofs.Jobs.Ranks.{rank_same}
use Rattle.protocol.proofs.Jobs.Modes.{mode_kept, rank_kept}
use Rattle.protocol.proofs.Edits.Equations.{same_group, same_own, task_at_lem, task_off}
use Rattle.protocol.proofs.Edits.EmptyPlaces.{same_gone, same_locks}

abbrev pub Dates : Type 0
Dates = Bool × ℕ × ℕ × List ℕ

abbrev pub dates : Task → Dates
dates x = (x.arrived, x.last, x.deadline, x.totals)

-- s' has the set-up, the clock, the dates and the absent jobs of s
pub record Quiet (s s' : State) : Type 0 where
  pub setup : s'.setup ≡ s.setup
  pub clock : s'.clock ≡ s.clock
  pub dated : (u : ℕ) → dates (task s' u) ≡ dates (task s u)
  pub still : (u : ℕ) → (stand s' u is absent) ≡ (stand s u is absent)

pub quiet_then : (s₁ s₂ s₃ : State) → Quiet s₁ s₂ → Quiet s₂ s₃ → Quiet s₁ s₃
quiet_then s₁ s₂ s₃ P Q = record {
  setup = Q.setup ∙ P.setup;
  clock = Q.clock ∙ P.clock;
  dated = λ u. Q.dated u ∙ P.dated u;
  still = λ u. Q.still u ∙ P.still u;
}

pub quiet_task : (s : State) (t : ℕ) (f : Task → Task) → ((x : Task) → dates (f x) ≡ dates x)
    → (standing_no (f (task s t)).standing is absent) ≡ (standing_no (task s t).standing is absent) → Quiet s (on_task t f s)
unfolding stand
quiet_task s t f keep stay = record {
  setup = refl;
  clock = refl;
  dated = kept dates (keep (task s t));
  still = kept (λ x. standing_no x.standing is absent) stay;
}
  where
    kept : {A : Type 0} (part : Task → A) → part (f (task s t)) ≡ part (task s t) → (u : ℕ) → part (task (on_task t f s) u) ≡ part (task s u)
    kept part e = at_one (λ u. part (task (on_task t f s) u) ≡ part (task s u)) t
        (elim (dec_lt t (length s.tasks)) [
          | yes h ↦ ap part (task_at_lem s t f h) ∙ e
          | no h ↦ ap (λ (l : List Task). part (get_or l t no_task)) (set_out s.tasks t (f (task s t)) (omega arith))
        ])
        (λ u d. ap part (task_off s t f u d))

pub quiet_group : (s : State) (g h : ℕ) (q : Queue) → Quiet s (with_group g h q s)
unfolding stand
quiet_group s g h q = record { setup = refl; clock = refl; dated = λ u. refl; still = λ u. refl }

pub quiet_with : (s : State) (p : Processors) → Quiet s (with_processors p s)
unfolding stand
quiet_with s p = record { setup = refl; clock = refl; dated = λ u. refl; still = λ u. refl }

-- ---- the times of a task
module _ (c : Setup) (now : ℕ) (s s' : State) (t : ℕ) where
  times_carry : dates (task s' t) ≡ dates (task s t) → (stand s' t is absent) ≡ (stand s t is absent) → TimesOk c now s t → TimesOk c now s' t
  unfolding deadline
  times_carry e same K =
      let a : (task s' t).arrived ≡ (task s t).arrived = ap (λ (x : Dates). x.0) e in
      let l : (task s' t).last ≡ (task s t).last = ap (λ (x : Dates). x.1) e in
      let d : (task s' t).deadline ≡ (task s t).deadline = ap (λ (x : Dates). x.2) e in
      let n : sum (task s' t).totals ≡ sum (task s t).totals = ap (λ (x : Dates). sum x.3) e in
      record {
        arrived = λ q. let k = K.arrived (sym a ∙ q) in (omega (arith, k.0), omega (arith, k.1));
        pending = λ q. let k = K.pending (λ z. q (eqb-true _ _ (same ∙ eq-eqb _ _ z))) in (a ∙ k.0, omega (arith, k.1));
        undated = λ q. d ∙ K.undated (eqb-true _ _ (sym same ∙ eq-eqb _ _ q));
        totals = omega (arith, K.totals);
        beyond = λ b. let k = K.beyond b in (a ∙ k.0, l ∙ k.1, n ∙ k.2);
      }

pub quiet_times : (s s' : State) → Quiet s s' → Times s → Times s'
quiet_times s s' Q T = record {
  start = omega (arith, ap (λ (c : Setup). c.start) Q.setup, Q.clock, T.start);
  clock = omega (arith, Q.clock, T.clock);
  tasks = λ t. subst₂ (λ (c : Setup) (n : ℕ). TimesOk c n s' t) (sym Q.setup) (sym Q.clock) (times_carry s.setup s.clock s s' t (Q.dated t) (Q.still t) (T.tasks t));
}

-- ---- the passing of time
sum_set : (l : List ℕ) (i n : ℕ) → i < length l → sum (set l i (get_or l i 0 + n)) ≡ sum l + n
sum_set [] i n h = absurd (not-suc-le-zero h)
sum_set (x ∷ l) zero n h = omega arith
sum_set (x ∷ l) (suc i) n h = omega (arith, sum_set l i n (le_of_suc-le-suc h))

-- a job has a total in each situation, foremost or not
pub total_low : (x t : ℕ) (p : Processors) (foremost : Bool) → x ≢ absent → total_of (situation_of x p t) foremost < total_count
total_low x t p foremost h = rw (ne_eqb x absent h) (go (x is suspended) (ltb (run_of p t) most_processors) (x is spinning) (ltb (link_of p t) most_processors) foremost)
  where
    go : (a b c d e : Bool) → total_of (if a then Suspended else if b then (if c then Spinning else Running) else if d then LinkedOnly else Ready) e < total_count
    go true b c d true = omega arith
    go true b c d false = omega arith
    go false true true d e = omega arith
    go false true false d e = omega arith
    go false false c true e = omega arith
    go false false c false e = omega arith

-- a task after n ticks: as it was, but for the total that they go to
aged : State → ℕ → ℕ → Task
aged s n t = if stand s t isn't absent then counting (total_for s t) n (task s t) else task s t

record Aged (s : State) (n t : ℕ) (x : Task) : Type 0 where
  standing : x.standing ≡ (task s t).standing
  dated : (x.arrived ≡ (task s t).arrived) × (x.last ≡ (task s t).last) × (x.deadline ≡ (task s t).deadline)
  depth : x.depth ≡ (task s t).depth
  requests : x.requests ≡ (task s t).requests
  sized : length x.totals ≡ length (task s t).totals
  -- each tick of a pending job goes to one total, and of no other
  spent : sum x.totals ≡ sum (task s t).totals + (if stand s t isn't absent then n else 0)

module _ (s : State) (n : ℕ) (Z : Sized s) where
  aged_is : (t : ℕ) (b : Bool) → (stand s t isn't absent) ≡ b → Aged s n t (if b then counting (total_for s t) n (task s t) else task s t)
  unfolding total_for situation
  aged_is t true e =
      let i = total_for s t in
      record {
        standing = refl;
        dated = (refl, refl, refl);
        depth = refl;
        requests = refl;
        sized = length-set (task s t).totals i _;
        spent = rw e (sum_set (task s t).totals i n (omega (arith, Z.totals t, total_low (stand s t) t s.processors (is_foremost s t) (eqb-false _ _ (not-true _ e)))));
      }
  aged_is t false e = record { standing = refl; dated = (refl, refl, refl); depth = refl; requests = refl; sized = refl; spent = rw e (omega arith) }

  aged_at : (t : ℕ) → Aged s n t (task (charged n s) t)
  unfolding charged aged stand
  aged_at t = elim (dec_lt t most_tasks) [
    | yes h ↦ subst (Aged s n t) (sym (table_at (aged s n) most_tasks t no_task h)) (aged_is t (stand s t isn't absent) refl)
    | no h ↦
        let out : task s t ≡ no_task = get_or-eq_default s.tasks no_task {n = t} (omega (arith, Z.tasks)) in
        subst (Aged s n t) (out ∙ sym (table_past (aged s n) most_tasks t no_task (omega arith))) (aged_is t false (ap (λ (x : Task). standing_no x.standing isn't absent) out))
  ]

  pub aged_sum : (t : ℕ) → sum (task (charged n s) t).totals ≡ sum (task s t).totals + (if stand s t isn't absent then n else 0)
  aged_sum t = (aged_at t).spent

  pub same_aged : (t : ℕ) → SameTask s (charged n s) t
  unfolding stand asked depth request
  same_aged t =
      let a = aged_at t in
      record {
        stood = ap standing_no a.standing;
        wants = ap asked_of a.standing;
        deep = a.depth;
        requested = λ i. ap (λ (l : List ℕ). get_or l i nobody) a.requests;
      }

  pub same_lines : (g : ℕ) → SameGroup s (charged n s) g
  unfolding charged
  same_lines g = same_group s (charged n s) g refl

  aged_own : (w : ℕ) → own (charged n s) w ≡ own s w
  aged_own w = same_own s (charged n s) w (aged_at w).dated.2

pub charged_steady : (c : Setup) (s : State) (n : ℕ) → Steady c s → Steady c (charged n s)
unfolding charged aged
charged_steady c s n S =
    let Z = S.sized in
    let s' = charged n s in
    record {
      sized = record {
        tasks = table_length (aged s n) most_tasks;
        groups = Z.groups;
        requests = λ t. ap length (aged_at s n Z t).requests ∙ Z.requests t;
        totals = λ t. (aged_at s n Z t).sized ∙ Z.totals t;
      };
      blank = record { requests = λ t. same_gone s s' S.blank t (same_aged s n Z t); queues = S.blank.queues };
      locks = same_locks c s s' nobody (same_aged s n Z) (same_lines s n Z) S.locks;
    }

pub charged_placed : (c : Setup) → Grouped c → (s : State) (n : ℕ) → Steady c s → Placed s.processors (jobs c s) → Placed s.processors (jobs c (charged n s))
charged_placed c G s n S P =
    let Z = S.sized in
    let s' = charged n s in
    alike_law s.processors (jobs c s) (jobs c s') P (record {
      modes = λ u. mode_kept c s s' u (same_aged s n Z u);
      ranks = λ u. rank_kept c s s' u (λ l. rank_same c G s s' nobody nobody S.locks (charged_steady c s n S).locks u (λ z. omega arith) (aged_own s n Z u) (λ w _. aged_own s n Z w) (λ g _. inl (same_lines s n Z g)));
    })

if_most : (b : Bool) (n : ℕ) → (if b then n else 0) ≤ n
if_most true n = omega arith
if_most false n = omega arith

pub charged_times : (s : State) (n : ℕ) → Sized s → ((t : ℕ) → stand s t ≢ absent → t < s.setup.tasks) → s.clock + n ≤ last_clock → Times s → Times (charged n s)
unfolding charged deadline
charged_times s n Z inside room T = record {
  start = omega (arith, T.start);
  clock = room;
  tasks = λ t.
      let K = T.tasks t in
      let a = aged_at s n Z t in
      let e = same_aged s n Z t in
      record {
        arrived = λ q. let k = K.arrived (sym a.dated.0 ∙ q) in (omega (arith, k.0, a.dated.1), omega (arith, k.1, a.dated.1));
        pending = λ q. let k = K.pending (λ z. q (e.stood ∙ z)) in (a.dated.0 ∙ k.0, omega (arith, k.1, a.dated.1, a.dated.2));
        undated = λ q. a.dated.2 ∙ K.undated (sym e.stood ∙ q);
        totals = omega (arith, a.spent, if_most (stand s t isn't absent) n, K.totals, T.start);
        beyond = λ b.
            let k = K.beyond b in
            let out : stand s t ≡ absent = elim (ℕ_discrete (stand s t) absent) [ yes y ↦ y | no y ↦ absurd (omega (arith, inside t y)) ] in
            (a.dated.0 ∙ k.0, a.dated.1 ∙ k.1, omega (arith, rw out at a.spent, k.2));
      };
}

-- ---- a job comes or goes
module _ (s : State) (t : ℕ) (h : t < length s.tasks) (T : Times s) where
  -- the others' times are as they were
  one_times : (f : Task → Task) → TimesOk s.setup s.clock (on_task t f s) t → Times (on_task t f s)
  unfolding stand
  one_times f K = record {
    start = T.start;
    clock = T.clock;
    tasks = at_one (TimesOk s.setup s.clock (on_task t f s)) t K
        (λ u d. times_carry s.setup s.clock s (on_task t f s) u (ap dates (task_off s t f u d)) (ap (λ (x : Task). standing_no x.standing is absent) (task_off s t f u d)) (T.tasks u));
  }

  pub comes_times : t < s.setup.tasks → (due : ℕ) → due ≡ s.clock + period s.setup t → Times (on_task t (arriving s.clock due) s)
  unfolding stand deadline
  comes_times named due by =
      let f = arriving s.clock due in
      let e : task (on_task t f s) t ≡ f (task s t) = task_at_lem s t f h in
      let l : (task (on_task t f s) t).last ≡ s.clock = ap (λ (x : Task). x.last) e in
      one_times f record {
        arrived = λ _. (omega (arith, T.start), omega arith);
        pending = λ _. (ap (λ (x : Task). x.arrived) e, omega (arith, ap (λ (x : Task). x.deadline) e));
        undated = λ q. absurd (omega (arith, ap (λ (x : Task). standing_no x.standing) e));
        totals = omega (arith, (T.tasks t).totals, ap (λ (x : Task). sum x.totals) e);
        beyond = λ b. absurd (omega arith);
      }

  pub goes_times : Times (on_task t departing s)
  unfolding stand deadline
  goes_times =
      let K = T.tasks t in
      let e : task (on_task t departing s) t ≡ departing (task s t) = task_at_lem s t departing h in
      let a : (task (on_task t departing s) t).arrived ≡ (task s t).arrived = ap (λ (x : Task). x.arrived) e in
      let l : (task (on_task t departing s) t).last ≡ (task s t).last = ap (λ (x : Task). x.last) e in
      let n : sum (task (on_task t departing s) t).totals ≡ sum (task s t).totals = ap (λ (x : Task). sum x.totals) e in
      one_times departing record {
        arrived = λ q. let k = K.arrived (sym a ∙ q) in (omega (arith, k.0), omega (arith, k.1));
        pending = λ q. absurd (q (ap (λ (x : Task). standing_no x.standing) e));
        undated = λ _. ap (λ (x : Task). x.deadline) e;
        totals = omega (arith, K.totals);
        beyond = λ b. let k = K.beyond b in (a ∙ k.0, l ∙ k.1, n ∙ k.2);
      }
