-- The edits of the state are the edits that the laws speak of, and keep the arrays' sizes and the own ranks. Assumes nothing.
use Prim.Native.Nat.{ℕ, zero, suc, ◌+◌, ◌-◌, ◌<◌, ◌≤◌}
use mathlib.Core.Path.{◌≡◌, refl, sym, ap, ◌∙◌}
use mathlib.Core.Logic.{◌≢◌}
use native.Mathlib.Omega.{arith}
use native.Mathlib.Numerals.{add-one}
use native.Mathlib.Decide.{ℕ_discrete}
use lib.ListN.{length, get_or, length-set}
use lib.Seq.{get_or-set_same, get_or-set_other}
use Rattle.queue.specs.Limits.{capacity}
use Rattle.queue.specs.Waiting.{waiter as queued, appended, without_first}
use Rattle.queue.specs.declared.Queue.{Queue}
use Rattle.queue.proofs.Laws.{append_len, append_last, append_place, without_len, without_place}
use Rattle.processors.specs.declared.Processors.{Processors}
use Rattle.numbers.specs.Limits.{most_tasks, most_resources, most_requests, nobody, nothing}
use Rattle.input.specs.Kinds.{long}
use Rattle.input.specs.Words.{kind}
use Rattle.input.specs.declared.Setup.{Setup}
use Rattle.protocol.specs.Records.{total_count, with_standing, with_processors}
use Rattle.protocol.specs.Words.{active, spinning, standing_no, asked_of, task, group, stand, asked, deadline, depth, request, holder, len, waiter}
use Rattle.protocol.specs.Ranks.{own, long_held, effective, short_open, jobs}
use Rattle.protocol.specs.Locks.{opening, closing, on_task, with_group, lock_of, opens, enqueues, closes, frees, next_at, dequeues}
use Rattle.protocol.specs.declared.Standing.TheVariants.{Active, Waiting}
use Rattle.protocol.specs.declared.Task.{Task}
use Rattle.protocol.specs.declared.Group.{Group}
use Rattle.protocol.specs.declared.State.{State}
use Rattle.protocol.proofs.Sound.Statements.{Sized, Blank, SameTask, SameGroup, Opens, Queues, Calls, Closes, Stands}

-- ---- a part that is the same
pub same_task : (s s' : State) (u : ℕ) → task s' u ≡ task s u → SameTask s s' u
unfolding stand asked depth request
same_task s s' u e = record {
  stood = ap (λ (x : Task). standing_no x.standing) e;
  wants = ap (λ (x : Task). asked_of x.standing) e;
  deep = ap (λ (x : Task). x.depth) e;
  requested = λ i. ap (λ (x : Task). get_or x.requests i nothing) e;
}

pub same_group : (s s' : State) (a : ℕ) → group s' a ≡ group s a → SameGroup s s' a
unfolding holder len waiter
same_group s s' a e = record {
  holds = ap (λ (x : Group). x.holder) e;
  long = ap (λ (x : Group). x.queue.len) e;
  line = λ i. ap (λ (x : Group). queued x.queue i) e;
}

pub same_own : (s s' : State) (w : ℕ) → (task s' w).deadline ≡ (task s w).deadline → own s' w ≡ own s w
unfolding own deadline
same_own s s' w e = rw e

-- ---- one task, one group
module _ (s : State) (t : ℕ) (f : Task → Task) where
  pub task_at_lem : t < length s.tasks → task (on_task t f s) t ≡ f (task s t)
  task_at_lem h = get_or-set_same s.tasks t (f (task s t)) _ h

  pub task_off : (u : ℕ) → u ≢ t → task (on_task t f s) u ≡ task s u
  task_off u d = get_or-set_other s.tasks t u (f (task s t)) _ d

  pub sized_task : Sized s → t < most_tasks → length (f (task s t)).requests ≡ most_requests → length (f (task s t)).totals ≡ total_count → Sized (on_task t f s)
  sized_task Z h e n = record {
    tasks = length-set s.tasks t (f (task s t)) ∙ Z.tasks;
    groups = Z.groups;
    requests = by (λ x. length x.requests) most_requests e Z.requests;
    totals = by (λ x. length x.totals) total_count n Z.totals;
  }
    where
      by : (size : Task → ℕ) (m : ℕ) → size (f (task s t)) ≡ m → ((u : ℕ) → size (task s u) ≡ m) → (u : ℕ) → size (task (on_task t f s) u) ≡ m
      by size m here rest u = elim (ℕ_discrete u t) [
        | yes y ↦ ap (λ (n : ℕ). size (task (on_task t f s) n)) y ∙ ap size (task_at_lem (omega (arith, Z.tasks))) ∙ here
        | no d ↦ ap size (task_off u d) ∙ rest u
      ]

  own_task : t < length s.tasks → (f (task s t)).deadline ≡ (task s t).deadline → (w : ℕ) → own (on_task t f s) w ≡ own s w
  own_task h e w = same_own s (on_task t f s) w (elim (ℕ_discrete w t) [
    | yes y ↦ ap (λ (n : ℕ). (task (on_task t f s) n).deadline) y ∙ ap (λ (x : Task). x.deadline) (task_at_lem h) ∙ e ∙ ap (λ (n : ℕ). (task s n).deadline) (sym y)
    | no d ↦ ap (λ (x : Task). x.deadline) (task_off w d)
  ])

module _ (s : State) (g h : ℕ) (q : Queue) where
  pub group_at : g < length s.groups → group (with_group g h q s) g ≡ record { holder = h; queue = q }
  group_at l = get_or-set_same s.groups g (record { holder = h; queue = q }) _ l

  pub group_off : (a : ℕ) → a ≢ g → group (with_group g h q s) a ≡ group s a
  group_off a d = get_or-set_other s.groups g a (record { holder = h; queue = q }) _ d

  sized_group : Sized s → Sized (with_group g h q s)
  sized_group Z = record { tasks = Z.tasks; groups = length-set s.groups g (record { holder = h; queue = q }) ∙ Z.groups; requests = Z.requests; totals = Z.totals }

-- ---- a standing that waits
lock_stand : (k r : ℕ) → k ≤ long → standing_no (Waiting (lock_of k r)) ≡ spinning + k
lock_stand zero r h = refl
lock_stand (suc zero) r h = refl
lock_stand (suc (suc k)) r h = absurd (omega arith)

lock_asked : (k r : ℕ) → asked_of (Waiting (lock_of k r)) ≡ r
lock_asked zero r = refl
lock_asked (suc k) r = refl

module _ (c : Setup) (s : State) (Z : Sized s) (B : Blank s) (g : ℕ) (g_in : g < most_resources) where
  in_groups : g < length s.groups
  in_groups = omega (arith, Z.groups)

  in_tasks : (t : ℕ) → t < most_tasks → t < length s.tasks
  in_tasks t h = omega (arith, Z.tasks)

  -- ---- a request is opened
  module _ (t r : ℕ) (t_in : t < most_tasks) (room : depth s t < most_requests) where
    pub opens_view : Opens s (opens t r g s) t r g
    unfolding opens stand depth request holder len waiter
    opens_view =
        let s₁ = on_task t (opening r) s in
        let q = (group s g).queue in
        let at-t = task_at_lem s t (opening r) (in_tasks t t_in) in
        let at_g = group_at s₁ g t q in_groups in
        record {
          tasks = λ u d. same_task s (opens t r g s) u (task_off s t (opening r) u d);
          groups = λ a d. same_group s (opens t r g s) a (group_off s₁ g t q a d);
          stood = ap (λ (x : Task). standing_no x.standing) at-t;
          deep = ap (λ (x : Task). x.depth) at-t ∙ add-one _;
          new = ap (λ (x : Task). get_or x.requests (depth s t) nothing) at-t ∙ get_or-set_same (task s t).requests (depth s t) r nobody (omega (arith, Z.requests t));
          old = λ i d. ap (λ (x : Task). get_or x.requests i nothing) at-t ∙ get_or-set_other (task s t).requests (depth s t) i r nobody d;
          holds = ap (λ (x : Group). x.holder) at_g;
          long = ap (λ (x : Group). x.queue.len) at_g;
          line = λ i. ap (λ (x : Group). queued x.queue i) at_g;
        }

    pub opens_sized : Sized (opens t r g s)
    unfolding opens
    opens_sized = sized_group (on_task t (opening r) s) g t (group s g).queue (sized_task s t (opening r) Z t_in (length-set (task s t).requests _ r ∙ Z.requests t) (Z.totals t))

    pub opens_own : (w : ℕ) → own (opens t r g s) w ≡ own s w
    unfolding opens own deadline
    opens_own = own_task s t (opening r) (in_tasks t t_in) refl

  -- ---- a request is queued
  module _ (t r : ℕ) (t_in : t < most_tasks) (k-in : kind c r ≤ long) (room : len s g < capacity) where
    pub enqueues_view : Queues c s (enqueues c t r g s) t r g
    unfolding enqueues stand asked depth request holder len waiter
    enqueues_view =
        let f = with_standing (Waiting (lock_of (kind c r) r)) in
        let s₁ = on_task t f s in
        let q = (group s g).queue in
        let at-t = task_at_lem s t f (in_tasks t t_in) in
        let at_g = group_at s₁ g (group s g).holder (appended q t) in_groups in
        record {
          tasks = λ u d. same_task s (enqueues c t r g s) u (task_off s t f u d);
          groups = λ a d. same_group s (enqueues c t r g s) a (group_off s₁ g (group s g).holder (appended q t) a d);
          stood = ap (λ (x : Task). standing_no x.standing) at-t ∙ lock_stand (kind c r) r k-in;
          wants = ap (λ (x : Task). asked_of x.standing) at-t ∙ lock_asked (kind c r) r;
          deep = ap (λ (x : Task). x.depth) at-t;
          requested = λ i. ap (λ (x : Task). get_or x.requests i nothing) at-t;
          holds = ap (λ (x : Group). x.holder) at_g;
          long = ap (λ (x : Group). x.queue.len) at_g ∙ append_len q t room;
          last = ap (λ (x : Group). queued x.queue q.len) at_g ∙ append_last q t (B.queues g) room;
          line = λ i d. ap (λ (x : Group). queued x.queue i) at_g ∙ append_place q t i (B.queues g) d;
        }

    pub enqueues_sized : Sized (enqueues c t r g s)
    unfolding enqueues
    enqueues_sized =
        let f = with_standing (Waiting (lock_of (kind c r) r)) in
        sized_group (on_task t f s) g (group s g).holder (appended (group s g).queue t) (sized_task s t f Z t_in (Z.requests t) (Z.totals t))

    pub enqueues_own : (w : ℕ) → own (enqueues c t r g s) w ≡ own s w
    unfolding enqueues own deadline
    enqueues_own = own_task s t (with_standing (Waiting (lock_of (kind c r) r))) (in_tasks t t_in) refl

  -- ---- the next of the group waits no more
  module _ (next_in_lem : next_at s g < most_tasks) (n : ℕ) (some : len s g ≡ suc n) where
    pub dequeues_view : Calls s (dequeues g s) (next_at s g) g
    unfolding dequeues stand depth request holder len waiter
    dequeues_view =
        let u = next_at s g in
        let s₁ = on_task u (with_standing Active) s in
        let q = (group s g).queue in
        let at-u = task_at_lem s u (with_standing Active) (in_tasks u next_in_lem) in
        let at_g = group_at s₁ g (group s g).holder (without_first q) in_groups in
        record {
          tasks = λ w d. same_task s (dequeues g s) w (task_off s u (with_standing Active) w d);
          groups = λ a d. same_group s (dequeues g s) a (group_off s₁ g (group s g).holder (without_first q) a d);
          stood = ap (λ (x : Task). standing_no x.standing) at-u;
          deep = ap (λ (x : Task). x.depth) at-u;
          requested = λ i. ap (λ (x : Task). get_or x.requests i nothing) at-u;
          holds = ap (λ (x : Group). x.holder) at_g;
          long = omega (arith, some, ap (λ (x : Group). x.queue.len) at_g, without_len q);
          line = λ i. ap (λ (x : Group). queued x.queue i) at_g ∙ without_place q i (B.queues g);
        }

    pub dequeues_sized : Sized (dequeues g s)
    unfolding dequeues
    dequeues_sized = sized_group (on_task (next_at s g) (with_standing Active) s) g (group s g).holder (without_first (group s g).queue)
        (sized_task s (next_at s g) (with_standing Active) Z next_in_lem (Z.requests _) (Z.totals _))

    pub dequeues_own : (w : ℕ) → own (dequeues g s) w ≡ own s w
    unfolding dequeues own deadline
    dequeues_own = own_task s (next_at s g) (with_standing Active) (in_tasks (next_at s g) next_in_lem) refl

  -- ---- the newest request is closed, and the holder of g stays, or nobody holds g
  module _ (t n : ℕ) (t_in : t < most_tasks) (some : depth s t ≡ suc n) (few : depth s t ≤ most_requests) where
    at_c : task (closes t s) t ≡ closing (task s t)
    unfolding closes
    at_c = task_at_lem s t closing (in_tasks t t_in)

    pub closes_view : Closes s (closes t s) t g (holder s g)
    unfolding closes stand depth request holder len waiter
    closes_view =
        let left : (task (closes t s) t).depth ≡ (task s t).depth - 1 = ap (λ (x : Task). x.depth) at_c in
        let other : (i : ℕ) → i ≢ (task s t).depth - 1 → get_or (task (closes t s) t).requests i nothing ≡ get_or (task s t).requests i nothing =
        λ i d. ap (λ (x : Task). get_or x.requests i nothing) at_c ∙ get_or-set_other (task s t).requests ((task s t).depth - 1) i nobody nobody d in
        record {
          tasks = λ u d. same_task s (closes t s) u (task_off s t closing u d);
          groups = λ a d. same_group s (closes t s) a refl;
          stood = ap (λ (x : Task). standing_no x.standing) at_c;
          deep = omega (arith, some, left);
          old = λ i l. other i (λ e. omega (arith, l, left));
          gone = ap (λ (i : ℕ). get_or (task (closes t s) t).requests i nothing) left ∙ ap (λ (x : Task). get_or x.requests ((task s t).depth - 1) nothing) at_c
              ∙ get_or-set_same (task s t).requests ((task s t).depth - 1) nobody nobody (omega (arith, Z.requests t, few, some));
          rest = λ i l. other i (λ e. omega (arith, l, left));
          holds = refl;
          long = refl;
          line = λ i. refl;
        }

    pub frees_view : Closes s (frees g (closes t s)) t g nobody
    unfolding frees closes stand depth request holder len waiter
    frees_view =
        let q = (group s g).queue in
        let at_g = group_at (closes t s) g nobody q in_groups in
        let E = closes_view in
        record {
          tasks = λ u d. same_task s (frees g (closes t s)) u (task_off s t closing u d);
          groups = λ a d. same_group s (frees g (closes t s)) a (group_off (closes t s) g nobody q a d);
          stood = E.stood;
          deep = E.deep;
          old = E.old;
          gone = E.gone;
          rest = E.rest;
          holds = ap (λ (x : Group). x.holder) at_g;
          long = ap (λ (x : Group). x.queue.len) at_g;
          line = λ i. ap (λ (x : Group). queued x.queue i) at_g;
        }

    pub closes_sized : Sized (closes t s)
    unfolding closes
    closes_sized = sized_task s t closing Z t_in (length-set (task s t).requests _ nobody ∙ Z.requests t) (Z.totals t)

    pub frees_sized : Sized (frees g (closes t s))
    unfolding frees
    frees_sized = sized_group (closes t s) g nobody (group (closes t s) g).queue closes_sized

    pub closes_own : (w : ℕ) → own (closes t s) w ≡ own s w
    unfolding closes
    closes_own = own_task s t closing (in_tasks t t_in) refl

    pub frees_own : (w : ℕ) → own (frees g (closes t s)) w ≡ own s w
    unfolding frees own deadline
    frees_own = closes_own

-- ---- processors alone
module _ (c : Setup) (s : State) (p : Processors) where
  pub with_task_lem : (u : ℕ) → SameTask s (with_processors p s) u
  with_task_lem u = same_task s (with_processors p s) u refl

  pub with_group_lem : (a : ℕ) → SameGroup s (with_processors p s) a
  with_group_lem a = same_group s (with_processors p s) a refl

  pub with_jobs : jobs c (with_processors p s) ≡ jobs c s
  unfolding jobs effective short_open own long_held depth request holder len waiter deadline
  with_jobs = refl

-- ---- a job comes or goes: f keeps what is open, and leaves a job that does not wait
module _ (s : State) (Z : Sized s) (t : ℕ) (t_in : t < most_tasks) (none : depth s t ≡ 0) (f : Task → Task) where
  here : task (on_task t f s) t ≡ f (task s t)
  here = task_at_lem s t f (omega (arith, Z.tasks))

  pub stands_view : standing_no (f (task s t)).standing ≤ active → (f (task s t)).requests ≡ (task s t).requests → (f (task s t)).depth ≡ (task s t).depth → Stands s (on_task t f s) t
  unfolding stand depth request
  stands_view low same deep = record {
    tasks = λ u d. same_task s (on_task t f s) u (task_off s t f u d);
    groups = λ a. same_group s (on_task t f s) a refl;
    stood = omega (arith, low, ap (λ (x : Task). standing_no x.standing) here);
    deep = ap (λ (x : Task). x.depth) here ∙ deep ∙ none;
    requested = λ i. ap (λ (x : Task). get_or x.requests i nothing) here ∙ rw same;
  }

  pub stands_stand : stand (on_task t f s) t ≡ standing_no (f (task s t)).standing
  unfolding stand
  stands_stand = ap (λ (x : Task). standing_no x.standing) here

  pub stands_own : (w : ℕ) → w ≢ t → own (on_task t f s) w ≡ own s w
  stands_own w d = same_own s (on_task t f s) w (ap (λ (x : Task). x.deadline) (task_off s t f w d))
