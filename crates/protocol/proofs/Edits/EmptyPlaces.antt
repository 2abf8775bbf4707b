-- Each edit keeps empty what stands past a count; and processors are no part of the locks. Assumes nothing.
use Prim.Native.Nat.{ℕ, suc, ◌<◌, ◌≤◌}
use mathlib.Core.Path.{◌≡◌, sym, ap, subst, ◌∙◌}
use native.Mathlib.Omega.{arith}
use native.Mathlib.Decide.{ℕ_discrete}
use lib.ListN.{length}
use Rattle.queue.specs.Limits.{capacity}
use Rattle.queue.specs.Tidy.{Tidy}
use Rattle.queue.specs.Waiting.{appended, without_first}
use Rattle.queue.specs.declared.Queue.{Queue}
use Rattle.queue.proofs.Laws.{append_tidy, without_tidy}
use Rattle.processors.specs.declared.Processors.{Processors}
use Rattle.numbers.specs.Limits.{most_tasks, most_resources, most_requests, nobody}
use Rattle.input.specs.Kinds.{long}
use Rattle.input.specs.Words.{kind}
use Rattle.input.specs.declared.Setup.{Setup}
use Rattle.protocol.specs.Words.{group, depth, request, holder, len}
use Rattle.protocol.specs.Locks.{on_task, with_group, opens, enqueues, closes, frees, next_at, dequeues}
use Rattle.protocol.specs.Records.{with_processors}
use Rattle.protocol.specs.declared.Task.{Task}
use Rattle.protocol.specs.declared.Group.{Group}
use Rattle.protocol.specs.declared.State.{State}
use Rattle.protocol.proofs.Sound.Statements.{LocksBut, Sized, Blank, SameTask, SameGroup, Closes, Stands}
use Rattle.protocol.proofs.Edits.Untouched.{at_one, task_carry, group_carry, stays_in}
use Rattle.protocol.proofs.Edits.Equations.{group_at, group_off, opens_view, enqueues_view, dequeues_view, closes_view, frees_view, with_task_lem, with_group_lem}

-- no request of u stands past its depth
abbrev pub Gone : State → ℕ → Type 0
Gone s u = (i : ℕ) → depth s u ≤ i → request s u i ≡ nobody

module _ (s s' : State) (B : Blank s) where
  pub same_gone : (u : ℕ) → SameTask s s' u → Gone s' u
  same_gone u E i h = E.requested i ∙ B.requests u i (omega (arith, E.deep))

  closed_gone : (t g h : ℕ) → Closes s s' t g h → (u : ℕ) → Gone s' u
  closed_gone t g h E = at_one (Gone s') t
      (λ i l. elim (ℕ_discrete i (depth s' t)) [
        | yes e ↦ ap (request s' t) e ∙ E.gone
        | no d ↦ E.rest i (omega arith) ∙ B.requests t i (omega (arith, E.deep))
      ]) (λ u d. same_gone u (E.tasks u d))

-- a group with another tidy queue
pub tidy_group : (s : State) (g h : ℕ) (q : Queue) → g < length s.groups → ((a : ℕ) → Tidy (group s a).queue) → Tidy q → (a : ℕ) → Tidy (group (with_group g h q s) a).queue
tidy_group s g h q l tidy y = at_one (λ a. Tidy (group (with_group g h q s) a).queue) g
    (subst (λ (x : Group). Tidy x.queue) (sym (group_at s g h q l)) y)
    (λ a d. subst (λ (x : Group). Tidy x.queue) (sym (group_off s g h q a d)) (tidy a))

module _ (c : Setup) (s : State) (Z : Sized s) (B : Blank s) (g : ℕ) (g_in : g < most_resources) where
  new_queue : (h : ℕ) (q : Queue) → Tidy q → (a : ℕ) → Tidy (group (with_group g h q s) a).queue
  new_queue h q = tidy_group s g h q (omega (arith, Z.groups)) B.queues

  pub opens_blank : (t r : ℕ) → t < most_tasks → depth s t < most_requests → Blank (opens t r g s)
  unfolding opens
  opens_blank t r t_in room =
      let s' = opens t r g s in
      let E = opens_view c s Z B g g_in t r t_in room in
      record {
        requests = at_one (Gone s') t (λ i h. E.old i (omega (arith, E.deep)) ∙ B.requests t i (omega (arith, E.deep))) (λ u d. same_gone s s' B u (E.tasks u d));
        queues = new_queue t (group s g).queue (B.queues g);
      }

  pub enqueues_blank : (t r : ℕ) → t < most_tasks → kind c r ≤ long → len s g < capacity → Blank (enqueues c t r g s)
  unfolding enqueues len
  enqueues_blank t r t_in k-in room =
      let s' = enqueues c t r g s in
      let E = enqueues_view c s Z B g g_in t r t_in k-in room in
      record {
        requests = at_one (Gone s') t (λ i h. E.requested i ∙ B.requests t i (omega (arith, E.deep))) (λ u d. same_gone s s' B u (E.tasks u d));
        queues = new_queue (group s g).holder (appended (group s g).queue t) (append_tidy (group s g).queue t (B.queues g) room);
      }

  pub dequeues_blank : next_at s g < most_tasks → (n : ℕ) → len s g ≡ suc n → Blank (dequeues g s)
  unfolding dequeues
  dequeues_blank next_in_lem n some =
      let s' = dequeues g s in
      let u = next_at s g in
      let E = dequeues_view c s Z B g g_in next_in_lem n some in
      record {
        requests = at_one (Gone s') u (λ i h. E.requested i ∙ B.requests u i (omega (arith, E.deep))) (λ v d. same_gone s s' B v (E.tasks v d));
        queues = new_queue (group s g).holder (without_first (group s g).queue) (without_tidy (group s g).queue (B.queues g));
      }

  module _ (t n : ℕ) (t_in : t < most_tasks) (some : depth s t ≡ suc n) (few : depth s t ≤ most_requests) where
    pub closes_blank : Blank (closes t s)
    unfolding closes
    closes_blank = record { requests = closed_gone s (closes t s) B t g (holder s g) (closes_view c s Z B g g_in t n t_in some few); queues = B.queues }

    pub frees_blank : Blank (frees g (closes t s))
    unfolding frees closes
    frees_blank = record {
      requests = closed_gone s (frees g (closes t s)) B t g nobody (frees_view c s Z B g g_in t n t_in some few);
      queues = new_queue nobody (group s g).queue (B.queues g);
    }

pub stands_blank : (s : State) (t : ℕ) (f : Task → Task) → Blank s → depth s t ≡ 0 → Stands s (on_task t f s) t → Blank (on_task t f s)
stands_blank s t f B none E =
    let s' = on_task t f s in
    record { requests = at_one (Gone s') t (λ i l. E.requested i ∙ B.requests t i (omega arith)) (λ u d. same_gone s s' B u (E.tasks u d)); queues = B.queues }

-- all tasks and groups are the same
pub same_locks : (c : Setup) (s s' : State) (x : ℕ) → ((u : ℕ) → SameTask s s' u) → ((a : ℕ) → SameGroup s s' a) → LocksBut c s x → LocksBut c s' x
same_locks c s s' x E F L = record {
  tasks = λ u. task_carry c s s' u (E u) (λ a _ q. (F a).holds ∙ q) (λ a i h q. stays_in c s s' a i u (F a) h q) (L.tasks u);
  groups = λ a. group_carry c s s' x x a (F a)
      (λ i _ l q. let e = E (holder s a) in (i, omega (arith, e.deep), rw (e.requested i) q))
      (λ u l q. let e = E u in (omega (arith, e.stood), rw e.wants q)) (λ z. z) (L.groups a);
}

module _ (c : Setup) (s : State) (p : Processors) where
  pub with_blank : Blank s → Blank (with_processors p s)
  with_blank B = record { requests = λ u. same_gone s (with_processors p s) B u (with_task_lem c s p u); queues = B.queues }

  pub with_sized : Sized s → Sized (with_processors p s)
  with_sized Z = record { tasks = Z.tasks; groups = Z.groups; requests = Z.requests; totals = Z.totals }

  pub with_locks : (x : ℕ) → LocksBut c s x → LocksBut c (with_processors p s) x
  with_locks x = same_locks c s (with_processors p s) x (with_task_lem c s p) (with_group_lem c s p)
