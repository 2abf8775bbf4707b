-- What each event does to tasks and groups keeps what holds of them; and its moves keep the processors `Placed`, by the scheduler's
-- laws. Assumes nothing.
use Prim.Native.Nat.{ℕ, suc, ◌-◌, ◌<◌, ◌≤◌}
use mathlib.Core.Path.{◌≡◌, refl, sym, ap, subst, ◌∙◌}
use mathlib.Core.Logic.{◌≢◌, ◌⊎◌, inl, inr, ⊎_elim}
use mathlib.Core.Bool.{true, false}
use native.Mathlib.Omega.{arith}
use native.Mathlib.Decide.{ℕ_discrete}
use lib.ListN.{length}
use Rattle.search.proofs.Tests.{tests}
use Rattle.search.proofs.Pigeons.{fewer}
use Rattle.processors.specs.declared.Processors.{Processors}
use Rattle.scheduler.specs.Arriving.{arriving as linking}
use Rattle.scheduler.specs.Leaving.{becoming_preemptable, leaving, giving_way}
use Rattle.scheduler.specs.Placed.{Placed}
use Rattle.scheduler.specs.Changes.{Alike, Joins, BecomesPreemptable}
use Rattle.scheduler.proofs.Laws.{arriving_law, alike_law, becoming_non_preemptable_law, becoming_preemptable_law, inheriting_law, leaving_law, giving_way_law}
use Rattle.numbers.specs.Limits.{most_tasks, most_resources, most_requests, nobody}
use Rattle.input.specs.Kinds.{short, long}
use Rattle.input.specs.Words.{kind}
use Rattle.setups.specs.Naming.{group_of}
use Rattle.input.specs.declared.Setup.{Setup}
use Rattle.protocol.specs.Words.{absent, spinning, suspended, task, stand, asked, depth, request, holder, len, waiter}
use Rattle.protocol.specs.Ranks.{own, jobs}
use Rattle.protocol.specs.Locks.{arriving, departing, on_task, open_of_kind, opens, enqueues, closes, frees, next_at, dequeues, passes, finish_edit}
use Rattle.protocol.specs.Edited.{request_edit, complete_edit}
use Rattle.protocol.specs.Events.{Prefers, arrives, leaves, becomes_preemptable, gives_way, finish_event, request_event, complete_event}
use Rattle.protocol.specs.Records.{with_processors}
use Rattle.protocol.specs.declared.Task.{Task}
use Rattle.protocol.specs.declared.State.{State}
use Rattle.protocol.proofs.Sound.Statements.{Grouped, Waits, LocksBut, Locks, Sized, Blank, Steady, Acts, Asks, Ends, Opens, Queues, Calls, Closes, Stands}
use Rattle.protocol.proofs.Edits.Locks.{pending_in, whole, loosen, opens_locks, enqueues_locks, dequeues_locks, closes_locks, stands_locks}
use Rattle.protocol.proofs.Jobs.Modes.{short_none, mode_soft}
use Rattle.protocol.proofs.Jobs.Changes.{enqueues_short, enqueues_long, opens_short, opens_long, closes_inner, closes_long, closes_short, soften_alike, comes_jobs, goes_jobs, passes_long, passes_short}
use Rattle.protocol.proofs.Events.Branches.{request_by, complete_by, request_edit_by, complete_edit_by}
use Rattle.protocol.proofs.Edits.Equations.{sized_task, opens_view, opens_sized, opens_own, enqueues_view, enqueues_sized, enqueues_own, dequeues_view, dequeues_sized, dequeues_own, closes_view, frees_view, closes_sized, frees_sized, closes_own, frees_own, with_jobs, stands_view, stands_stand, stands_own}
use Rattle.protocol.proofs.Edits.EmptyPlaces.{opens_blank, enqueues_blank, dequeues_blank, closes_blank, frees_blank, stands_blank, with_blank, with_sized, with_locks}

-- ---- of r's kind
module _ (c : Setup) (s : State) (t r : ℕ) where
  pub kind_some : open_of_kind c s t r ≡ true → (i : ℕ) × (i < depth s t) × (kind c (request s t i) ≡ kind c r)
  unfolding open_of_kind
  kind_some e = simp tests at e

  pub kind_none : open_of_kind c s t r ≡ false → (i : ℕ) → i < depth s t → kind c (request s t i) ≢ kind c r
  unfolding open_of_kind
  kind_none e = simp tests at e

-- ---- the processors of a state change
pub with_steady : (c : Setup) (s : State) (p : Processors) → Steady c s → Steady c (with_processors p s)
with_steady c s p S = record { sized = with_sized c s p S.sized; blank = with_blank c s p S.blank; locks = with_locks c s p nobody S.locks }

-- who is linked and runs, by the jobs of the state
abbrev pub Rests : Setup → State → Type 0
Rests c s = Placed s.processors (jobs c s)

-- a hand-over reads no processor
passes_with : (p : Processors) (s : State) (g : ℕ) → passes g (with_processors p s) ≡ with_processors p (passes g s)
unfolding passes opens dequeues asked waiter
passes_with p s g = refl

-- ---- u, the next of a group that nobody holds, becomes holder
module _ (c : Setup) (G : Grouped c) (s : State) (Z : Sized s) (B : Blank s) (g : ℕ) (g_in : g < most_resources) (L : LocksBut c s g)
    (free : holder s g ≡ nobody) (n : ℕ) (some : len s g ≡ suc n) where
  abbrev u : ℕ
  u = next_at s g

  abbrev s₂ : State
  s₂ = dequeues g s

  u_waits : (spinning ≤ stand s u) × (group_of c (asked s u) ≡ g)
  u_waits = (L.groups g).queued 0 (omega arith)

  W : Waits c s u
  W = (L.tasks u).waits u_waits.0

  u_in : u < most_tasks
  u_in = pending_in c G s g u L (λ e. omega (arith, u_waits.0))

  called : Calls s s₂ u g
  called = dequeues_view c s Z B g g_in u_in n some

  called_sized : Sized s₂
  called_sized = dequeues_sized c s Z B g g_in u_in n some

  called_blank : Blank s₂
  called_blank = dequeues_blank c s Z B g g_in u_in n some

  called_locks : LocksBut c s₂ g
  called_locks = dequeues_locks c s s₂ u g L called refl

  called_own : (w : ℕ) → own s₂ w ≡ own s w
  called_own = dequeues_own c s Z B g g_in u_in n some

  room : depth s₂ u < most_requests
  room = omega (arith, called.deep, W.room)

  passed : Opens s₂ (passes g s) u (asked s u) g
  unfolding passes
  passed = opens_view c s₂ called_sized called_blank g g_in u (asked s u) u_in room

  passed_locks : Locks c (passes g s)
  passed_locks = opens_locks c G s₂ (passes g s) u (asked s u) g called_locks passed called.stood (inr (called.holds ∙ free)) W.inside u_waits.1 room
      (λ i l e. W.apart i (omega (arith, called.deep)) (ap (kind c) (sym (called.requested i) ∙ e)))
      (λ i l k. absurd (omega (arith, called.deep, W.asleep (omega (arith, W.kinds)))))
      (λ i l e. absurd (W.apart i (omega (arith, called.deep)) (ap (kind c) (sym (called.requested i)) ∙ e))) nobody

  passed_own : (w : ℕ) → own (passes g s) w ≡ own s₂ w
  unfolding passes
  passed_own = opens_own c s₂ called_sized called_blank g g_in u (asked s u) u_in room

  passed_short : kind c g ≡ short → Alike (jobs c s) (jobs c (passes g s))
  passed_short = passes_short c G s s₂ (passes g s) u (asked s u) g g g nobody L called_locks passed_locks called passed called_own passed_own refl refl free

  passed_long : kind c g ≡ long → Joins (jobs c s) (jobs c (passes g s)) u
  passed_long = passes_long c G s s₂ (passes g s) u (asked s u) g g g nobody L called_locks passed_locks called passed called_own passed_own refl refl free

  passed_steady : Steady c (passes g s)
  unfolding passes
  passed_steady = record {
    sized = opens_sized c s₂ called_sized called_blank g g_in u (asked s u) u_in room;
    blank = opens_blank c s₂ called_sized called_blank g g_in u (asked s u) u_in room;
    locks = passed_locks;
  }

module _ (c : Setup) (G : Grouped c) (s : State) (S : Steady c s) (t : ℕ) where
  acts_in : Acts s t → t < most_tasks
  acts_in A = pending_in c G s nobody t S.locks (λ e. omega (arith, A.act))

  -- ---- t, with nothing open, comes or goes
  module _ (f : Task → Task) (none : depth s t ≡ 0) (t_in : t < most_tasks) where
    stood_steady : (E : Stands s (on_task t f s) t) → ((f (task s t)).requests ≡ (task s t).requests) → ((f (task s t)).totals ≡ (task s t).totals) → Locks c (on_task t f s) → Steady c (on_task t f s)
    stood_steady E a b L' = record {
      sized = sized_task s t f S.sized t_in (ap length a ∙ S.sized.requests t) (ap length b ∙ S.sized.totals t);
      blank = stands_blank s t f S.blank none E;
      locks = L';
    }

  -- ---- an arrival
  module _ (due : ℕ) (t-task : t < c.tasks) (gone : stand s t ≡ absent) where
    abbrev come : Task → Task
    come = arriving s.clock due

    come_in : t < most_tasks
    come_in = omega (arith, G.few_tasks)

    come_none : depth s t ≡ 0
    come_none = (S.locks.tasks t).none gone

    come_view : Stands s (on_task t come s) t
    come_view = stands_view s S.sized t come_in come_none come (omega arith) refl refl

    pub arrive_steady : Steady c (on_task t (arriving s.clock due) s)
    arrive_steady = stood_steady come come_none come_in come_view refl refl (stands_locks c s _ t nobody S.locks come_view (omega arith) come_none (λ _. t-task))

    pub arrive_joins : Joins (jobs c s) (jobs c (on_task t (arriving s.clock due) s)) t
    arrive_joins = comes_jobs c G s (on_task t come s) t nobody S.locks come_view arrive_steady.locks (stands_own s S.sized t come_in come_none come) come_in (omega arith) gone
        (stands_stand s S.sized t come_in come_none come)

    pub arrive_placed : (pick : Prefers) → Rests c s → Rests c (arrives pick c t (on_task t (arriving s.clock due) s))
    unfolding arrives
    arrive_placed pick P =
        let s' = on_task t come s in
        rw (with_jobs c s' (linking s.processors (jobs c s') t (pick s' t))) (arriving_law s.processors (jobs c s) (jobs c s') P t arrive_joins (pick s' t))

  -- ---- a finish
  module _ (A : Acts s t) (none : depth s t ≡ 0) where
    go_view : Stands s (on_task t departing s) t
    go_view = stands_view s S.sized t (acts_in A) none departing (omega arith) refl refl

    go_gone : stand (on_task t departing s) t ≡ absent
    go_gone = stands_stand s S.sized t (acts_in A) none departing

    pub finish_steady : Steady c (finish_edit t s)
    finish_steady = stood_steady departing none (acts_in A) go_view refl refl (stands_locks c s _ t nobody S.locks go_view (omega (arith, A.act)) none (λ z. absurd (z go_gone)))

    pub finish_placed : Rests c s → Rests c (finish_event c t s)
    unfolding finish_event leaves
    finish_placed P =
        let s' = on_task t departing s in
        rw (with_jobs c s' (leaving s.processors (jobs c s') t))
        (leaving_law s.processors (jobs c s) (jobs c s') P t (acts_in A) A.on (mode_soft c s t (acts_in A) A.act (short_none c s t (λ i l. absurd (omega arith))))
        (goes_jobs c G s s' t nobody S.locks go_view finish_steady.locks (stands_own s S.sized t (acts_in A) none departing) (acts_in A) (omega (arith, A.act)) go_gone))

  module _ (r : ℕ) where
    abbrev g : ℕ
    g = group_of c r

    g_in : r < c.resources → (group_of c r < most_resources) × (group_of c r ≢ nobody)
    g_in h = let l = G.low r h in (omega (arith, G.few_resources), λ e. omega (arith, G.few_resources))

    kind_long : r < c.resources → kind c r ≢ short → kind c r ≡ long
    kind_long h k = omega (arith, G.kinds r h)

    -- ---- a request
    module _ (A : Asks c s t r) where
      module _ (free : (holder s g ≡ t) ⊎ (holder s g ≡ nobody)) where
        opened : Opens s (opens t r g s) t r g
        opened = opens_view c s S.sized S.blank g (g_in A.inside).0 t r (acts_in A.acts) A.room

        opened_steady : Steady c (opens t r g s)
        opened_steady =
            let t_in = acts_in A.acts in
            let i = (g_in A.inside).0 in
            record {
              sized = opens_sized c s S.sized S.blank g i t r t_in A.room;
              blank = opens_blank c s S.sized S.blank g i t r t_in A.room;
              locks = opens_locks c G s _ t r g (loosen c G s g S.locks) opened A.acts.act free A.inside refl A.room A.new A.longs_first A.within nobody;
            }

        opened_placed : Rests c s → Rests c (opens t r g s)
        unfolding opens
        opened_placed P =
            let s' = opens t r g s in
            let t_in = acts_in A.acts in
            let i = g_in A.inside in
            let own' = opens_own c s S.sized S.blank g i.0 t r t_in A.room in
            elim (ℕ_discrete (kind c r) short) [
              | yes k ↦ becoming_non_preemptable_law s.processors (jobs c s) (jobs c s') P t t_in A.acts.on
                  (opens_short c G s s' t r g nobody nobody S.locks opened_steady.locks own' A.acts.act A.inside refl opened k)
              | no k ↦ alike_law s.processors (jobs c s) (jobs c s') P
                  (opens_long c G s s' t r g nobody nobody S.locks opened_steady.locks own' A.acts.act A.inside refl opened (kind_long A.inside k)
                  (⊎_elim (λ z. inl z) (λ z. inr ((S.locks.groups g).only_held i.1 z)) free))
            ]

      module _ (busy : holder s g ≢ nobody) (other : (i : ℕ) → i < depth s t → kind c (request s t i) ≢ kind c r) where
        -- t and those who wait are different tasks
        pub queue_room : len s (group_of c r) < most_tasks
        queue_room =
            let K = S.locks.groups g in
            fewer (len s g) most_tasks t (waiter s g) (acts_in A.acts)
            (λ i l. let q = (K.queued i l).0 in
            (pending_in c G s nobody (waiter s g i) S.locks (λ e. omega arith), λ e. omega (arith, A.acts.act, ap (stand s) e)))
            K.once

        pub queued : Queues c s (enqueues c t r (group_of c r) s) t r (group_of c r)
        queued = enqueues_view c s S.sized S.blank g (g_in A.inside).0 t r (acts_in A.acts) (G.kinds r A.inside) queue_room

        queued_own : (w : ℕ) → own (enqueues c t r g s) w ≡ own s w
        queued_own = enqueues_own c s S.sized S.blank g (g_in A.inside).0 t r (acts_in A.acts) (G.kinds r A.inside) queue_room

        queued_steady : Steady c (enqueues c t r g s)
        queued_steady = record {
          sized = enqueues_sized c s S.sized S.blank g (g_in A.inside).0 t r (acts_in A.acts) (G.kinds r A.inside) queue_room;
          blank = enqueues_blank c s S.sized S.blank g (g_in A.inside).0 t r (acts_in A.acts) (G.kinds r A.inside) queue_room;
          locks = enqueues_locks c s (enqueues c t r g s) t r g S.locks queued A.acts.act busy A.inside refl A.room A.longs_first other;
        }

        spins_placed : Rests c s → kind c r ≡ short → Rests c (enqueues c t r g s)
        unfolding enqueues
        spins_placed P k =
            let s' = enqueues c t r g s in
            becoming_non_preemptable_law s.processors (jobs c s) (jobs c s') P t (acts_in A.acts) A.acts.on
            (enqueues_short c G s s' t r g nobody nobody S.locks queued_steady.locks queued_own A.acts.act A.inside refl queued k)

        suspends_placed : Rests c s → kind c r ≡ long → Rests c (leaves c t (enqueues c t r g s))
        unfolding leaves enqueues
        suspends_placed P k =
            let s' = enqueues c t r g s in
            let t_in = acts_in A.acts in
            let asleep : stand s' t ≡ suspended = omega (arith, queued.stood) in
            let none : depth s t ≡ 0 = sym queued.deep ∙ ((queued_steady.locks.tasks t).waits (omega arith)).asleep asleep in
            let soft = mode_soft c s t t_in A.acts.act (short_none c s t (λ i l. absurd (omega arith))) in
            rw (with_jobs c s' (leaving s.processors (jobs c s') t))
            (inheriting_law s.processors (jobs c s) (jobs c s') P t t_in A.acts.on soft (holder s g)
            (enqueues_long c G s s' t r g nobody nobody S.locks queued_steady.locks queued_own A.acts.act A.inside refl queued k busy none))

      -- a group of r's kind that t has open is r's, and t holds it
      granted : (open_of_kind c s t r ≡ true) ⊎ (holder s g ≡ nobody) → (holder s g ≡ t) ⊎ (holder s g ≡ nobody)
      granted = ⊎_elim (λ q.
          let i = kind_some c s t r q in
          inl (ap (holder s) (sym (A.within i.0 i.1 i.2)) ∙ ((S.locks.tasks t).opened.held i.0 i.1).1)) (λ z. inr z)

      pub request_steady : Steady c (request_edit c t r s)
      request_steady = request_edit_by c t r s (Steady c) (λ e. opened_steady (granted e)) (λ e b. queued_steady b (kind_none c s t r e))

      pub request_placed : Rests c s → Rests c (request_event c t r s)
      request_placed P = request_by c t r s (Rests c) (λ e. opened_placed (granted e) P)
          (λ e b k. spins_placed b (kind_none c s t r e) P k)
          (λ e b k. suspends_placed b (kind_none c s t r e) P (kind_long A.inside k))

    -- ---- a completion
    module _ (A : Ends s t r) where
      newest : (r < c.resources) × (holder s g ≡ t)
      newest = rw A.newest at ((S.locks.tasks t).opened.held A.left (omega (arith, A.some)))

      few : depth s t ≤ most_requests
      few = (S.locks.tasks t).opened.few

      closed : Closes s (closes t s) t g (holder s g)
      closed = closes_view c s S.sized S.blank g (g_in newest.0).0 t A.left (acts_in A.acts) A.some few

      -- the request that is closed is r
      was : (d : ℕ) → depth s t ≡ suc d → request s t d ≡ r
      was d e = ap (request s t) (omega (arith, A.some)) ∙ A.newest

      -- inner
      module _ (k : ℕ) (b : k < depth (closes t s) t) (q : kind c (request (closes t s) t k) ≡ kind c r) where
        inner_is : request s t (depth (closes t s) t) ≡ r
        inner_is = was (depth (closes t s) t) closed.deep

        inner_group : group_of c (request s t k) ≡ g
        inner_group = (S.locks.tasks t).opened.one_group k (depth (closes t s) t) (omega (arith, closed.deep)) (omega (arith, closed.deep))
            (ap (kind c) (sym (closed.old k b)) ∙ q ∙ ap (kind c) (sym inner_is)) ∙ ap (group_of c) inner_is

        inner_steady : Steady c (closes t s)
        inner_steady =
            let t_in = acts_in A.acts in
            let i = (g_in newest.0).0 in
            record {
              sized = closes_sized c s S.sized S.blank g i t A.left t_in A.some few;
              blank = closes_blank c s S.sized S.blank g i t A.left t_in A.some few;
              locks = whole c (closes t s) g nobody
                  (closes_locks c s (closes t s) t g (holder s g) (loosen c G s g S.locks) closed A.acts.act (ap (group_of c) inner_is) (inl (newest.1, (k, b, inner_group))))
                  (λ z. absurd (omega (arith, newest.1, closed.holds)));
            }

        inner_placed : Rests c s → Rests c (closes t s)
        unfolding closes
        inner_placed P = alike_law s.processors (jobs c s) (jobs c (closes t s)) P
            (closes_inner c G s (closes t s) t g (holder s g) nobody nobody S.locks closed inner_steady.locks
            (closes_own c s S.sized S.blank g (g_in newest.0).0 t A.left (acts_in A.acts) A.some few)
            A.acts.act (ap (group_of c) inner_is) newest.1 k b inner_group)

      -- outermost: the group is free, and may have a queue
      module _ (last : (k : ℕ) → k < depth (closes t s) t → kind c (request (closes t s) t k) ≢ kind c r) where
        abbrev f : State
        f = frees g (closes t s)

        freed : Closes s f t g nobody
        freed = frees_view c s S.sized S.blank g (g_in newest.0).0 t A.left (acts_in A.acts) A.some few

        freed_sized : Sized f
        freed_sized = frees_sized c s S.sized S.blank g (g_in newest.0).0 t A.left (acts_in A.acts) A.some few

        freed_blank : Blank f
        freed_blank = frees_blank c s S.sized S.blank g (g_in newest.0).0 t A.left (acts_in A.acts) A.some few

        freed_own : (w : ℕ) → own f w ≡ own s w
        freed_own = frees_own c s S.sized S.blank g (g_in newest.0).0 t A.left (acts_in A.acts) A.some few

        freed_group : group_of c (request s t (depth f t)) ≡ group_of c r
        freed_group = ap (group_of c) (was (depth f t) freed.deep)

        none_left : (k : ℕ) → k < depth f t → group_of c (request s t k) ≢ group_of c r
        none_left k b q =
            let b' : k < depth (closes t s) t = omega (arith, freed.deep, closed.deep) in
            last k b' (ap (kind c) (closed.old k b') ∙ sym (G.alike _ ((S.locks.tasks t).opened.held k (omega (arith, freed.deep))).0) ∙ ap (kind c) q ∙ G.alike r newest.0)

        freed_locks : LocksBut c f g
        freed_locks = closes_locks c s f t g nobody (loosen c G s g S.locks) freed A.acts.act freed_group (inr (refl, none_left))

        -- no queue: the group is whole
        freed_steady : len s g ≡ 0 → Steady c f
        freed_steady z = record { sized = freed_sized; blank = freed_blank; locks = whole c f g nobody freed_locks (λ _. freed.long ∙ z) }

        -- the first in line waited, whatever the processors
        pub first_stands : (n : ℕ) → len s (group_of c r) ≡ suc n → spinning ≤ stand (frees (group_of c r) (closes t s)) (next_at (frees (group_of c r) (closes t s)) (group_of c r))
        first_stands n z = ((freed_locks.groups g).queued 0 (omega (arith, freed.long))).0

        module _ (n : ℕ) (some : len s g ≡ suc n) where
          pass_steady : Steady c (passes g f)
          pass_steady = passed_steady c G f freed_sized freed_blank g (g_in newest.0).0 freed_locks freed.holds n (freed.long ∙ some)

          pass_short : kind c r ≡ short → Alike (jobs c f) (jobs c (passes g f))
          pass_short k = passed_short c G f freed_sized freed_blank g (g_in newest.0).0 freed_locks freed.holds n (freed.long ∙ some) (G.alike r newest.0 ∙ k)

          pub pass_long : kind c r ≡ long
              → let f = frees (group_of c r) (closes t s) in Joins (jobs c f) (jobs c (passes (group_of c r) f)) (next_at f (group_of c r))
          pass_long k = passed_long c G f freed_sized freed_blank g (g_in newest.0).0 freed_locks freed.holds n (freed.long ∙ some) (G.alike r newest.0 ∙ k)

        -- ---- the processors
        module _ (P : Rests c s) where
          -- short: the completer is preemptable
          softer : kind c r ≡ short → BecomesPreemptable (jobs c s) (jobs c f) t
          softer k = closes_short c G s f t g nobody nobody g S.locks freed freed_locks freed_own A.acts.act freed_group refl (G.alike r newest.0 ∙ k) none_left

          softened : (s' : State) → BecomesPreemptable (jobs c s) (jobs c s') t → Placed (becoming_preemptable s.processors t) (jobs c s')
          softened s' X = becoming_preemptable_law s.processors (jobs c s) (jobs c s') P t (acts_in A.acts) A.acts.on X

          short_empty : kind c r ≡ short → Rests c (becomes_preemptable c t f)
          unfolding becomes_preemptable frees closes
          short_empty k = rw (with_jobs c f (becoming_preemptable s.processors t)) (softened f (softer k))

          -- and the first in line goes on unpreempted
          short_pass : kind c r ≡ short → (n : ℕ) → len s g ≡ suc n → Rests c (becomes_preemptable c t (passes g f))
          unfolding becomes_preemptable passes opens dequeues frees closes
          short_pass k n z = rw (with_jobs c (passes g f) (becoming_preemptable s.processors t)) (softened (passes g f) (soften_alike c s f (passes g f) t (softer k) (pass_short n z k)))

          -- long: the completer's rank is restored, and it gives way
          pub restored : kind c r ≡ long → Placed (giving_way s.processors (jobs c (frees (group_of c r) (closes t s))) t) (jobs c (frees (group_of c r) (closes t s)))
          restored k =
              let t_in = acts_in A.acts in
              let soft = mode_soft c s t t_in A.acts.act (short_none c s t (λ i l q.
              elim (ℕ_discrete i A.left) [
                | yes e ↦ omega (arith, ap (kind c) (was i (A.some ∙ ap suc (sym e))))
                | no d ↦ omega (arith, (S.locks.tasks t).opened.longs_first A.left i (omega (arith, A.some)) (omega (arith, A.some)) (ap (kind c) A.newest ∙ k))
              ])) in
              giving_way_law s.processors (jobs c s) (jobs c f) P t t_in A.acts.on soft
              (closes_long c G s f t g nobody nobody g S.locks freed freed_locks freed_own A.acts.act freed_group refl (G.alike r newest.0 ∙ k))

          long_empty : kind c r ≡ long → Rests c (gives_way c t f)
          unfolding gives_way frees closes
          long_empty k = rw (with_jobs c f (giving_way s.processors (jobs c f) t)) (restored k)

          -- and the first in line resumes
          long_pass : (pick : Prefers) → kind c r ≡ long → (n : ℕ) → len s g ≡ suc n → Rests c (arrives pick c (next_at s g) (passes g (gives_way c t f)))
          unfolding gives_way arrives frees closes
          long_pass pick k n z =
              let p = giving_way s.processors (jobs c f) t in
              let s' = passes g f in
              let v = next_at s g in
              let joins : Joins (jobs c f) (jobs c s') v = subst (Joins (jobs c f) (jobs c s')) (freed.line 0) (pass_long n z k) in
              let w = pick (with_processors p s') v in
              subst (λ (x : State). Rests c (with_processors (linking x.processors (jobs c x) v (pick x v)) x)) (sym (passes_with p f g))
              (rw (with_jobs c s' p, with_jobs c s' (linking p (jobs c s') v w)) (arriving_law p (jobs c f) (jobs c s') (restored k) v joins w))

      pub complete_steady : Steady c (complete_edit c t r s)
      complete_steady = complete_edit_by c t r s (Steady c)
          (λ e. let i = kind_some c (closes t s) t r e in inner_steady i.0 i.1 i.2)
          (λ e z. freed_steady (kind_none c (closes t s) t r e) z)
          (λ e z. pass_steady (kind_none c (closes t s) t r e) (len s g - 1) (omega arith))

      pub complete_placed : (pick : Prefers) → Rests c s → Rests c (complete_event pick c t r s)
      complete_placed pick P = complete_by pick c t r s (Rests c)
          (λ e. let i = kind_some c (closes t s) t r e in inner_placed i.0 i.1 i.2 P)
          (λ e k z. short_empty (kind_none c (closes t s) t r e) P k)
          (λ e k z. short_pass (kind_none c (closes t s) t r e) P k (len s g - 1) (omega arith))
          (λ e k z. long_empty (kind_none c (closes t s) t r e) P (kind_long newest.0 k))
          (λ e k z. long_pass (kind_none c (closes t s) t r e) P pick (kind_long newest.0 k) (len s g - 1) (omega arith))
