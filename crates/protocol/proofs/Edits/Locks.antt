-- Each edit of the locks keeps what holds of them. Assumes nothing.
use Prim.Native.Nat.{ℕ, zero, suc, ◌<◌, ◌≤◌}
use mathlib.Core.Path.{◌≡◌, refl, sym, ap, ◌∙◌}
use mathlib.Core.Logic.{◌≢◌, ◌⊎◌, inl, inr, ⊎_elim}
use native.Mathlib.Omega.{arith}
use native.Mathlib.Decide.{ℕ_discrete, dec_lt}
use Rattle.numbers.specs.Limits.{most_tasks, most_requests, nobody}
use Rattle.input.specs.Kinds.{long}
use Rattle.input.specs.Words.{kind}
use Rattle.setups.specs.Naming.{group_of}
use Rattle.input.specs.declared.Setup.{Setup}
use Rattle.protocol.specs.Words.{absent, active, spinning, stand, asked, depth, request, holder, len, waiter}
use Rattle.protocol.specs.declared.State.{State}
use Rattle.protocol.proofs.Sound.Statements.{Grouped, OpenOk, TaskOk, GroupOk, LocksBut, SameTask, SameGroup, Opens, Queues, Calls, Closes, Stands}
use Rattle.protocol.proofs.Edits.Untouched.{at_one, open_carry, task_carry, group_carry, stays_in}

-- ---- the group that may lack a holder
pub whole : (c : Setup) (s : State) (x y : ℕ) → LocksBut c s x → (holder s x ≡ nobody → len s x ≡ 0) → LocksBut c s y
whole c s x y L h = record {
  tasks = L.tasks;
  groups = λ g. let K = L.groups g in record {
    held = K.held;
    queued = K.queued;
    once = K.once;
    only_held = λ _ q. elim (ℕ_discrete g x) [ yes e ↦ ap (len s) e ∙ h (ap (holder s) (sym e) ∙ q) | no d ↦ K.only_held d q ];
  };
}

-- no group stands past the resources
pub no_queue : (c : Setup) → Grouped c → (s : State) (x g : ℕ) → LocksBut c s x → c.resources ≤ g → len s g ≡ 0
no_queue c G s x g L h = elim (dec_lt 0 (len s g)) [
  | yes y ↦
      let k = (L.groups g).queued 0 y in
      let w = (L.tasks (waiter s g 0)).waits k.0 in
      absurd (omega (arith, G.low _ w.inside, k.1))
  | no y ↦ omega arith
]

-- who has a job is one of the tasks
pub pending_in : (c : Setup) → Grouped c → (s : State) (x t : ℕ) → LocksBut c s x → stand s t ≢ absent → t < most_tasks
pending_in c G s x t L h = omega (arith, G.few_tasks, (L.tasks t).inside h)

pub loosen : (c : Setup) → Grouped c → (s : State) (y : ℕ) → LocksBut c s nobody → LocksBut c s y
loosen c G s y L = whole c s nobody y L (λ _. no_queue c G s nobody nobody L (omega (arith, G.few_resources)))

-- ---- an edit of task t and of group g: what it has to show of these two, and of nothing else
abbrev Has : Setup → State → ℕ → ℕ → Type 0
Has c s u a = (i : ℕ) × (i < depth s u) × (group_of c (request s u i) ≡ a)

abbrev Stands-in : State → ℕ → ℕ → Type 0
Stands-in s a u = (i : ℕ) × (i < len s a) × (waiter s a i ≡ u)

abbrev Waits-at : Setup → State → ℕ → ℕ → Type 0
Waits-at c s u a = (spinning ≤ stand s u) × (group_of c (asked s u) ≡ a)

module _ (c : Setup) (s s' : State) where
  has_still : (u i a : ℕ) → SameTask s s' u → i < depth s u → group_of c (request s u i) ≡ a → Has c s' u a
  has_still u i a E h q = (i, omega (arith, E.deep), rw (E.requested i) q)

  all_have : (t : ℕ) → ((u : ℕ) → u ≢ t → SameTask s s' u) → depth s' t ≡ depth s t → ((i : ℕ) → request s' t i ≡ request s t i)
      → (u i a : ℕ) → i < depth s u → group_of c (request s u i) ≡ a → Has c s' u a
  all_have t tasks deep same = at_one (λ u. (i a : ℕ) → i < depth s u → group_of c (request s u i) ≡ a → Has c s' u a) t
      (λ i a l q. (i, omega arith, rw (same i) q)) (λ u d i a. has_still u i a (tasks u d))

  all_hold : (g : ℕ) → ((a : ℕ) → a ≢ g → SameGroup s s' a) → holder s' g ≡ holder s g → (a : ℕ) → holder s' a ≡ holder s a
  all_hold g groups same = at_one (λ a. holder s' a ≡ holder s a) g same (λ a d. (groups a d).holds)

  waits_still : (u a : ℕ) → SameTask s s' u → spinning ≤ stand s u → group_of c (asked s u) ≡ a → Waits-at c s' u a
  waits_still u a E h q = (omega (arith, E.stood), rw E.wants q)

  module _ (t g : ℕ) (tasks : (u : ℕ) → u ≢ t → SameTask s s' u) (groups : (a : ℕ) → a ≢ g → SameGroup s s' a) where
    edited : (x y : ℕ) → ((a : ℕ) → a ≢ g → a ≢ y → a ≢ x) → LocksBut c s x
        → ((u : ℕ) → u ≢ t → u < c.tasks → holder s g ≡ u → holder s' g ≡ u)
        → ((u i : ℕ) → u ≢ t → i < len s g → waiter s g i ≡ u → Stands-in s' g u)
        → ((a i : ℕ) → a ≢ g → i < depth s t → group_of c (request s t i) ≡ a → Has c s' t a)
        → ((a : ℕ) → a ≢ g → spinning ≤ stand s t → group_of c (asked s t) ≡ a → Waits-at c s' t a)
        → TaskOk c s' t → GroupOk c s' y g → LocksBut c s' y
    edited x y but L hold stay has wait T K = record {
      tasks = at_one (TaskOk c s') t T (λ u d. task_carry c s s' u (tasks u d)
          (at_one (λ a. u < c.tasks → holder s a ≡ u → holder s' a ≡ u) g (hold u d) (λ a b _ q. (groups a b).holds ∙ q))
          (at_one (λ a. (i : ℕ) → i < len s a → waiter s a i ≡ u → Stands-in s' a u) g (λ i. stay u i d) (λ a b i. stays_in c s s' a i u (groups a b)))
          (L.tasks u));
      groups = at_one (GroupOk c s' y) g K (λ a d. group_carry c s s' x y a (groups a d)
          (λ i _. at_one (λ u. i < depth s u → group_of c (request s u i) ≡ a → Has c s' u a) t (has a i d) (λ u b. has_still u i a (tasks u b)) (holder s a))
          (at_one (λ u. spinning ≤ stand s u → group_of c (asked s u) ≡ a → Waits-at c s' u a) t (wait a d) (λ u b. waits_still u a (tasks u b)))
          (but a d) (L.groups a));
    }

-- ---- a request is opened
module _ (c : Setup) (G : Grouped c) (s s' : State) (t r g : ℕ) (L : LocksBut c s g) (E : Opens s s' t r g)
    (act : stand s t ≡ active) (free : (holder s g ≡ t) ⊎ (holder s g ≡ nobody)) (r-in : r < c.resources) (g-is : group_of c r ≡ g) (room : depth s t < most_requests)
    (fresh : (i : ℕ) → i < depth s t → request s t i ≢ r)
    (order : (i : ℕ) → i < depth s t → kind c r ≡ long → kind c (request s t i) ≡ long)
    (within : (i : ℕ) → i < depth s t → kind c (request s t i) ≡ kind c r → group_of c (request s t i) ≡ g) where
  t_in : t < c.tasks
  t_in = (L.tasks t).inside (λ e. omega arith)

  -- a request of t's is the new one, or an old one
  at : (i : ℕ) → i < depth s' t → ((i ≡ depth s t) × (request s' t i ≡ r)) ⊎ ((i < depth s t) × (request s' t i ≡ request s t i))
  at i h = elim (ℕ_discrete i (depth s t)) [ yes e ↦ inl (e, ap (request s' t) e ∙ E.new) | no d ↦ inr (omega (arith, E.deep), E.old i d) ]

  holds_on : (a : ℕ) → holder s a ≡ t → holder s' a ≡ t
  holds_on = at_one (λ a. holder s a ≡ t → holder s' a ≡ t) g (λ _. E.holds) (λ a d q. (E.groups a d).holds ∙ q)

  opener : OpenOk c s' t
  opener =
      let K = (L.tasks t).opened in
      record {
        few = omega (arith, E.deep);
        held = λ i h. ⊎_elim (λ z. rw z.1 (r-in, ap (holder s') g-is ∙ E.holds)) (λ z. let k = K.held i z.0 in rw z.1 (k.0, holds_on _ k.1)) (at i h);
        once = λ i k h l q.
            ⊎_elim (λ y. ⊎_elim (λ z. y.0 ∙ sym z.0) (λ z. absurd (fresh k z.0 (sym z.1 ∙ sym q ∙ y.1))) (at k l))
            (λ y. ⊎_elim (λ z. absurd (fresh i y.0 (sym y.1 ∙ q ∙ z.1))) (λ z. K.once i k y.0 z.0 (sym y.1 ∙ q ∙ z.1)) (at k l)) (at i h);
        longs_first = λ i k b h q.
            let e = E.old k (omega (arith, E.deep)) in
            ⊎_elim (λ y. rw e (order k (omega arith) (rw y.1 at q))) (λ y. rw e (K.longs_first i k b y.0 (rw y.1 at q))) (at i h);
        one_group = λ i k h l q.
            ⊎_elim
            (λ y. ⊎_elim (λ z. rw (y.1, z.1)) (λ z. rw (y.1, z.1) (g-is ∙ sym (within k z.0 (sym (rw (y.1, z.1) at q))))) (at k l))
            (λ y. ⊎_elim (λ z. rw (y.1, z.1) (within i y.0 (rw (y.1, z.1) at q) ∙ sym g-is)) (λ z. rw (y.1, z.1) (K.one_group i k y.0 z.0 (rw (y.1, z.1) at q))) (at k l))
            (at i h);
      }

  pub opens_locks : (x : ℕ) → LocksBut c s' x
  opens_locks x = edited c s s' t g E.tasks E.groups g x (λ a d _. d) L
      (λ u d l q. ⊎_elim (λ z. absurd (d (sym q ∙ z))) (λ z. absurd (omega (arith, G.few_tasks))) free)
      (λ u i d h q. (i, omega (arith, E.long), E.line i ∙ q))
      (λ a i d l q. (i, omega (arith, E.deep), rw (E.old i (omega arith)) q))
      (λ a d h q. absurd (omega arith))
      (record { opened = opener; none = λ q. absurd (omega (arith, E.stood)); inside = λ _. t_in; waits = λ q. absurd (omega (arith, E.stood)) })
      (let K = L.groups g in record {
        held = λ _. rw E.holds (depth s t, omega (arith, E.deep), rw E.new g-is);
        queued = λ i h. let k = K.queued i (omega (arith, E.long)) in rw (E.line i) (waits_still c s s' _ g (E.tasks _ (λ z. omega (arith, k.0, ap (stand s) z))) k.0 k.1);
        once = λ i k h l q. K.once i k (omega (arith, E.long)) (omega (arith, E.long)) (sym (E.line i) ∙ q ∙ E.line k);
        only_held = λ _ q. absurd (omega (arith, E.holds, G.few_tasks, t_in));
      })

-- ---- t waits at the end of a queue
module _ (c : Setup) (s s' : State) (t r g : ℕ) (L : LocksBut c s nobody) (E : Queues c s s' t r g)
    (act : stand s t ≡ active) (busy : holder s g ≢ nobody) (r-in : r < c.resources) (g-is : group_of c r ≡ g) (room : depth s t < most_requests)
    (order : (i : ℕ) → i < depth s t → kind c r ≡ long → kind c (request s t i) ≡ long)
    (other : (i : ℕ) → i < depth s t → kind c (request s t i) ≢ kind c r) where
  queuer : TaskOk c s' t
  queuer = record {
    opened = open_carry c s s' t E.deep E.requested (λ a _ _ _ q. all_hold c s s' g E.groups E.holds a ∙ q) (L.tasks t).opened;
    none = λ q. absurd (omega (arith, E.stood));
    inside = λ _. (L.tasks t).inside (λ e. omega arith);
    waits = λ _. record {
      inside = rw E.wants r-in;
      kinds = rw E.wants E.stood;
      place = rw (E.wants, g-is) (len s g, omega (arith, E.long), E.last);
      apart = λ i h. rw (E.requested i, E.wants) (other i (omega (arith, E.deep)));
      asleep = λ z. elim (dec_lt 0 (depth s t)) [
        | yes y ↦ let k : kind c r ≡ long = omega (arith, E.stood) in absurd (other 0 y (order 0 y k ∙ sym k))
        | no y ↦ omega (arith, E.deep)
      ];
      room = omega (arith, E.deep);
    };
  }

  has_q : (u i a : ℕ) → i < depth s u → group_of c (request s u i) ≡ a → Has c s' u a
  has_q = all_have c s s' t E.tasks E.deep E.requested

  -- a place of the queue is the new last one, or an old one
  at_q : (i : ℕ) → i < len s' g → ((i ≡ len s g) × (waiter s' g i ≡ t)) ⊎ ((i < len s g) × (waiter s' g i ≡ waiter s g i))
  at_q i h = elim (ℕ_discrete i (len s g)) [ yes e ↦ inl (e, ap (waiter s' g) e ∙ E.last) | no d ↦ inr (omega (arith, E.long), E.line i d) ]

  -- t stood in no queue
  new : (i : ℕ) → i < len s g → waiter s g i ≢ t
  new i h q = omega (arith, ((L.groups g).queued i h).0, ap (stand s) q)

  pub enqueues_locks : LocksBut c s' nobody
  enqueues_locks = edited c s s' t g E.tasks E.groups nobody nobody (λ a _ d. d) L
      (λ u d _ q. E.holds ∙ q)
      (λ u i d h q. (i, omega (arith, E.long), E.line i (omega arith) ∙ q))
      (λ a i d. has_q t i a)
      (λ a d h q. absurd (omega arith))
      queuer
      (let K = L.groups g in record {
        held = λ _. rw E.holds (let k = K.held busy in has_q (holder s g) k.0 g k.1 k.2);
        queued = λ i h. ⊎_elim
            (λ z. rw z.1 (omega (arith, E.stood), rw E.wants g-is))
            (λ z. let k = K.queued i z.0 in rw z.1 (waits_still c s s' _ g (E.tasks _ (new i z.0)) k.0 k.1)) (at_q i h);
        once = λ i k h l q.
            ⊎_elim (λ y. ⊎_elim (λ z. y.0 ∙ sym z.0) (λ z. absurd (new k z.0 (sym z.1 ∙ sym q ∙ y.1))) (at_q k l))
            (λ y. ⊎_elim (λ z. absurd (new i y.0 (sym y.1 ∙ q ∙ z.1))) (λ z. K.once i k y.0 z.0 (sym y.1 ∙ q ∙ z.1)) (at_q k l)) (at_q i h);
        only_held = λ _ q. absurd (busy (sym E.holds ∙ q));
      })

-- ---- the first of a queue waits no more
module _ (c : Setup) (s s' : State) (u g : ℕ) (L : LocksBut c s g) (E : Calls s s' u g) (first : waiter s g 0 ≡ u) where
  u_waits : Waits-at c s u g
  u_waits = rw first at ((L.groups g).queued 0 (omega (arith, E.long)))

  has_c : (v i a : ℕ) → i < depth s v → group_of c (request s v i) ≡ a → Has c s' v a
  has_c = all_have c s s' u E.tasks E.deep E.requested

  -- who stands behind the first is another, and a place further up
  behind : (i : ℕ) → suc i < len s g → waiter s g (suc i) ≢ u
  behind i h q = let z = (L.groups g).once 0 (suc i) (omega arith) h (first ∙ sym q) in omega arith

  shifted : (v i : ℕ) → v ≢ u → i < len s g → waiter s g i ≡ v → Stands-in s' g v
  shifted v zero d h q = absurd (d (sym q ∙ first))
  shifted v (suc i) d h q = (i, omega (arith, E.long), E.line i ∙ q)

  pub dequeues_locks : LocksBut c s' g
  dequeues_locks = edited c s s' u g E.tasks E.groups g g (λ a _ d. d) L
      (λ v d _ q. E.holds ∙ q)
      shifted
      (λ a i d. has_c u i a)
      (λ a d h q. absurd (d (sym q ∙ u_waits.1)))
      (record {
        opened = open_carry c s s' u E.deep E.requested (λ a _ _ _ q. all_hold c s s' g E.groups E.holds a ∙ q) (L.tasks u).opened;
        none = λ q. absurd (omega (arith, E.stood));
        inside = λ _. (L.tasks u).inside (λ e. omega (arith, u_waits.0));
        waits = λ q. absurd (omega (arith, E.stood));
      })
      (let K = L.groups g in record {
        held = λ q. rw E.holds (let k = K.held (λ z. q (E.holds ∙ z)) in has_c (holder s g) k.0 g k.1 k.2);
        queued = λ i h.
            let l : suc i < len s g = omega (arith, E.long) in
            let k = K.queued (suc i) l in rw (E.line i) (waits_still c s s' _ g (E.tasks _ (behind i l)) k.0 k.1);
        once = λ i k h l q. let z = K.once (suc i) (suc k) (omega (arith, E.long)) (omega (arith, E.long)) (sym (E.line i) ∙ q ∙ E.line k) in omega arith;
        only_held = λ d _. absurd (d refl);
      })

-- ---- the newest request is closed
module _ (c : Setup) (s s' : State) (t g h : ℕ) (L : LocksBut c s g) (E : Closes s s' t g h)
    (act : stand s t ≡ active) (g-is : group_of c (request s t (depth s' t)) ≡ g)
    (case : ((h ≡ t) × ((k : ℕ) × (k < depth s' t) × (group_of c (request s t k) ≡ g))) ⊎ ((h ≡ nobody) × ((k : ℕ) → k < depth s' t → group_of c (request s t k) ≢ g))) where
  was_held : holder s g ≡ t
  was_held = ap (holder s) (sym g-is) ∙ ((L.tasks t).opened.held (depth s' t) (omega (arith, E.deep))).1

  closer : OpenOk c s' t
  closer =
      let K = (L.tasks t).opened in
      let up : (i : ℕ) → i < depth s' t → i < depth s t = λ i l. omega (arith, E.deep) in
      record {
        few = omega (arith, E.deep, K.few);
        held = λ i l. let k = K.held i (up i l) in rw (E.old i l) (
          k.0,
          elim (ℕ_discrete (group_of c (request s t i)) g) [
            | yes e ↦ ⊎_elim (λ z. ap (holder s') e ∙ E.holds ∙ z.0) (λ z. absurd (z.1 i l e)) case
            | no d ↦ (E.groups _ d).holds ∙ k.1
          ],
        );
        once = λ i k l m q. K.once i k (up i l) (up k m) (sym (E.old i l) ∙ q ∙ E.old k m);
        longs_first = λ i k b l q. let m : k < depth s' t = omega arith in rw (E.old k m) (K.longs_first i k b (up i l) (rw (E.old i l) at q));
        one_group = λ i k l m q. rw (E.old i l, E.old k m) (K.one_group i k (up i l) (up k m) (rw (E.old i l, E.old k m) at q));
      }

  pub closes_locks : LocksBut c s' g
  closes_locks = edited c s s' t g E.tasks E.groups g g (λ a _ d. d) L
      (λ u d _ q. absurd (d (sym q ∙ was_held)))
      (λ u i d l q. (i, omega (arith, E.long), E.line i ∙ q))
      (λ a i d l q.
      let b : i ≢ depth s' t = λ z. d (sym q ∙ ap (λ (n : ℕ). group_of c (request s t n)) z ∙ g-is) in
      let m : i < depth s' t = omega (arith, E.deep) in
      (i, m, rw (E.old i m) q))
      (λ a d l q. absurd (omega arith))
      (record { opened = closer; none = λ q. absurd (omega (arith, E.stood)); inside = λ _. (L.tasks t).inside (λ e. omega arith); waits = λ q. absurd (omega (arith, E.stood)) })
      (let K = L.groups g in record {
        held = λ q. ⊎_elim
            (λ z. rw (E.holds, z.0) (z.1.0, z.1.1, rw (E.old z.1.0 z.1.1) z.1.2))
            (λ z. absurd (q (E.holds ∙ z.0))) case;
        queued = λ i l. let k = K.queued i (omega (arith, E.long)) in rw (E.line i) (waits_still c s s' _ g (E.tasks _ (λ z. omega (arith, k.0, ap (stand s) z))) k.0 k.1);
        once = λ i k l m q. K.once i k (omega (arith, E.long)) (omega (arith, E.long)) (sym (E.line i) ∙ q ∙ E.line k);
        only_held = λ d _. absurd (d refl);
      })

-- ---- a job comes or goes
module _ (c : Setup) (s s' : State) (t x : ℕ) (L : LocksBut c s x) (E : Stands s s' t) (was : stand s t ≤ active) (none : depth s t ≡ 0) (inside : stand s' t ≢ absent → t < c.tasks) where
  pub stands_locks : LocksBut c s' x
  stands_locks = record {
    tasks = at_one (TaskOk c s') t
        (record {
          opened = record {
            few = omega (arith, E.deep);
            held = λ i l. absurd (omega (arith, E.deep));
            once = λ i k l m q. absurd (omega (arith, E.deep));
            longs_first = λ i k b l q. absurd (omega (arith, E.deep));
            one_group = λ i k l m q. absurd (omega (arith, E.deep));
          };
          none = λ _. E.deep;
          inside = inside;
          waits = λ q. absurd (omega (arith, E.stood));
        })
        (λ u d. task_carry c s s' u (E.tasks u d) (λ a _ q. (E.groups a).holds ∙ q) (λ a i. stays_in c s s' a i u (E.groups a)) (L.tasks u));
    groups = λ a. group_carry c s s' x x a (E.groups a)
        (λ i _. at_one (λ u. i < depth s u → group_of c (request s u i) ≡ a → Has c s' u a) t (λ l q. absurd (omega arith)) (λ u d. has_still c s s' u i a (E.tasks u d)) (holder s a))
        (λ u l. waits_still c s s' u a (E.tasks u (λ z. omega (arith, ap (stand s) z))) l) (λ z. z) (L.groups a);
  }
