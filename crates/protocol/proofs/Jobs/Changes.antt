-- What each edit of the locks means for the scheduler: its jobs before and after. Assumes nothing.
use Prim.Native.Nat.{ℕ, ◌<◌, ◌≤◌}
use mathlib.Core.Path.{◌≡◌, refl, sym, ap, ◌∙◌}
use mathlib.Core.Logic.{◌≢◌, ◌⊎◌, inl, inr, ⊎_elim}
use native.Mathlib.Omega.{arith}
use native.Mathlib.Decide.{ℕ_discrete, dec_lt}
use Rattle.processors.specs.Words.{rank_of, mode_of}
use Rattle.scheduler.specs.Changes.{Alike, Joins, BecomesNonPreemptable, BecomesPreemptable, Inherits, Leaves, Restores}
use Rattle.numbers.specs.Limits.{most_tasks, nobody}
use Rattle.input.specs.Kinds.{short, long}
use Rattle.input.specs.Words.{kind}
use Rattle.setups.specs.Naming.{group_of}
use Rattle.input.specs.declared.Setup.{Setup}
use Rattle.protocol.specs.Words.{absent, active, spinning, suspended, stand, asked, depth, request, holder, len, waiter}
use Rattle.protocol.specs.Ranks.{own, effective, jobs}
use Rattle.protocol.specs.declared.State.{State}
use Rattle.protocol.proofs.Sound.Statements.{Grouped, Waits, LocksBut, SameTask, SameGroup, Opens, Queues, Calls, Closes, Stands}
use Rattle.protocol.proofs.Edits.Untouched.{at_one}
use Rattle.protocol.proofs.Edits.Locks.{pending_in}
use Rattle.protocol.proofs.Jobs.Ranks.{behind_still, behind_before, Behind, Effective, held_in, effective_law, sleeps, Keeps, rank_same}
use Rattle.protocol.proofs.Jobs.Modes.{short_true, short_none, short_same, rank_in_jobs, mode_soft, mode_hard, mode_active, mode_spin, mode_sleep, mode_absent, mode_same, mode_kept, rank_kept, jobs_apart}

-- ---- an edit of task t and of group g
module _ (c : Setup) (G : Grouped c) (s s' : State) (x y : ℕ) (L : LocksBut c s x) (L' : LocksBut c s' y) (same : (w : ℕ) → own s' w ≡ own s w) where
  -- u's rank turns on g alone, if g is long
  rank_edit : (g : ℕ) → ((a : ℕ) → a ≢ g → SameGroup s s' a) → (u : ℕ) → (u < most_tasks → kind c g ≡ long → Keeps s s' u g) → rank_of (jobs c s') u ≡ rank_of (jobs c s) u
  rank_edit g groups u keep = rank_kept c s s' u (λ l. rank_same c G s s' x y L L' u (omega arith) (same u) (λ w _. same w)
      (at_one (λ a. kind c a ≡ long → Keeps s s' u a) g (keep l) (λ a d _. inl (groups a d))))

-- the modes turn on t's standing, and on whether t has a short request open
mode_edit : (c : Setup) (s s' : State) (t : ℕ) → ((u : ℕ) → u ≢ t → SameTask s s' u) → stand s' t ≡ stand s t
    → ((i : ℕ) → i < depth s t → kind c (request s t i) ≡ short → (k : ℕ) × (k < depth s' t) × (kind c (request s' t k) ≡ short))
    → ((i : ℕ) → i < depth s' t → kind c (request s' t i) ≡ short → (k : ℕ) × (k < depth s t) × (kind c (request s t k) ≡ short))
    → (u : ℕ) → mode_of (jobs c s') u ≡ mode_of (jobs c s) u
mode_edit c s s' t tasks stood to from = at_one (λ u. mode_of (jobs c s') u ≡ mode_of (jobs c s) u) t
    (mode_same c s s' t stood (short_same c s s' t to from)) (λ u d. mode_kept c s s' u (tasks u d))

-- ---- t asks for r, of group g
module _ (c : Setup) (G : Grouped c) (s s' : State) (t r g x y : ℕ) (L : LocksBut c s x) (L' : LocksBut c s' y)
    (same : (w : ℕ) → own s' w ≡ own s w) (act : stand s t ≡ active) (r-in : r < c.resources) (g-is : group_of c r ≡ g) where
  t_in : t < most_tasks
  t_in = pending_in c G s x t L (λ e. omega arith)

  kind_g : kind c g ≡ kind c r
  kind_g = ap (kind c) (sym g-is) ∙ G.alike r r-in

  -- ---- the request is queued
  module _ (E : Queues c s s' t r g) where
    -- short: t spins
    pub enqueues_short : kind c r ≡ short → BecomesNonPreemptable (jobs c s) (jobs c s') t
    enqueues_short k = record {
      runnable = mode_active c s t t_in act;
      mode = mode_spin c s' t t_in (omega (arith, E.stood));
      others = λ u d. mode_kept c s s' u (E.tasks u d);
      ranks = λ u. rank_edit c G s s' x y L L' same g E.groups u (λ _ z. absurd (omega (arith, kind_g)));
    }

    -- long: the holder takes t's rank, and t sleeps
    module _ (is_long_lem : kind c r ≡ long) (busy : holder s g ≢ nobody) (none : depth s t ≡ 0) where
      h_in : holder s g < most_tasks
      h_in = omega (arith, G.few_tasks, (held_in c G s x L g busy).1)

      -- t holds nothing, so its rank is its own
      plain : effective c s t ≡ own s t
      plain = ⊎_elim (λ z. z) (λ z.
          let k = (L.groups z.1.group).held (λ e. omega (arith, z.1.held, t_in)) in
          absurd (omega (arith, k.1, ap (depth s) z.1.held))) (effective_law c G s x L t (omega (arith, t_in))).one

      to : (w : ℕ) → Behind c s (holder s g) w → Behind c s' (holder s g) w
      to w B = elim (ℕ_discrete B.group g) [
        | yes e ↦ record {
          group = g;
          place = B.place;
          is_long_lem = kind_g ∙ is_long_lem;
          held = E.holds;
          below = omega (arith, E.long, ap (len s) e, B.below);
          there = E.line B.place (omega (arith, ap (len s) e, B.below)) ∙ ap (λ (a : ℕ). waiter s a B.place) (sym e) ∙ B.there;
        }
        | no d ↦ behind_still c s s' (holder s g) w B (E.groups _ d)
      ]

      -- who waits behind the holder after is t, or waited before
      back : (w : ℕ) → Behind c s' (holder s g) w → (w ≡ t) ⊎ Behind c s (holder s g) w
      back w B = elim (ℕ_discrete B.group g) [
        | yes e ↦
            let q : waiter s' g B.place ≡ w = ap (λ (a : ℕ). waiter s' a B.place) (sym e) ∙ B.there in
            elim (ℕ_discrete B.place (len s g)) [
              | yes y ↦ inl (sym q ∙ ap (waiter s' g) y ∙ E.last)
              | no y ↦ inr (record {
                group = g;
                place = B.place;
                is_long_lem = kind_g ∙ is_long_lem;
                held = refl;
                below = omega (arith, E.long, ap (len s') e, B.below);
                there = sym (E.line B.place y) ∙ q;
              })
            ]
        | no d ↦ inr (behind_before c s s' (holder s g) w B (E.groups _ d))
      ]

      before : Effective c s (holder s g) (effective c s (holder s g))
      before = effective_law c G s x L (holder s g) busy

      after : Effective c s' (holder s g) (effective c s' (holder s g))
      after = effective_law c G s' y L' (holder s g) busy

      raised : effective c s' (holder s g) ≤ effective c s (holder s g)
      raised = ⊎_elim (λ z. omega (arith, after.low, same (holder s g))) (λ z. omega (arith, after.all z.0 (to z.0 z.1), same z.0, z.2)) before.one

      raised_by : (effective c s' (holder s g) ≡ effective c s (holder s g)) ⊎ (effective c s' (holder s g) ≡ effective c s t)
      raised_by = ⊎_elim
          (λ z. inl (omega (arith, raised, before.low, same (holder s g))))
          (λ z. ⊎_elim
          (λ e. inr (z.2 ∙ ap (own s') e ∙ same t ∙ sym plain))
          (λ B. inl (omega (arith, raised, before.all z.0 B, same z.0, z.2))) (back z.0 z.1))
          after.one

      pub enqueues_long : Inherits (jobs c s) (jobs c s') t (holder s g)
      enqueues_long =
          let rh = rank_in_jobs c s (holder s g) h_in in
          let rh' = rank_in_jobs c s' (holder s g) h_in in
          let rt = rank_in_jobs c s t t_in in
          record {
            gone = λ R. omega (arith, R.mode, mode_sleep c s' t t_in (omega (arith, E.stood)));
            rank_falls = omega (arith, raised);
            by = ⊎_elim (λ z. inl (omega arith)) (λ z. inr (omega arith)) raised_by;
            others = λ u d b. rank_edit c G s s' x y L L' same g E.groups u (λ l _. inr (inl ((λ z. b (sym z)), λ z. b (sym z ∙ E.holds))));
            modes = λ u d. mode_kept c s s' u (E.tasks u d);
            apart = jobs_apart c G s' y L';
          }

  -- ---- the request is opened
  module _ (E : Opens s s' t r g) where
    pub opens_short : kind c r ≡ short → BecomesNonPreemptable (jobs c s) (jobs c s') t
    opens_short k = record {
      runnable = mode_active c s t t_in act;
      mode = mode_hard c s' t t_in (E.stood ∙ act) (short_true c s' t (depth s t) (omega (arith, E.deep)) (rw E.new k));
      others = λ u d. mode_kept c s s' u (E.tasks u d);
      ranks = λ u. rank_edit c G s s' x y L L' same g E.groups u (λ _ z. absurd (omega (arith, kind_g)));
    }

    -- a long request changes nothing of whether a short one is open
    opens_modes : kind c r ≡ long → (u : ℕ) → mode_of (jobs c s') u ≡ mode_of (jobs c s) u
    opens_modes k = mode_edit c s s' t E.tasks E.stood
        (λ i l q. (i, omega (arith, E.deep), rw (E.old i (omega arith)) q))
        (λ i l q. elim (ℕ_discrete i (depth s t)) [
          | yes e ↦ absurd (omega (arith, ap (kind c) E.new, ap (λ (n : ℕ). kind c (request s' t n)) e))
          | no d ↦ (i, omega (arith, E.deep), rw (E.old i d) at q)
        ])

    pub opens_long : kind c r ≡ long → (holder s g ≡ t) ⊎ (len s g ≡ 0) → Alike (jobs c s) (jobs c s')
    opens_long k free = record {
      modes = opens_modes k;
      ranks = λ u. rank_edit c G s s' x y L L' same g E.groups u (λ _ _. ⊎_elim (λ z. inl (record { holds = E.holds ∙ sym z; long = E.long; line = E.line })) (λ z. inr (inr (z, E.long ∙ z))) free);
    }

-- ---- a request is closed
module _ (c : Setup) (G : Grouped c) (s s' : State) (t g h x y : ℕ) (L : LocksBut c s x) (E : Closes s s' t g h) (L' : LocksBut c s' y)
    (same : (w : ℕ) → own s' w ≡ own s w) (act : stand s t ≡ active) (g-is : group_of c (request s t (depth s' t)) ≡ g) where
  c_in : t < most_tasks
  c_in = pending_in c G s x t L (λ e. omega arith)

  c_held : (request s t (depth s' t) < c.resources) × (holder s g ≡ t)
  c_held = let k = (L.tasks t).opened.held (depth s' t) (omega (arith, E.deep)) in (k.0, ap (holder s) (sym g-is) ∙ k.1)

  c_kind : kind c g ≡ kind c (request s t (depth s' t))
  c_kind = ap (kind c) (sym g-is) ∙ G.alike _ c_held.0

  -- inner: nothing changes
  pub closes_inner : h ≡ t → (k : ℕ) → k < depth s' t → group_of c (request s t k) ≡ g → Alike (jobs c s) (jobs c s')
  closes_inner e k b q = record {
    modes = mode_edit c s s' t E.tasks E.stood
        (λ i l z. elim (dec_lt i (depth s' t)) [
          | yes m ↦ (i, m, rw (E.old i m) z)
          | no m ↦
              let i-is : i ≡ depth s' t = omega (arith, E.deep) in
              let kk : kind c (request s t k) ≡ kind c g = sym (G.alike _ ((L.tasks t).opened.held k (omega (arith, E.deep))).0) ∙ ap (kind c) q in
              (k, b, rw (E.old k b) (omega (arith, kk, c_kind, ap (λ (n : ℕ). kind c (request s t n)) i-is)))
        ])
        (λ i l z. (i, omega (arith, E.deep), rw (E.old i l) at z));
    ranks = λ u. rank_edit c G s s' x y L L' same g E.groups u (λ _ _. inl (record { holds = E.holds ∙ e ∙ sym c_held.1; long = E.long; line = E.line }));
  }

  -- outermost, long: t's rank is restored
  pub closes_long : h ≡ nobody → kind c g ≡ long → Restores (jobs c s) (jobs c s') t
  closes_long e k =
      let E₀ = effective_law c G s x L t (omega (arith, c_in)) in
      let E₁ = effective_law c G s' y L' t (omega (arith, c_in)) in
      let fell : effective c s t ≤ effective c s' t = ⊎_elim (λ z. omega (arith, E₀.low, same t)) (λ z.
      let B = z.1 in
      let d : B.group ≢ g = λ q. omega (arith, c_in, B.held, ap (holder s') q, E.holds) in
      omega (arith, same z.0, z.2, E₀.all z.0 (behind_before c s s' t z.0 B (E.groups _ d)))) E₁.one in
      record {
        rank_rises = omega (arith, rank_in_jobs c s t c_in, rank_in_jobs c s' t c_in);
        others = λ u d. rank_edit c G s s' x y L L' same g E.groups u (λ l _. inr (inl ((λ z. d (sym z ∙ c_held.1)), λ z. omega (arith, E.holds))));
        modes = mode_edit c s s' t E.tasks E.stood
            (λ i l z. elim (dec_lt i (depth s' t)) [
              | yes m ↦ (i, m, rw (E.old i m) z)
              | no m ↦ absurd (let i-is : i ≡ depth s' t = omega (arith, E.deep) in omega (arith, c_kind, ap (λ (n : ℕ). kind c (request s t n)) i-is))
            ])
            (λ i l z. (i, omega (arith, E.deep), rw (E.old i l) at z));
        apart = jobs_apart c G s' y L';
      }

  -- outermost, short: t is preemptable
  pub closes_short : h ≡ nobody → kind c g ≡ short → ((k : ℕ) → k < depth s' t → group_of c (request s t k) ≢ g) → BecomesPreemptable (jobs c s) (jobs c s') t
  closes_short e k none = record {
    runnable = mode_active c s t c_in act;
    mode = mode_soft c s' t c_in (E.stood ∙ act) (short_none c s' t (λ i l q.
        none i l ((L.tasks t).opened.one_group i (depth s' t) (omega (arith, E.deep)) (omega (arith, E.deep)) (ap (kind c) (sym (E.old i l)) ∙ q ∙ sym k ∙ c_kind) ∙ g-is)));
    others = λ u d. mode_kept c s s' u (E.tasks u d);
    ranks = λ u. rank_edit c G s s' x y L L' same g E.groups u (λ _ z. absurd (omega arith));
  }

pub soften_alike : (c : Setup) (s s₁ s₂ : State) (t : ℕ) → BecomesPreemptable (jobs c s) (jobs c s₁) t → Alike (jobs c s₁) (jobs c s₂) → BecomesPreemptable (jobs c s) (jobs c s₂) t
soften_alike c s s₁ s₂ t A B = record {
  runnable = A.runnable;
  mode = B.modes t ∙ A.mode;
  others = λ u d. B.modes u ∙ A.others u d;
  ranks = λ u. B.ranks u ∙ A.ranks u;
}

-- ---- a job comes, and goes
module _ (c : Setup) (G : Grouped c) (s s' : State) (t x : ℕ) (L : LocksBut c s x) (E : Stands s s' t) (L' : LocksBut c s' x)
    (same : (w : ℕ) → w ≢ t → own s' w ≡ own s w) (t-small : t < most_tasks) (was : stand s t ≤ active) where
  st_others : (u : ℕ) → u ≢ t → (rank_of (jobs c s') u ≡ rank_of (jobs c s) u) × (mode_of (jobs c s') u ≡ mode_of (jobs c s) u)
  st_others u d = (
    rank_kept c s s' u (λ l. rank_same c G s s' x x L L' u (omega arith) (same u d)
        (λ w B. same w (λ e. omega (arith, (sleeps c G s x L u w B).0, ap (stand s) e))) (λ a _. inl (E.groups a))),
    mode_kept c s s' u (E.tasks u d),
  )

  pub comes_jobs : stand s t ≡ absent → stand s' t ≡ active → Joins (jobs c s) (jobs c s') t
  comes_jobs e e' = record {
    task = t-small;
    gone = λ R. omega (arith, R.mode, mode_absent c s t t-small e);
    mode = mode_soft c s' t t-small e' (short_none c s' t (λ i l. absurd (omega (arith, E.deep))));
    others = st_others;
    apart = jobs_apart c G s' x L';
  }

  pub goes_jobs : stand s' t ≡ absent → Leaves (jobs c s) (jobs c s') t
  goes_jobs e' = record {
    gone = λ R. omega (arith, R.mode, mode_absent c s' t t-small e');
    others = st_others;
    apart = jobs_apart c G s' x L';
  }

-- ---- a long group is handed over: u, the first at g, is called, and what it asked for is opened
module _ (c : Setup) (G : Grouped c) (s₁ s₂ s₃ : State) (u r g x y z : ℕ) (L₁ : LocksBut c s₁ x) (L₂ : LocksBut c s₂ y) (L₃ : LocksBut c s₃ z)
    (C : Calls s₁ s₂ u g) (O : Opens s₂ s₃ u r g) (same₂ : (w : ℕ) → own s₂ w ≡ own s₁ w) (same₃ : (w : ℕ) → own s₃ w ≡ own s₂ w)
    (first : waiter s₁ g 0 ≡ u) (r-is : asked s₁ u ≡ r) (free : holder s₁ g ≡ nobody) where
  p_waits : (spinning ≤ stand s₁ u) × (group_of c (asked s₁ u) ≡ g)
  p_waits = rw first at ((L₁.groups g).queued 0 (omega (arith, C.long)))

  W : Waits c s₁ u
  W = (L₁.tasks u).waits p_waits.0

  p_kind : kind c g ≡ kind c r
  p_kind = ap (kind c) (sym p_waits.1) ∙ G.alike _ W.inside ∙ ap (kind c) r-is

  u_in : u < most_tasks
  u_in = pending_in c G s₁ x u L₁ (λ e. omega (arith, p_waits.0))

  pub passes_long : kind c g ≡ long → Joins (jobs c s₁) (jobs c s₃) u
  passes_long k =
      let asleep : stand s₁ u ≡ suspended = omega (arith, W.kinds, p_kind, ap (kind c) r-is) in
      record {
        task = u_in;
        gone = λ R. omega (arith, R.mode, mode_sleep c s₁ u u_in asleep);
        mode = mode_soft c s₃ u u_in (O.stood ∙ C.stood) (short_none c s₃ u (λ i l q.
            let i-is : i ≡ depth s₂ u = omega (arith, O.deep, C.deep, W.asleep asleep) in
            omega (arith, p_kind, ap (kind c) O.new, ap (λ (n : ℕ). kind c (request s₃ u n)) i-is)));
        others = λ v d. (
          rank_edit c G s₂ s₃ y z L₂ L₃ same₃ g O.groups v (λ l _. inr (inl ((λ q. omega (arith, C.holds)), λ q. d (sym q ∙ O.holds))))
              ∙ rank_edit c G s₁ s₂ x y L₁ L₂ same₂ g C.groups v (λ l _. inr (inl ((λ q. omega arith), λ q. omega (arith, C.holds)))),
          mode_kept c s₂ s₃ v (O.tasks v d) ∙ mode_kept c s₁ s₂ v (C.tasks v d),
        );
        apart = jobs_apart c G s₃ z L₃;
      }

  -- short: u spun and holds now; nothing changes
  pub passes_short : kind c g ≡ short → Alike (jobs c s₁) (jobs c s₃)
  passes_short k = record {
    modes = at_one (λ v. mode_of (jobs c s₃) v ≡ mode_of (jobs c s₁) v) u
        (mode_hard c s₃ u u_in (O.stood ∙ C.stood) (short_true c s₃ u (depth s₂ u) (omega (arith, O.deep)) (rw O.new (omega (arith, p_kind))))
        ∙ sym (mode_spin c s₁ u u_in (omega (arith, W.kinds, p_kind, ap (kind c) r-is))))
        (λ v d. mode_kept c s₂ s₃ v (O.tasks v d) ∙ mode_kept c s₁ s₂ v (C.tasks v d));
    ranks = λ v.
        rank_edit c G s₂ s₃ y z L₂ L₃ same₃ g O.groups v (λ _ q. absurd (omega arith))
        ∙ rank_edit c G s₁ s₂ x y L₁ L₂ same₂ g C.groups v (λ _ q. absurd (omega arith));
  }
