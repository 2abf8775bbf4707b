-- The single moves, over fixed jobs, and what each keeps. Assumes nothing.
use Prim.Native.Nat.{ℕ, ◌<◌, ◌≤◌}
use mathlib.Core.Path.{◌≡◌, refl, sym, ap, ◌∙◌}
use mathlib.Core.Logic.{◌≢◌, ◌⊎◌, inl, inr, ⊎_elim}
use native.Mathlib.Omega.{arith}
use native.Mathlib.Decide.{ℕ_discrete}
use lib.ListN.{length-set}
use lib.Seq.{get_or-set_same, get_or-set_other}
use Rattle.numbers.specs.Limits.{most_processors, nobody}
use Rattle.processors.specs.Modes.{preemptable, non_preemptable}
use Rattle.processors.specs.Words.{link, runs, mode_of, place_on, link_on}
use Rattle.scheduler.specs.Placed.{Runnable, Sized, Settled, Unlinked}
use Rattle.processors.specs.declared.Jobs.{Jobs}
use Rattle.processors.specs.declared.Processors.{Processors}

-- p' is p but at k, which is linked to a and runs v
pub record Put (p p' : Processors) (k a v : ℕ) : Type 0 where
  pub count : p'.count ≡ p.count
  pub sized : Sized p'
  pub view : (m : ℕ) → ((m ≡ k) × (link p' m ≡ a) × (runs p' m ≡ v)) ⊎ ((m ≢ k) × (link p' m ≡ link p m) × (runs p' m ≡ runs p m))

module _ (p : Processors) (k t : ℕ) (Z : Sized p) (l : k < most_processors) where
  pub put_place : Put p (place_on p k t) k t t
  put_place = record {
    count = refl;
    sized = record { links = simp length-set Z.links; runnings = simp length-set Z.runnings };
    view = λ m. elim (ℕ_discrete m k) [
      | yes e ↦ inl (e, rw e (get_or-set_same p.linked k t nobody (omega (arith, Z.links))), rw e (get_or-set_same p.running k t nobody (omega (arith, Z.runnings))))
      | no d ↦ inr (d, simp get_or-set_other, simp get_or-set_other)
    ];
  }

  pub put_link : Put p (link_on p k t) k t (runs p k)
  put_link = record {
    count = refl;
    sized = record { links = simp length-set Z.links; runnings = Z.runnings };
    view = λ m. elim (ℕ_discrete m k) [
      | yes e ↦ inl (e, rw e (get_or-set_same p.linked k t nobody (omega (arith, Z.links))), ap (runs p) e)
      | no d ↦ inr (d, simp get_or-set_other, refl)
    ];
  }

-- a change at k after a change at k is one change at k
pub put_again : (p p₁ p' : Processors) (k a v b w : ℕ) → Put p p₁ k a v → Put p p' k b w → Put p₁ p' k b w
put_again p p₁ p' k a v b w W₁ W = record {
  count = W.count ∙ sym W₁.count;
  sized = W.sized;
  view = λ m. ⊎_elim (λ x. inl x) (λ x. ⊎_elim (λ y. absurd (x.0 y.0)) (λ y. inr (x.0, x.1 ∙ sym y.1, x.2 ∙ sym y.2)) (W₁.view m)) (W.view m);
}

pub put_at : (p p' : Processors) (k a v : ℕ) → Put p p' k a v → (link p' k ≡ a) × (runs p' k ≡ v)
put_at p p' k a v W = ⊎_elim (λ x. (x.1, x.2)) (λ x. absurd (x.0 refl)) (W.view k)

module _ (p p' : Processors) (j : Jobs) (k : ℕ) (S : Settled p j) (l : k < p.count) where
  -- ---- k is emptied of a job that is linked and runs there, and need not run
  pub clear : Put p p' k nobody nobody → runs p k ≡ link p k → (mode_of j (runs p k) ≡ non_preemptable → ⊥) → Settled p' j
  clear W own soft = record {
    sized = W.sized;
    fits = omega (arith, W.count, S.fits);
    linked_runnable = λ m h. ⊎_elim (λ x. absurd (h x.1)) (λ x. rw x.1 (S.linked_runnable m (omega arith))) (W.view m);
    linked_once = λ a b h q. ⊎_elim (λ x. absurd (h x.1)) (λ x. ⊎_elim (λ y. absurd (omega arith)) (λ y. S.linked_once a b (omega arith) (omega arith)) (W.view b)) (W.view a);
    unlinked_idle = λ m h. ⊎_elim (λ x. x.2) (λ x. x.2 ∙ S.unlinked_idle m (omega arith)) (W.view m);
    linked_busy = λ m h z. ⊎_elim (λ x. h x.1) (λ x. S.linked_busy m (omega arith) (omega arith)) (W.view m);
    running_runnable = λ m h. ⊎_elim (λ x. absurd (h x.2)) (λ x. rw x.2 (S.running_runnable m (omega arith))) (W.view m);
    running_once = λ a b h q. ⊎_elim (λ x. absurd (h x.2)) (λ x. ⊎_elim (λ y. absurd (omega arith)) (λ y. S.running_once a b (omega arith) (omega arith)) (W.view b)) (W.view a);
    running_linked = λ a b h q. ⊎_elim (λ x. absurd (h x.2)) (λ x. ⊎_elim (λ y. absurd (omega arith)) (λ y. S.running_linked a b (omega arith) (omega arith)) (W.view b)) (W.view a);
    preemptable_linked = λ m h q. ⊎_elim (λ x. absurd (h x.2)) (λ x. x.1 ∙ S.preemptable_linked m (omega arith) (rw x.2 at q) ∙ sym x.2) (W.view m);
    nonpreemptable_runs = λ u h q.
        let was = S.nonpreemptable_runs u h q in
        ⊎_elim (λ x. absurd (soft (ap (mode_of j) (ap (runs p) (sym x.0) ∙ was.1) ∙ q))) (λ x. (was.0, x.2 ∙ was.1)) (W.view was.0);
    beyond = λ m h. ⊎_elim (λ x. (x.1, x.2)) (λ x. let b = S.beyond m (omega (arith, W.count)) in omega arith) (W.view m);
  }

  module _ (u : ℕ) (R : Runnable j u) (new : Unlinked p u) where
    -- what both moves below do to links
    new_runnable : (v : ℕ) → Put p p' k u v → (m : ℕ) → link p' m ≢ nobody → Runnable j (link p' m)
    new_runnable v W m h = ⊎_elim (λ x. rw x.1 R) (λ x. rw x.1 (S.linked_runnable m (omega arith))) (W.view m)

    new_once : (v : ℕ) → Put p p' k u v → (a b : ℕ) → link p' a ≢ nobody → link p' a ≡ link p' b → a ≡ b
    new_once v W a b h q =
        ⊎_elim (λ x. ⊎_elim (λ y. omega arith) (λ y. absurd (new b (omega arith))) (W.view b))
        (λ x. ⊎_elim (λ y. absurd (new a (omega arith))) (λ y. S.linked_once a b (omega arith) (omega arith)) (W.view b)) (W.view a)

    new_idle : (v : ℕ) → Put p p' k u v → (m : ℕ) → link p' m ≡ nobody → runs p' m ≡ nobody
    new_idle v W m h = ⊎_elim (λ x. absurd (omega (arith, R.task))) (λ x. x.2 ∙ S.unlinked_idle m (omega arith)) (W.view m)

    new_beyond : (v : ℕ) → Put p p' k u v → (m : ℕ) → p'.count ≤ m → (link p' m ≡ nobody) × (runs p' m ≡ nobody)
    new_beyond v W m h = ⊎_elim (λ x. absurd (omega (arith, W.count))) (λ x. let b = S.beyond m (omega (arith, W.count)) in omega arith) (W.view m)

    -- ---- a runnable job that is nowhere is linked to the free k and runs there
    pub start : Put p p' k u u → link p k ≡ nobody → ((m : ℕ) → runs p m ≢ u) → Settled p' j
    start W free fresh = record {
      sized = W.sized;
      fits = omega (arith, W.count, S.fits);
      linked_runnable = new_runnable u W;
      linked_once = new_once u W;
      unlinked_idle = new_idle u W;
      linked_busy = λ m h z. ⊎_elim (λ x. omega (arith, R.task)) (λ x. S.linked_busy m (omega arith) (omega arith)) (W.view m);
      running_runnable = λ m h. ⊎_elim (λ x. rw x.2 R) (λ x. rw x.2 (S.running_runnable m (omega arith))) (W.view m);
      running_once = λ a b h q.
          ⊎_elim (λ x. ⊎_elim (λ y. omega arith) (λ y. absurd (fresh b (omega arith))) (W.view b))
          (λ x. ⊎_elim (λ y. absurd (fresh a (omega arith))) (λ y. S.running_once a b (omega arith) (omega arith)) (W.view b)) (W.view a);
      running_linked = λ a b h q.
          ⊎_elim (λ x. ⊎_elim (λ y. omega arith) (λ y. absurd (new b (omega arith))) (W.view b))
          (λ x. ⊎_elim (λ y. absurd (fresh a (omega arith))) (λ y. S.running_linked a b (omega arith) (omega arith)) (W.view b)) (W.view a);
      preemptable_linked = λ m h q. ⊎_elim (λ x. omega arith) (λ x. x.1 ∙ S.preemptable_linked m (omega arith) (rw x.2 at q) ∙ sym x.2) (W.view m);
      nonpreemptable_runs = λ v h q.
          let was = S.nonpreemptable_runs v h q in
          ⊎_elim (λ x. absurd (omega (arith, S.unlinked_idle k free, ap (runs p) x.0))) (λ x. (was.0, x.2 ∙ was.1)) (W.view was.0);
      beyond = new_beyond u W;
    }

    -- ---- a runnable job that has no link, and runs on k if at all, takes k's link; what runs on k goes on
    pub relink : Put p p' k u (runs p k) → link p k ≢ nobody → ((m : ℕ) → runs p m ≡ u → m ≡ k) → (mode_of j (runs p k) ≡ preemptable → runs p k ≡ u) → Settled p' j
    relink W had here pre =
        let still : (m : ℕ) → runs p' m ≡ runs p m = λ m. ⊎_elim (λ x. x.2 ∙ ap (runs p) (sym x.0)) (λ x. x.2) (W.view m) in
        record {
          sized = W.sized;
          fits = omega (arith, W.count, S.fits);
          linked_runnable = new_runnable (runs p k) W;
          linked_once = new_once (runs p k) W;
          unlinked_idle = new_idle (runs p k) W;
          linked_busy = λ m h z. ⊎_elim (λ x. S.linked_busy k had (omega arith)) (λ x. S.linked_busy m (omega arith) (omega arith)) (W.view m);
          running_runnable = λ m h. rw (still m) (S.running_runnable m (omega (arith, still m)));
          running_once = λ a b h q. S.running_once a b (omega (arith, still a)) (omega (arith, still a, still b));
          running_linked = λ a b h q.
              let s = still a in
              ⊎_elim (λ y. here a (omega arith) ∙ sym y.0) (λ y. S.running_linked a b (omega arith) (omega arith)) (W.view b);
          preemptable_linked = λ m h q.
              let s = still m in
              ⊎_elim (λ x. x.1 ∙ sym (pre (ap (mode_of j) (sym x.2) ∙ q)) ∙ sym x.2)
              (λ x. x.1 ∙ S.preemptable_linked m (omega arith) (rw s at q) ∙ sym s) (W.view m);
          nonpreemptable_runs = λ v h q. let was = S.nonpreemptable_runs v h q in (was.0, still was.0 ∙ was.1);
          beyond = new_beyond (runs p k) W;
        }

-- ---- the same jobs run: who was runnable still is, and runs where it must
pub rejob : (p : Processors) (j j' : Jobs) → Settled p j
    → ((m : ℕ) → link p m ≢ nobody → Runnable j (link p m) → Runnable j' (link p m))
    → ((m : ℕ) → runs p m ≢ nobody → Runnable j (runs p m) → Runnable j' (runs p m))
    → ((m : ℕ) → runs p m ≢ nobody → mode_of j' (runs p m) ≡ preemptable → (mode_of j (runs p m) ≡ preemptable) ⊎ (link p m ≡ runs p m))
    → ((u : ℕ) → Runnable j' u → mode_of j' u ≡ non_preemptable → (mode_of j u ≡ non_preemptable) ⊎ (k : ℕ) × (runs p k ≡ u)) → Settled p j'
rejob p j j' S linked running soft hard = record {
  sized = S.sized;
  fits = S.fits;
  linked_runnable = λ m h. linked m h (S.linked_runnable m h);
  linked_once = S.linked_once;
  unlinked_idle = S.unlinked_idle;
  linked_busy = S.linked_busy;
  running_runnable = λ m h. running m h (S.running_runnable m h);
  running_once = S.running_once;
  running_linked = S.running_linked;
  preemptable_linked = λ m h q. ⊎_elim (λ e. S.preemptable_linked m h e) (λ e. e) (soft m h q);
  nonpreemptable_runs = λ u h q. ⊎_elim (λ e. S.nonpreemptable_runs u h e) (λ x. x) (hard u (record { task = h; mode = omega arith }) q);
  beyond = S.beyond;
}
