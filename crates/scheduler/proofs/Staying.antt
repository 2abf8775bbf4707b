-- Links as they are: jobs that stay as they are, a running job that becomes non-preemptable, and one that becomes preemptable. Assumes nothing.
use Prim.Native.Nat.{ℕ, ◌<◌, ◌≤◌}
use mathlib.Core.Path.{◌≡◌, refl, sym, ap, ◌∙◌}
use mathlib.Core.Logic.{◌≢◌, ◌⊎◌, inl, inr, ⊎_elim}
use native.Mathlib.Omega.{arith}
use native.Mathlib.Decide.{ℕ_discrete}
use borrow.Author.Tests.{lt-ltb, eq-eqb, ne_eqb}
use Rattle.numbers.specs.Limits.{most_processors, most_tasks, nobody}
use Rattle.processors.specs.Modes.{preemptable, non_preemptable}
use Rattle.processors.specs.Words.{link, runs, rank_of, mode_of, run_of, place_on}
use Rattle.scheduler.specs.Leaving.{becoming_preemptable}
use Rattle.scheduler.specs.Placed.{Runnable, Settled, Placed, Unlinked}
use Rattle.scheduler.specs.Changes.{Alike, BecomesNonPreemptable, BecomesPreemptable}
use Rattle.processors.specs.declared.Jobs.{Jobs}
use Rattle.processors.specs.declared.Processors.{Processors}
use Rattle.scheduler.proofs.Finds.{run_here}
use Rattle.scheduler.proofs.Moves.{Put, put_place, rejob}

-- ---- the same jobs are runnable, at the same ranks
record Even (j j' : Jobs) : Type 0 where
  keep : (u : ℕ) → Runnable j u → Runnable j' u
  back : (u : ℕ) → Runnable j' u → Runnable j u
  ranks : (u : ℕ) → rank_of j' u ≡ rank_of j u

-- who is unlinked is still below every link
still_highest : (p p' : Processors) (j j' : Jobs) → Placed p j → Even j j' → p'.count ≡ p.count → ((k : ℕ) → link p' k ≡ link p k)
    → (k t : ℕ) → k < p'.count → Runnable j' t → Unlinked p' t → (link p' k ≢ nobody) × (rank_of j' (link p' k) < rank_of j' t)
still_highest p p' j j' P E count same k t g r n =
    let o = P.highest k t (omega arith) (E.back t r) (λ i e. n i (same i ∙ e)) in
    ((λ z. o.0 (sym (same k) ∙ z)), rw (same k) (omega (arith, o.1, E.ranks t, E.ranks (link p k))))

-- nothing moves
stays : (p : Processors) (j j' : Jobs) → Placed p j → Even j j'
    → ((m : ℕ) → runs p m ≢ nobody → mode_of j' (runs p m) ≡ preemptable → (mode_of j (runs p m) ≡ preemptable) ⊎ (link p m ≡ runs p m))
    → ((u : ℕ) → Runnable j' u → mode_of j' u ≡ non_preemptable → (mode_of j u ≡ non_preemptable) ⊎ (k : ℕ) × (runs p k ≡ u)) → Placed p j'
stays p j j' P E soft hard = record {
  settled = rejob p j j' P.settled (λ m _. E.keep _) (λ m _. E.keep _) soft hard;
  highest = still_highest p p j j' P E refl (λ k. refl);
}

pub alike_placed : (p : Processors) (j j' : Jobs) → Placed p j → Alike j j' → Placed p j'
alike_placed p j j' P A =
    stays p j j' P
    (record {
      keep = λ u r. record { task = r.task; mode = omega (arith, r.mode, A.modes u) };
      back = λ u r. record { task = r.task; mode = omega (arith, r.mode, A.modes u) };
      ranks = A.ranks;
    }) (λ m _ q. inl (sym (A.modes _) ∙ q)) (λ u _ q. inl (sym (A.modes u) ∙ q))

-- t alone has another mode, and is runnable in both
even_but : (j j' : Jobs) (t : ℕ) → preemptable ≤ mode_of j t → preemptable ≤ mode_of j' t → ((u : ℕ) → u ≢ t → mode_of j' u ≡ mode_of j u) → ((u : ℕ) → rank_of j' u ≡ rank_of j u) → Even j j'
even_but j j' t a b others ranks = record {
  keep = λ u r. record { task = r.task; mode = elim (ℕ_discrete u t) [ yes e ↦ omega (arith, ap (mode_of j') e) | no d ↦ omega (arith, r.mode, others u d) ] };
  back = λ u r. record { task = r.task; mode = elim (ℕ_discrete u t) [ yes e ↦ omega (arith, ap (mode_of j) e) | no d ↦ omega (arith, r.mode, others u d) ] };
  ranks = ranks;
}

-- ---- t runs
module _ (p : Processors) (j j' : Jobs) (t : ℕ) (P : Placed p j) (t_in : t < most_tasks) (on : run_of p t < most_processors) where
  abbrev k : ℕ
  k = run_of p t

  here : runs p k ≡ t
  here = run_here p t on

  pub harden_placed : BecomesNonPreemptable j j' t → Placed p j'
  harden_placed H =
      stays p j j' P (even_but j j' t H.runnable (omega (arith, H.mode)) H.others H.ranks)
      (λ m _ q. elim (ℕ_discrete (runs p m) t) [ yes e ↦ absurd (omega (arith, ap (mode_of j') e, H.mode)) | no d ↦ inl (sym (H.others _ d) ∙ q) ])
      (λ u _ q. elim (ℕ_discrete u t) [ yes e ↦ inr (k, here ∙ sym e) | no d ↦ inl (sym (H.others u d) ∙ q) ])

  -- ---- t becomes preemptable
  module _ (B : BecomesPreemptable j j' t) where
    even : Even j j'
    even = even_but j j' t B.runnable (omega (arith, B.mode)) B.others B.ranks

    -- who is non-preemptable after is not t
    hard : (u : ℕ) → mode_of j' u ≡ non_preemptable → (u ≢ t) × (mode_of j u ≡ non_preemptable)
    hard u q = let d : u ≢ t = λ e. omega (arith, ap (mode_of j') e, B.mode) in (d, sym (B.others u d) ∙ q)

    -- k is linked to t: nothing moves
    kept : link p k ≡ t → Placed p j'
    kept own =
        stays p j j' P even
        (λ m h q. elim (ℕ_discrete (runs p m) t) [
          | yes e ↦ inr (ap (link p) (P.settled.running_once m k h (e ∙ sym here)) ∙ own ∙ sym e)
          | no d ↦ inl (sym (B.others _ d) ∙ q)
        ]) (λ u _ q. inl (hard u q).1)

    -- k is linked to another, which runs instead
    module _ (had : link p k ≢ nobody) (other : link p k ≢ t) (p' : Processors) (W : Put p p' k (link p k) (link p k)) where
      S : Settled p j
      S = P.settled

      same : (m : ℕ) → link p' m ≡ link p m
      same m = ⊎_elim (λ x. x.1 ∙ ap (link p) (sym x.0)) (λ x. x.1) (W.view m)

      -- k's link ran nowhere
      fresh : (m : ℕ) → runs p m ≢ link p k
      fresh m e = other (sym e ∙ ap (runs p) (S.running_linked m k (omega (arith, had)) e) ∙ here)

      swapped : Placed p' j'
      swapped = record {
        settled = record {
          sized = W.sized;
          fits = omega (arith, W.count, S.fits);
          linked_runnable = λ m h. rw (same m) (even.keep _ (S.linked_runnable m (omega (arith, same m))));
          linked_once = λ a b h q. S.linked_once a b (omega (arith, same a)) (omega (arith, same a, same b));
          unlinked_idle = λ m h. ⊎_elim (λ x. absurd (had (sym x.1 ∙ h))) (λ x. x.2 ∙ S.unlinked_idle m (omega arith)) (W.view m);
          linked_busy = λ m h z. ⊎_elim (λ x. had (sym x.2 ∙ z)) (λ x. S.linked_busy m (omega arith) (omega arith)) (W.view m);
          running_runnable = λ m h.
              ⊎_elim (λ x. rw x.2 (even.keep _ (S.linked_runnable k had))) (λ x. rw x.2 (even.keep _ (S.running_runnable m (omega arith)))) (W.view m);
          running_once = λ a b h q.
              ⊎_elim (λ x. ⊎_elim (λ y. omega arith) (λ y. absurd (fresh b (omega arith))) (W.view b))
              (λ x. ⊎_elim (λ y. absurd (fresh a (omega arith))) (λ y. S.running_once a b (omega arith) (omega arith)) (W.view b)) (W.view a);
          running_linked = λ a b h q.
              let s = same b in
              ⊎_elim (λ x. x.0 ∙ S.linked_once k b had (omega arith)) (λ x. S.running_linked a b (omega arith) (omega arith)) (W.view a);
          preemptable_linked = λ m h q.
              ⊎_elim (λ x. omega arith)
              (λ x.
              let d : runs p m ≢ t = λ e. x.0 (S.running_once m k (omega arith) (e ∙ sym here)) in
              x.1 ∙ S.preemptable_linked m (omega arith) (sym (B.others _ d) ∙ rw x.2 at q) ∙ sym x.2) (W.view m);
          nonpreemptable_runs = λ u h q.
              let d = hard u q in
              let was = S.nonpreemptable_runs u h d.1 in
              ⊎_elim (λ x. absurd (d.0 (sym was.1 ∙ ap (runs p) x.0 ∙ here))) (λ x. (was.0, x.2 ∙ was.1)) (W.view was.0);
          beyond = λ m h. ⊎_elim (λ x. absurd (had (S.beyond k (omega (arith, W.count))).0)) (λ x. let b = S.beyond m (omega (arith, W.count)) in omega arith) (W.view m);
        };
        highest = still_highest p p' j j' P even W.count same;
      }

    pub soften_placed : Placed (becoming_preemptable p t) j'
    unfolding becoming_preemptable
    soften_placed =
        let had : link p k ≢ nobody = λ e. omega (arith, here, P.settled.unlinked_idle k e) in
        elim (ℕ_discrete (link p k) t) [
          | yes own ↦ rw (lt-ltb _ _ on, eq-eqb _ _ (own ∙ sym here), ne_eqb _ _ had) (kept own)
          | no d ↦ rw (lt-ltb _ _ on, ne_eqb _ _ (let e : link p k ≢ runs p k = λ e. d (e ∙ here) in e), ne_eqb _ _ had)
              (swapped had d (place_on p k (link p k)) (put_place p k (link p k) P.settled.sized on))
        ]
