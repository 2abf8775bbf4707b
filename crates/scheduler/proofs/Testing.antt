-- The test `is_placed` and the statement `Placed` say the same. Assumes nothing.
use Prim.Native.Nat.{ℕ, ◌<◌, ◌≤◌}
use mathlib.Core.Path.{◌≡◌, refl, sym, ap, ◌∙◌}
use mathlib.Core.Bool.{true, ◌&&◌}
use mathlib.Core.Logic.{◌≢◌}
use native.Mathlib.Omega.{arith}
use native.Mathlib.Decide.{dec_lt}
use lib.Dec.{leb}
use lib.ListN.{get_or-eq_default}
use Rattle.search.specs.Below.{all_below}
use Rattle.search.proofs.Tests.{tests}
use Rattle.numbers.specs.Limits.{most_processors, most_tasks, nobody}
use Rattle.processors.specs.Words.{link, runs, link_of, run_of}
use Rattle.scheduler.specs.Placed.{Sized, Placed}
use Rattle.scheduler.specs.PlacedTest.{processor_holds, task_holds, is_placed}
use Rattle.processors.specs.declared.Jobs.{Jobs}
use Rattle.processors.specs.declared.Processors.{Processors}
use Rattle.scheduler.proofs.Finds.{link_here, link_nowhere, link_somewhere, run_here, run_somewhere}

module _ (p : Processors) (j : Jobs) where
  -- past the arrays there is neither link nor job
  past : Sized p → (k : ℕ) → most_processors ≤ k → (link p k ≡ nobody) × (runs p k ≡ nobody)
  past Z k h = (get_or-eq_default p.linked nobody {n = k} (omega (arith, Z.links)), get_or-eq_default p.running nobody {n = k} (omega (arith, Z.runnings)))

  -- the test by its parts, for the code above that makes it
  pub test_parts : is_placed p j
      ≡ (leb p.count most_processors && all_below most_processors (processor_holds p j) && all_below most_tasks (task_holds p j))
  unfolding is_placed
  test_parts = refl

  pub placed_of_test : Sized p → is_placed p j ≡ true → Placed p j
  unfolding is_placed
  placed_of_test Z e =
      let h = simp tests at e in
      let low : (k : ℕ) → link p k ≢ nobody → k < most_processors = λ k d. elim (dec_lt k most_processors) [ yes y ↦ y | no y ↦ absurd (d (past Z k (omega arith)).0) ] in
      let low_run : (k : ℕ) → runs p k ≢ nobody → k < most_processors = λ k d. elim (dec_lt k most_processors) [ yes y ↦ y | no y ↦ absurd (d (past Z k (omega arith)).1) ] in
      let hs = h.0.1 in
      let once : (k m : ℕ) → link p k ≢ nobody → link p k ≡ link p m → k ≡ m = λ k m d q. sym ((hs k (low k d)).0.0.0 d).0.1 ∙ ap (link_of p) q ∙ ((hs m (low m (λ z. d (q ∙ z)))).0.0.0 (λ z. d (q ∙ z))).0.1 in
      record {
        settled = record {
          sized = Z;
          fits = h.0.0;
          linked_runnable = λ k d. let q = ((hs k (low k d)).0.0.0 d).0.0 in record { task = q.0; mode = q.1 };
          linked_once = once;
          unlinked_idle = λ k q. elim (dec_lt k most_processors) [ yes y ↦ (hs k y).0.0.1 q | no y ↦ (past Z k (omega arith)).1 ];
          linked_busy = λ k d. ((hs k (low k d)).0.0.0 d).1;
          running_runnable = λ k d. let q = ((hs k (low_run k d)).0.1 d).0.0.0 in record { task = q.0; mode = q.1 };
          running_once = λ k m d q. sym ((hs k (low_run k d)).0.1 d).0.0.1 ∙ ap (run_of p) q ∙ ((hs m (low_run m (λ z. d (q ∙ z)))).0.1 (λ z. d (q ∙ z))).0.0.1;
          running_linked = λ k m d q.
              let at : link_of p (runs p k) ≡ k = ((hs k (low_run k d)).0.1 d).0.1 (link_somewhere p (runs p k) Z d m (sym q)) in
              let own : link p k ≡ runs p k = ap (link p) (sym at) ∙ link_here p (runs p k) (omega (arith, low_run k d)) in
              once k m (λ z. d (sym own ∙ z)) (own ∙ q);
          preemptable_linked = λ k d q. ((hs k (low_run k d)).0.1 d).1 q;
          nonpreemptable_runs = λ t l q. (run_of p t, run_here p t ((h.1 t l).1 q));
          beyond = λ k l. elim (dec_lt k most_processors) [ yes y ↦ (hs k y).1 l | no y ↦ past Z k (omega arith) ];
        };
        highest = λ k t l r n.
            let out : most_processors ≤ link_of p t = elim (dec_lt (link_of p t) most_processors) [ yes y ↦ absurd (n _ (link_here p t y)) | no y ↦ omega arith ] in
            (h.1 t r.task).0 (r.mode, out) k (omega (arith, h.0.0)) l;
      }

  pub test_of_placed : Placed p j → is_placed p j ≡ true
  unfolding is_placed
  test_of_placed P =
      let S = P.settled in
      let Z = S.sized in
      simp tests (
        (
          S.fits,
          λ k l. (
            (
              (
                (λ d.
                    let r = S.linked_runnable k d in
                    (((r.task, r.mode), S.linked_once _ k (λ z. d (sym (link_here p (link p k) (link_somewhere p (link p k) Z d k refl)) ∙ z)) (link_here p (link p k) (link_somewhere p (link p k) Z d k refl))), S.linked_busy k d)),
                S.unlinked_idle k,
              ),
              λ d.
                  let r = S.running_runnable k d in
                  let at = run_here p (runs p k) (run_somewhere p (runs p k) Z d k refl) in
                  ((((r.task, r.mode), S.running_once _ k (λ z. d (sym at ∙ z)) at), λ y. sym (S.running_linked k _ d (sym (link_here p (runs p k) y)))), S.preemptable_linked k d),
            ),
            S.beyond k,
          ),
        ),
        λ t l. (
          (λ x k _ b. P.highest k t b (record { task = l; mode = x.0 }) (link_nowhere p t Z (λ z. omega arith) x.1)),
          λ q. let x = S.nonpreemptable_runs t l q in run_somewhere p t Z (λ z. omega arith) x.0 x.1,
        ),
      )
