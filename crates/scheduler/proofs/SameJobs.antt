-- The next job is told by what it is; so jobs with the same modes, and the same ranks of runnable jobs, give way alike. Assumes nothing.
use Prim.Native.Nat.{ℕ, ◌<◌, ◌≤◌}
use mathlib.Core.Path.{◌≡◌, sym, ◌∙◌}
use mathlib.Core.Logic.{◌⊎◌, inl, inr, ⊎_elim}
use native.Mathlib.Omega.{arith}
use native.Mathlib.Nat.{le_refl, le_trans, le_of_lt}
use lib.ListN.{length-set}
use borrow.Author.Tests.{ltb-true, ltb-false}
use Rattle.search.proofs.Bests.{best_law}
use Rattle.numbers.specs.Limits.{most_tasks, nobody}
use Rattle.processors.specs.Words.{rank_of, mode_of, run_of, is_higher, is_unlinked, place_on}
use Rattle.processors.specs.declared.Jobs.{Jobs}
use Rattle.processors.specs.declared.Processors.{Processors}
use Rattle.scheduler.specs.Leaving.{next_task, refilling, leaving_from, leaving, giving_way}
use Rattle.scheduler.specs.Placed.{Runnable, Sized}
use Rattle.scheduler.specs.Changes.{Apart}
use Rattle.scheduler.proofs.Finds.{Next, next_is}

pub sized_on : (p : Processors) (k t : ℕ) → Sized p → Sized (place_on p k t)
sized_on p k t Z = record { links = simp length-set Z.links; runnings = simp length-set Z.runnings }

-- ---- the next job, by what it is
next_some : (p : Processors) (j : Jobs) → (next_task p j ≡ most_tasks) ⊎ (next_task p j < most_tasks)
unfolding next_task
next_some p j =
    ⊎_elim (λ z. inl z) (λ z. inr z.0)
    (best_law (is_unlinked p j) (is_higher j) (λ a b. rank_of j b ≤ rank_of j a) most_tasks
    (λ a. le_refl _) (λ a b c x y. le_trans y x) (λ a b e. ltb-false _ _ e) (λ a b e. le_of_lt (ltb-true _ _ e)) most_tasks (le_refl most_tasks)).one

-- where two numbers are each the next job, the second is a task if the first is, and not of a higher rank
next_both : (p : Processors) (j : Jobs) (m n : ℕ) → Next p j m → Next p j n → m < most_tasks → (n < most_tasks) × (rank_of j n ≤ rank_of j m)
next_both p j m n M N h = let x = M.one h in N.top m x.0 x.1

-- the highest-priority unlinked runnable job is told by what it is
pub next_unique : (p : Processors) (j : Jobs) → Sized p → Apart j → (n : ℕ) → (n ≡ most_tasks) ⊎ (n < most_tasks) → Next p j n → next_task p j ≡ n
next_unique p j Z A n some N =
    let T = next_is p j Z in
    let there = next_both p j (next_task p j) n T N in
    let back = next_both p j n (next_task p j) N T in
    ⊎_elim
    (λ (a : next_task p j ≡ most_tasks). ⊎_elim (λ b. a ∙ sym b) (λ b. absurd (omega (arith, (back b).0))) some)
    (λ (a : next_task p j < most_tasks).
    let b = (there a).0 in
    A _ _ (T.one a).0 (N.one b).0 (omega (arith, (there a).1, (back b).1)))
    (next_some p j)

-- ---- the same modes, and the same ranks of runnable jobs
module _ (j j' : Jobs) (A : Apart j) (modes : (v : ℕ) → mode_of j' v ≡ mode_of j v) (ranks : (v : ℕ) → Runnable j v → rank_of j' v ≡ rank_of j v) where
  same_next : (p : Processors) → Sized p → next_task p j ≡ next_task p j'
  same_next p Z =
      let T = next_is p j' Z in
      next_unique p j Z A (next_task p j') (next_some p j') (record {
        one = λ h. let x = T.one h in (record { task = h; mode = rw (modes _) at x.0.mode }, x.1);
        top = λ v r u.
            let x = T.top v (record { task = r.task; mode = rw (modes v) r.mode }) u in
            let R : Runnable j (next_task p j') = record { task = x.0; mode = rw (modes _) at (T.one x.0).0.mode } in
            (x.0, omega (arith, x.1, ranks v r, ranks _ R));
      })

  same_leaving : (p : Processors) (t : ℕ) → Sized p → leaving p j' t ≡ leaving p j t
  unfolding leaving leaving_from refilling
  same_leaving p t Z = rw (same_next (place_on p (run_of p t) nobody) (sized_on p (run_of p t) nobody Z))

-- where two tables of jobs have the same modes, and the same ranks of runnable jobs, a job gives way alike
pub gives_way_alike : (p : Processors) (j j' : Jobs) (t : ℕ) → Sized p → Apart j → ((v : ℕ) → mode_of j' v ≡ mode_of j v)
    → ((v : ℕ) → Runnable j v → rank_of j' v ≡ rank_of j v) → Runnable j t → giving_way p j' t ≡ giving_way p j t
unfolding giving_way
gives_way_alike p j j' t Z A modes ranks R =
    rw (← same_next j j' A modes ranks p Z, same_leaving j j' A modes ranks p t Z, ranks t R)
    (⊎_elim
    (λ e. rw e)
    (λ h. rw (ranks _ ((next_is p j Z).one h).0))
    (next_some p j))
