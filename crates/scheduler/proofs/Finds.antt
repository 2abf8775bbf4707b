-- What the searches of the rules find. Assumes nothing.
use Prim.Native.Nat.{ℕ, ◌<◌, ◌≤◌}
use mathlib.Core.Path.{◌≡◌, refl, sym, ◌∙◌}
use mathlib.Core.Bool.{Bool, true, false, ◌&&◌}
use mathlib.Core.List.{List}
use mathlib.Core.Logic.{◌≢◌, ⊎_elim}
use native.Mathlib.Omega.{arith}
use native.Mathlib.Nat.{le_refl, le_trans, le_of_lt}
use native.Mathlib.Decide.{dec_lt}
use lib.Dec.{ltb}
use lib.ListN.{length, get_or, get_or-eq_default}
use borrow.Author.Tests.{lt-ltb, le-ltb, le-leb, ltb-true, ltb-false, leb-true, eq-eqb, eqb-true, eqb-false}
use Rattle.std.specs.Prelude.{if◌then◌else◌}
use Rattle.search.specs.Words.{◌is◌}
use Rattle.search.proofs.Tests.{and_left, and_right}
use Rattle.search.proofs.Firsts.{first_law}
use Rattle.search.proofs.Bests.{Best, best_law}
use Rattle.numbers.specs.Limits.{most_processors, most_tasks, nobody}
use Rattle.processors.specs.Words.{rank_of, link, runs, place_of, link_of, run_of, is_runnable, is_higher, is_unlinked}
use Rattle.scheduler.specs.Arriving.{is_used, is_free, lowest_free, links_lower, lowest_linked, taken}
use Rattle.scheduler.specs.Leaving.{next_task}
use Rattle.scheduler.specs.Placed.{Runnable, Sized, Unlinked}
use Rattle.scheduler.specs.Changes.{Chosen}
use Rattle.processors.specs.declared.Jobs.{Jobs}
use Rattle.processors.specs.declared.Processors.{Processors}

-- ---- a task in a list of processors' tasks: where it stands first
module _ (l : List ℕ) (t : ℕ) where
  here : place_of l t < most_processors → get_or l (place_of l t) nobody ≡ t
  here h = eqb-true _ _ ((first_law (λ k. get_or l k nobody is t) 0 most_processors).here h)

  not_there : most_processors ≤ place_of l t → (k : ℕ) → k < most_processors → get_or l k nobody ≢ t
  not_there h k m = eqb-false _ _ ((first_law (λ k. get_or l k nobody is t) 0 most_processors).before k (omega arith) (omega arith))

  module _ (sized : length l ≡ most_processors) (some : t ≢ nobody) where
    nowhere : most_processors ≤ place_of l t → (k : ℕ) → get_or l k nobody ≢ t
    nowhere h k e = elim (dec_lt k most_processors) [
      | yes y ↦ not_there h k y e
      | no y ↦ some (sym e ∙ get_or-eq_default l nobody {n = k} (omega arith))
    ]

    somewhere : (k : ℕ) → get_or l k nobody ≡ t → place_of l t < most_processors
    somewhere k e = elim (dec_lt (place_of l t) most_processors) [ yes y ↦ y | no y ↦ absurd (nowhere (omega arith) k e) ]

module _ (p : Processors) (t : ℕ) where
  pub link_here : link_of p t < most_processors → link p (link_of p t) ≡ t
  unfolding link_of
  link_here h = here p.linked t h

  pub run_here : run_of p t < most_processors → runs p (run_of p t) ≡ t
  unfolding run_of
  run_here h = here p.running t h

  pub run_not_there : most_processors ≤ run_of p t → (k : ℕ) → k < most_processors → runs p k ≢ t
  unfolding run_of
  run_not_there h = not_there p.running t h

  module _ (Z : Sized p) (some : t ≢ nobody) where
    pub link_nowhere : most_processors ≤ link_of p t → Unlinked p t
    unfolding link_of
    link_nowhere h = nowhere p.linked t Z.links some h

    pub link_somewhere : (k : ℕ) → link p k ≡ t → link_of p t < most_processors
    unfolding link_of
    link_somewhere k e = somewhere p.linked t Z.links some k e

    pub run_nowhere : most_processors ≤ run_of p t → (k : ℕ) → runs p k ≢ t
    unfolding run_of
    run_nowhere h = nowhere p.running t Z.runnings some h

    pub run_somewhere : (k : ℕ) → runs p k ≡ t → run_of p t < most_processors
    unfolding run_of
    run_somewhere k e = somewhere p.running t Z.runnings some k e

-- ---- the lowest-numbered unlinked processor is one choice
pub lowest_chosen : (p : Processors) → p.count ≤ most_processors → Chosen p (lowest_free p)
unfolding lowest_free
lowest_chosen p fits =
    let F = first_law (is_free p) 0 most_processors in
    record {
      free = λ h. let e = F.here h in (ltb-true _ _ (and_left _ _ e), eqb-true _ _ (and_right (is_used p _) _ e));
      none = λ h m l e. eqb-false _ _ (rw (lt-ltb _ _ l) at (F.before m (omega arith) (omega arith))) e;
    }

-- ---- and whichever is suggested, one is taken; every unlinked processor is, when it is suggested
pub taken_chosen : (p : Processors) → p.count ≤ most_processors → (k : ℕ) → Chosen p (taken p k)
unfolding taken
taken_chosen p fits k = go (ltb k most_processors && is_free p k) refl
  where
    go : (b : Bool) → (ltb k most_processors && is_free p k) ≡ b → Chosen p (if b then k else lowest_free p)
    go true e =
        let free = and_right (ltb k most_processors) _ e in
        let l = ltb-true k p.count (and_left _ _ free) in
        record { free = λ h. (l, eqb-true _ _ (and_right (is_used p k) _ free)); none = λ h. absurd (omega arith) }
    go false e = lowest_chosen p fits

pub taken_any : (p : Processors) → p.count ≤ most_processors → (k : ℕ) → k < p.count → link p k ≡ nobody → taken p k ≡ k
unfolding taken
taken_any p fits k l e = rw (lt-ltb k most_processors (omega arith), lt-ltb k p.count l, eq-eqb (link p k) nobody e)

-- no processor is suggested: the lowest-numbered, whatever the processors are
pub taken_lowest : (p : Processors) (k : ℕ) → most_processors ≤ k → taken p k ≡ lowest_free p
unfolding taken
taken_lowest p k h = rw (le-ltb k most_processors h)

-- ---- the processor with the lowest-priority link
pub lowest_is : (p : Processors) (j : Jobs) → Best (is_used p) (λ a b. rank_of j (link p a) ≤ rank_of j (link p b)) most_processors most_processors (lowest_linked p j)
unfolding lowest_linked
lowest_is p j =
    best_law (is_used p) (links_lower p j) (λ a b. rank_of j (link p a) ≤ rank_of j (link p b)) most_processors
    (λ a. le_refl _) (λ a b c x y. le_trans x y) (λ a b e. ltb-false _ _ e) (λ a b e. le_of_lt (ltb-true _ _ e)) most_processors (le_refl most_processors)

-- ---- n is the highest-priority unlinked runnable job, or there is none
pub record Next (p : Processors) (j : Jobs) (n : ℕ) : Type 0 where
  pub one : n < most_tasks → Runnable j n × Unlinked p n
  pub top : (v : ℕ) → Runnable j v → Unlinked p v → (n < most_tasks) × (rank_of j n ≤ rank_of j v)

pub next_is : (p : Processors) (j : Jobs) → Sized p → Next p j (next_task p j)
unfolding next_task
next_is p j Z =
    let B = best_law (is_unlinked p j) (is_higher j) (λ a b. rank_of j b ≤ rank_of j a) most_tasks
    (λ a. le_refl _) (λ a b c x y. le_trans y x) (λ a b e. ltb-false _ _ e) (λ a b e. le_of_lt (ltb-true _ _ e)) most_tasks (le_refl most_tasks) in
    record {
      one = λ h.
          let u = ⊎_elim (λ z. absurd (omega arith)) (λ z. z.1) B.one in (
            record { task = h; mode = leb-true _ _ (and_left _ _ u) },
            link_nowhere p _ Z (omega arith) (leb-true _ _ (and_right (is_runnable j _) _ u)),
          );
      top = λ v r n.
          let out : most_processors ≤ link_of p v = elim (dec_lt (link_of p v) most_processors) [ yes y ↦ absurd (n _ (link_here p v y)) | no y ↦ omega arith ] in
          let b = B.top v r.task (rw (le-leb _ _ r.mode, le-leb _ _ out)) in
          (b.0, b.2);
    }
