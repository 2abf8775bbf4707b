-- Under `Placed` a job is linked exactly when it is runnable and fewer runnable jobs than processors are higher. Assumes nothing.
use Prim.Native.Nat.{ℕ, ◌<◌, ◌≤◌, min}
use mathlib.Core.Path.{◌≡◌, refl, sym, ap, subst, ◌∙◌}
use mathlib.Core.Bool.{Bool, true}
use mathlib.Core.Logic.{◌≢◌, ◌↔◌}
use native.Mathlib.Omega.{arith}
use native.Mathlib.Decide.{dec_lt}
use borrow.Author.Tests.{lt-ltb, le-leb, ltb-true, leb-true, ne_eqb, eqb-false, not-true}
use Rattle.search.specs.Words.{◌isn't◌}
use Rattle.search.specs.Below.{how_many}
use Rattle.search.proofs.Tests.{and_left, and_right}
use Rattle.search.proofs.Pigeons.{count_into, count_avoiding, count_onto, count_from}
use Rattle.numbers.specs.Limits.{most_processors, most_tasks, nobody}
use Rattle.processors.specs.Words.{rank_of, link, link_of, is_runnable, is_ahead}
use Rattle.scheduler.specs.Leaving.{next_task}
use Rattle.scheduler.specs.Placed.{Runnable, Settled, Unlinked, Counted, Placed}
use Rattle.processors.specs.declared.Jobs.{Jobs}
use Rattle.processors.specs.declared.Processors.{Processors}
use Rattle.scheduler.proofs.Finds.{link_here, link_nowhere, next_is}

module _ (p : Processors) (j : Jobs) (t : ℕ) (P : Placed p j) where
  counted : (k : ℕ) → link p k ≢ nobody → k < p.count
  counted k h = elim (dec_lt k p.count) [ yes y ↦ y | no y ↦ absurd (h (P.settled.beyond k (omega arith)).0) ]

  -- linked at k: all who are ahead are linked elsewhere
  linked_few : (k : ℕ) → link p k ≡ t → t < most_tasks → how_many (is_ahead j t) most_tasks < p.count
  linked_few k e h =
      let l : k < p.count = counted k (λ z. omega arith) in
      let up : (u : ℕ) → is_ahead j t u ≡ true → rank_of j u < rank_of j t = λ u q. ltb-true _ _ (and_right (is_runnable j u) _ q) in
      let at : (u : ℕ) → u < most_tasks → is_ahead j t u ≡ true → link p (link_of p u) ≡ u = λ u b q. elim (dec_lt (link_of p u) most_processors) [
        | yes y ↦ link_here p u y
        | no y ↦
            let o = P.highest k u l (record { task = b; mode = leb-true _ _ (and_left _ _ q) }) (link_nowhere p u P.settled.sized (λ z. omega arith) (omega arith)) in
            absurd (omega (arith, o.1, ap (rank_of j) e, up u q))
      ] in
      count_avoiding (is_ahead j t) most_tasks p.count k (link_of p) l
      (λ u b q. (
        counted _ (λ z. omega (arith, at u b q)),
        λ z. omega (arith, up u q, ap (rank_of j) (sym (at u b q) ∙ ap (link p) z ∙ e)),
      ))
      (λ u v b d q y z. sym (at u b q) ∙ ap (link p) z ∙ at v d y)

  -- runnable and not linked: each processor's link is ahead
  few_linked : Runnable j t → how_many (is_ahead j t) most_tasks < p.count → link_of p t < most_processors
  few_linked R few = elim (dec_lt (link_of p t) most_processors) [
    | yes y ↦ y
    | no y ↦
        let o : (k : ℕ) → k < p.count → (link p k ≢ nobody) × (rank_of j (link p k) < rank_of j t) = λ k l.
        P.highest k t l R (link_nowhere p t P.settled.sized (λ z. omega (arith, R.task)) (omega arith)) in
        let r = count_from (is_ahead j t) most_tasks p.count (link p)
        (λ k l. let q = P.settled.linked_runnable k (o k l).0 in (q.task, rw (le-leb _ _ q.mode, lt-ltb _ _ (o k l).1)))
        (λ i k a b e. P.settled.linked_once i k (o i a).0 e) in
        absurd (omega arith)
  ]

  pub linked_counted : t < most_tasks → ((k : ℕ) × (link p k ≡ t)) ↔ (Runnable j t × (how_many (is_ahead j t) most_tasks < p.count))
  linked_counted h = (
    (λ x. (subst (Runnable j) x.1 (P.settled.linked_runnable x.0 (λ z. omega (arith, x.1))), linked_few x.0 x.1 h)),
    λ x. (link_of p t, link_here p t (few_linked x.0 x.1)),
  )

-- as many processors are linked as there are, or as there are runnable jobs, if fewer
module _ (p : Processors) (j : Jobs) (P : Placed p j) where
  S : Settled p j
  S = P.settled

  is_linked : ℕ → Bool
  is_linked k = link p k isn't nobody

  linked_is : (k : ℕ) → is_linked k ≡ true → link p k ≢ nobody
  unfolding is_linked
  linked_is k q = eqb-false _ _ (not-true _ q)

  is_linked_lem : (k : ℕ) → link p k ≢ nobody → is_linked k ≡ true
  unfolding is_linked
  is_linked_lem k d = rw (ne_eqb _ _ d)

  few : how_many is_linked most_processors ≤ p.count
  few = count_into is_linked most_processors p.count (λ k. k) (λ k _ q. counted p j 0 P k (linked_is k q)) (λ i k _ _ _ _ e. e)

  distinct : how_many is_linked most_processors ≤ how_many (is_runnable j) most_tasks
  distinct =
      count_onto is_linked (is_runnable j) most_processors most_tasks (link p)
      (λ k _ q. let r = S.linked_runnable k (linked_is k q) in (r.task, le-leb _ _ r.mode)) (λ i k _ _ q _ e. S.linked_once i k (linked_is i q) e)

  -- all runnable jobs are linked
  all_linked : most_tasks ≤ next_task p j → how_many (is_runnable j) most_tasks ≤ how_many is_linked most_processors
  all_linked none =
      let at : (t : ℕ) → t < most_tasks → is_runnable j t ≡ true → link_of p t < most_processors = λ t l q. elim (dec_lt (link_of p t) most_processors) [
        | yes y ↦ y
        | no y ↦ absurd (omega (arith, ((next_is p j S.sized).top t (record { task = l; mode = leb-true _ _ q }) (link_nowhere p t S.sized (λ z. omega arith) (omega arith))).0))
      ] in
      count_onto (is_runnable j) is_linked most_tasks most_processors (link_of p)
      (λ t l q. (at t l q, is_linked_lem _ (λ z. omega (arith, link_here p t (at t l q)))))
      (λ t u l m q w e. sym (link_here p t (at t l q)) ∙ ap (link p) e ∙ link_here p u (at u m w))

  -- one is not: every processor is linked
  all_full : next_task p j < most_tasks → p.count ≤ how_many is_linked most_processors
  all_full some =
      let o = (next_is p j S.sized).one some in
      count_from is_linked most_processors p.count (λ k. k) (λ k l. (omega (arith, S.fits), is_linked_lem k (P.highest k (next_task p j) l o.0 o.1).0)) (λ i k _ _ e. e)

  pub linked_many : how_many (λ k. link p k isn't nobody) most_processors ≡ min p.count (how_many (is_runnable j) most_tasks)
  unfolding is_linked
  linked_many = elim (dec_lt (next_task p j) most_tasks) [
    | yes y ↦ omega (arith, few, distinct, all_full y)
    | no y ↦ omega (arith, few, distinct, all_linked (omega arith))
  ]

-- and back: what is settled and linked by counting is `Placed`
module _ (p : Processors) (j : Jobs) (S : Settled p j) (C : Counted p j) where
  -- who is runnable and unlinked has as many ahead as there are processors
  many_ahead : (t : ℕ) → Runnable j t → Unlinked p t → p.count ≤ how_many (is_ahead j t) most_tasks
  many_ahead t R U = elim (dec_lt (how_many (is_ahead j t) most_tasks) p.count) [
    | yes few ↦ let x = (C.highest t R.task).1 (R, few) in absurd (U x.0 x.1)
    | no y ↦ omega arith
  ]

  -- so every processor is linked
  none_free : (k t : ℕ) → k < p.count → Runnable j t → Unlinked p t → link p k ≢ nobody
  none_free k t l R U e =
      let runnable : how_many (is_ahead j t) most_tasks ≤ how_many (is_runnable j) most_tasks =
      count_onto (is_ahead j t) (is_runnable j) most_tasks most_tasks (λ i. i) (λ i b q. (b, and_left (is_runnable j i) _ q)) (λ i m _ _ _ _ z. z) in
      let linked : how_many (λ i. link p i isn't nobody) most_processors < p.count =
      count_avoiding (λ i. link p i isn't nobody) most_processors p.count k (λ i. i) l
      (λ i _ q. let d : link p i ≢ nobody = eqb-false _ _ (not-true _ q) in (
        elim (dec_lt i p.count) [ yes y ↦ y | no y ↦ absurd (d (S.beyond i (omega arith)).0) ],
        λ z. d (ap (link p) z ∙ e),
      ))
      (λ i m _ _ _ _ z. z) in
      omega (arith, many_ahead t R U, runnable, linked, C.many)

  -- to one of higher priority: else all who are ahead of t would be ahead of it
  higher : (k t : ℕ) → link p k ≢ nobody → Runnable j t → Unlinked p t → rank_of j (link p k) < rank_of j t
  higher k t d R U = elim (dec_lt (rank_of j (link p k)) (rank_of j t)) [
    | yes y ↦ y
    | no y ↦
        let u = link p k in
        let few = ((C.highest u (S.linked_runnable k d).task).0 (k, refl)).1 in
        let ahead : how_many (is_ahead j t) most_tasks ≤ how_many (is_ahead j u) most_tasks =
        count_onto (is_ahead j t) (is_ahead j u) most_tasks most_tasks (λ i. i)
        (λ i b q.
        let up : rank_of j i < rank_of j t = ltb-true _ _ (and_right (is_runnable j i) _ q) in
        (b, rw (and_left (is_runnable j i) _ q) (lt-ltb (rank_of j i) (rank_of j u) (omega arith))))
        (λ i m _ _ _ _ z. z) in
        absurd (omega (arith, many_ahead t R U, few, ahead))
  ]

  pub placed_counted : Placed p j
  placed_counted = record { settled = S; highest = λ k t l R U. (none_free k t l R U, higher k t (none_free k t l R U) R U) }
