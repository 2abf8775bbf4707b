-- A freed processor is filled again, and then links and placements are as they should. Assumes nothing.
use Prim.Native.Nat.{ℕ, ◌<◌, ◌≤◌}
use mathlib.Core.Path.{◌≡◌, refl, sym, ap, ◌∙◌}
use mathlib.Core.Logic.{◌≢◌, ⊎_elim}
use native.Mathlib.Omega.{arith}
use native.Mathlib.Decide.{ℕ_discrete, dec_lt}
use borrow.Author.Tests.{lt-ltb, le-ltb}
use Rattle.numbers.specs.Limits.{most_processors, most_tasks, nobody}
use Rattle.processors.specs.Words.{link, runs, rank_of, run_of, place_on, link_on}
use Rattle.scheduler.specs.Leaving.{next_task, filling, refilling}
use Rattle.scheduler.specs.Placed.{Runnable, Settled, Placed, Unlinked}
use Rattle.scheduler.specs.Changes.{Apart}
use Rattle.processors.specs.declared.Jobs.{Jobs}
use Rattle.processors.specs.declared.Processors.{Processors}
use Rattle.scheduler.proofs.Finds.{run_here, run_nowhere, next_is}
use Rattle.scheduler.proofs.Moves.{Put, put_place, put_link, put_at, start, relink}

module _ (p : Processors) (j : Jobs) (k : ℕ) (S : Settled p j) (l : k < p.count) (free : link p k ≡ nobody)
    -- the other links are above all unlinked runnable jobs but the next one, which may have risen above them
    (others : (m v : ℕ) → m < p.count → m ≢ k → v ≢ next_task p j → Runnable j v → Unlinked p v → (link p m ≢ nobody) × (rank_of j (link p m) < rank_of j v))
    (apart : Apart j) where
  in_range : k < most_processors
  in_range = omega (arith, S.fits)

  none_left : most_tasks ≤ next_task p j → Placed p j
  none_left h = record { settled = S; highest = λ m u g r n. absurd (omega (arith, ((next_is p j S.sized).top u r n).0)) }

  -- ---- u is the next
  module _ (u : ℕ) (next : u ≡ next_task p j) (R : Runnable j u) (new : Unlinked p u) where
    above : (v : ℕ) → v ≢ u → Runnable j v → Unlinked p v → rank_of j u < rank_of j v
    above v d r n =
        let q : rank_of j u ≢ rank_of j v = λ e. d (sym (apart u v R r e)) in
        omega (arith, ((next_is p j S.sized).top v r n).1, ap (rank_of j) next)

    -- it runs nowhere: it is linked to k and runs there
    starts : most_processors ≤ run_of p u → Placed (place_on p k u) j
    starts g =
        let W = put_place p k u S.sized in_range in
        record {
          settled = start p (place_on p k u) j k S l u R new W free (run_nowhere p u S.sized (λ e. omega (arith, R.task)) g);
          highest = λ m v b r n.
              let d : v ≢ u = λ e. n k ((put_at p (place_on p k u) k u u W).0 ∙ sym e) in
              let was : Unlinked p v = λ i e. ⊎_elim (λ x. omega (arith, r.task, ap (link p) x.0)) (λ x. n i (x.1 ∙ e)) (W.view i) in
              ⊎_elim
              (λ x. ((λ z. omega (arith, R.task)), rw x.1 (above v d r was)))
              (λ x. let o = others m v b x.0 (λ e. d (e ∙ sym next)) r was in ((λ z. o.0 (sym x.1 ∙ z)), rw x.1 o.1))
              (W.view m);
        }

    -- it runs on q: it is linked there, and q's link moves to k and runs
    module _ (q : ℕ) (ran : runs p q ≡ u) where
      had : link p q ≢ nobody
      had e = omega (arith, S.unlinked_idle q e, R.task)

      q_counts : q < p.count
      q_counts = elim (dec_lt q p.count) [ yes y ↦ y | no y ↦ absurd (had (S.beyond q (omega arith)).0) ]

      other_than_k : k ≢ q
      other_than_k e = had (ap (link p) (sym e) ∙ free)

      module _ (p₁ p' : Processors) (W₁ : Put p p₁ q u (runs p q)) (W : Put p₁ p' k (link p q) (link p q)) where
        -- the job that was linked to q is nowhere in between
        free₁ : link p₁ k ≡ nobody
        free₁ = ⊎_elim (λ x. absurd (other_than_k x.0)) (λ x. x.1 ∙ free) (W₁.view k)

        new₁ : Unlinked p₁ (link p q)
        new₁ m e = ⊎_elim (λ x. new q (sym e ∙ x.1)) (λ x. x.0 (S.linked_once m q (omega (arith, had)) (omega arith))) (W₁.view m)

        fresh₁ : (m : ℕ) → runs p₁ m ≢ link p q
        fresh₁ m e =
            let no_run : (i : ℕ) → runs p i ≢ link p q = λ i z. new q (sym z ∙ ap (runs p) (S.running_linked i q (omega (arith, had)) z) ∙ ran) in
            ⊎_elim (λ x. no_run q (sym x.2 ∙ e)) (λ x. no_run m (sym x.2 ∙ e)) (W₁.view m)

        settled₁ : Settled p₁ j
        settled₁ = relink p p₁ j q S q_counts u R new W₁ had (λ m e. S.running_once m q (omega (arith, R.task)) (e ∙ sym ran)) (λ _. ran)

        -- the links after
        at_q : link p' q ≡ u
        at_q = ⊎_elim (λ x. absurd (other_than_k (sym x.0))) (λ x. x.1 ∙ (put_at p p₁ q u (runs p q) W₁).0) (W.view q)

        at_k : link p' k ≡ link p q
        at_k = (put_at p₁ p' k (link p q) (link p q) W).0

        at_other : (m : ℕ) → m ≢ k → m ≢ q → link p' m ≡ link p m
        at_other m a b = ⊎_elim (λ x. absurd (a x.0)) (λ x. x.1 ∙ ⊎_elim (λ y. absurd (b y.0)) (λ y. y.1) (W₁.view m)) (W.view m)

        moved : Placed p' j
        moved = record {
          settled = start p₁ p' j k settled₁ (omega (arith, W₁.count)) (link p q) (S.linked_runnable q had) new₁ W free₁ fresh₁;
          highest = λ m v g r n.
              let d : v ≢ u = λ e. n q (at_q ∙ sym e) in
              let far : v ≢ next_task p j = λ e. d (e ∙ sym next) in
              let was : Unlinked p v = λ i e. elim (ℕ_discrete i q) [
                | yes y ↦ n k (at_k ∙ ap (link p) (sym y) ∙ e)
                | no y ↦ elim (ℕ_discrete i k) [ yes z ↦ omega (arith, r.task, ap (link p) z) | no z ↦ n i (at_other i z y ∙ e) ]
              ] in
              elim (ℕ_discrete m k) [
                | yes y ↦
                    let lm : link p' m ≡ link p q = ap (link p') y ∙ at_k in
                    ((λ z. had (sym lm ∙ z)), rw lm (others q v q_counts (λ e. other_than_k (sym e)) far r was).1)
                | no y ↦ elim (ℕ_discrete m q) [
                  | yes z ↦ let lm : link p' m ≡ u = ap (link p') z ∙ at_q in ((λ i. omega (arith, R.task)), rw lm (above v d r was))
                  | no z ↦
                      let o = others m v (omega (arith, W.count, W₁.count)) y far r was in
                      ((λ i. o.0 (sym (at_other m y z) ∙ i)), rw (at_other m y z) o.1)
                ]
              ];
        }

    fills : Placed (filling p k u (run_of p u)) j
    unfolding filling
    fills = elim (dec_lt (run_of p u) most_processors) [
      | yes g ↦
          let q = run_of p u in
          let W₁ = put_link p q u S.sized g in
          rw (lt-ltb _ _ g) (moved q (run_here p u g) (link_on p q u) (place_on (link_on p q u) k (link p q)) W₁ (put_place (link_on p q u) k (link p q) W₁.sized in_range))
      | no g ↦ rw (le-ltb (run_of p u) most_processors (omega arith)) (starts (omega arith))
    ]

  pub refilled_placed : Placed (refilling p j k) j
  unfolding refilling
  refilled_placed = elim (dec_lt (next_task p j) most_tasks) [
    | yes g ↦ let o = (next_is p j S.sized).one g in rw (lt-ltb _ _ g) (fills (next_task p j) refl o.0 o.1)
    | no g ↦ rw (le-ltb (next_task p j) most_tasks (omega arith)) (none_left (omega arith))
  ]
