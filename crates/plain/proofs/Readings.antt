-- What is read off an order by priority is what the scheduler's rules find, and so are the moves. Assumes nothing.
use Prim.Native.Nat.{ℕ, zero, suc, ◌<◌, ◌≤◌}
use mathlib.Core.Path.{◌≡◌, refl, sym, ap, subst, ◌∙◌}
use mathlib.Core.Bool.{Bool, true, false, ◌&&◌}
use mathlib.Core.List.{[]}
use mathlib.Core.Logic.{◌≢◌, ◌⊎◌, inl, inr, ⊎_elim}
use native.Mathlib.Omega.{arith}
use native.Mathlib.Nat.{le_refl, le_of_lt, not-suc-le-zero}
use native.Mathlib.Decide.{ℕ_discrete, dec_lt}
use lib.Dec.{leb, ltb}
use lib.Seq.{set_out}
use borrow.Author.Tests.{lt-ltb, le-ltb, le-leb, lt-leb, leb-true, ltb-true, eq-eqb, ne_eqb, eqb-true, eqb-false}
use Rattle.std.specs.Prelude.{if◌then◌else◌}
use Rattle.search.specs.Words.{◌is◌}
use Rattle.search.proofs.Tests.{and_left, and_right, never}
use Rattle.search.proofs.Firsts.{First, first_law}
use Rattle.numbers.specs.Limits.{most_processors, most_tasks, nobody}
use Rattle.processors.specs.Words.{jobs_from, rank_of, mode_of, link, runs, link_of, run_of, is_runnable, is_higher, is_unlinked, place_on, link_on}
use Rattle.scheduler.specs.Arriving.{lowest_free, lowest_linked, can_preempt, displacing, arriving}
use Rattle.scheduler.specs.Leaving.{next_task, refilling, leaving, giving_way}
use Rattle.scheduler.specs.Placed.{Runnable, Sized, Unlinked, Placed}
use Rattle.scheduler.specs.Changes.{Apart, Joins}
use Rattle.scheduler.proofs.Finds.{next_is, lowest_is, lowest_chosen, link_here, link_nowhere, link_somewhere}
use Rattle.scheduler.proofs.SameJobs.{sized_on, next_unique}
use Rattle.scheduler.proofs.Equations.{displacing_is, arriving_is, refilling_is, leaving_is, giving_way_is}
use Rattle.processors.specs.declared.Jobs.{Jobs}
use Rattle.processors.specs.declared.Processors.{Processors}
use Rattle.plain.specs.Orders.{task_at}
use Rattle.plain.specs.Reading.{place_in, next_in, lowest_in, displacing_in, arriving_in, filling_in, leaving_in, giving_way_in}
use Rattle.plain.specs.declared.Order.{Order}
use Rattle.plain.proofs.Sorted.{Sorted}

-- no more than `most_processors` is found
run_most : (p : Processors) (t : ℕ) → run_of p t ≤ most_processors
unfolding run_of
run_most p t = (first_law (λ k. runs p k is t) 0 most_processors).high

-- ---- the lowest-priority linked job
-- the last linked task among the first n stands at place i
record Last (o : Order) (p : Processors) (n i : ℕ) : Type 0 where
  low : i < n
  found : lowest_in o p n ≡ link_of p (task_at o i)
  linked : link_of p (task_at o i) < most_processors
  behind : (m : ℕ) → i < m → m < n → most_processors ≤ link_of p (task_at o m)

-- there is such a one, or none of them is linked
module _ (o : Order) (p : Processors) where
  one_more : (n i : ℕ) → most_processors ≤ link_of p (task_at o n) → (i < n → most_processors ≤ link_of p (task_at o i)) → i < suc n → most_processors ≤ link_of p (task_at o i)
  one_more n i out f l = elim (ℕ_discrete i n) [
    | yes e ↦ subst (λ (x : ℕ). most_processors ≤ link_of p (task_at o x)) (sym e) out
    | no d ↦ f (omega arith)
  ]

  lowest_read : (n : ℕ) → ((lowest_in o p n ≡ most_processors) × ((i : ℕ) → i < n → most_processors ≤ link_of p (task_at o i))) ⊎ ((i : ℕ) × Last o p n i)
  unfolding lowest_in
  lowest_read zero = inl (refl, λ i l. absurd (not-suc-le-zero l))
  lowest_read (suc n) = elim (dec_lt (link_of p (task_at o n)) most_processors) [
    | yes y ↦ inr (n, record { low = omega arith; found = rw (lt-ltb _ _ y); linked = y; behind = λ m a b. absurd (omega arith) })
    | no y ↦
        let out : most_processors ≤ link_of p (task_at o n) = omega arith in
        let down = le-ltb (link_of p (task_at o n)) most_processors out in
        ⊎_elim
        (λ x. inl (rw down x.0, λ i l. one_more n i out (x.1 i) l))
        (λ (x : (i : ℕ) × Last o p n i).
        let L = x.1 in
        inr (x.0, record { low = omega arith; found = rw down L.found; linked = L.linked; behind = λ m a b. one_more n m out (L.behind m a) b }))
        (lowest_read n)
  ]

-- ---- what the test of an unlinked runnable job says
module _ (p : Processors) (j : Jobs) (t : ℕ) where
  open_job : Sized p → t < most_tasks → is_unlinked p j t ≡ true → Runnable j t × Unlinked p t
  open_job Z l e = (
    record { task = l; mode = leb-true _ _ (and_left _ _ e) },
    link_nowhere p t Z (omega arith) (leb-true _ _ (and_right (is_runnable j t) _ e)),
  )

  not_open : Runnable j t → Unlinked p t → is_unlinked p j t ≡ false → ⊥
  not_open r u e =
      let out : most_processors ≤ link_of p t = elim (dec_lt (link_of p t) most_processors) [ yes y ↦ absurd (u _ (link_here p t y)) | no y ↦ omega arith ] in
      never (rw (le-leb _ _ r.mode, le-leb _ _ out) at e) refl

-- ---- an order by priority
module _ (o : Order) (j : Jobs) (S : Sorted o j) (A : Apart j) where
  next_first : (p : Processors) → First (λ i. is_unlinked p j (task_at o i)) 0 o.pending (next_in o j.modes p)
  unfolding mode_of
  next_first p = first_law (λ i. is_unlinked p j (task_at o i)) 0 o.pending

  -- a runnable unlinked job has a place, and not before the first that passes
  not_before : (p : Processors) (v : ℕ) → Runnable j v → Unlinked p v → (k : ℕ) × (k < o.pending) × (task_at o k ≡ v) × (next_in o j.modes p ≤ k)
  not_before p v r u =
      let x = S.has v r in (
        x.0,
        x.1,
        x.2,
        elim (dec_lt x.0 (next_in o j.modes p)) [
          | yes l ↦ absurd (not_open p j v r u (subst (λ (w : ℕ). is_unlinked p j w ≡ false) x.2 ((next_first p).before x.0 (omega arith) l)))
          | no l ↦ omega arith
        ],
      )

  -- the next job stands at the first place that passes, or there is none
  next_read : (p : Processors) → Sized p
      → ((next_in o j.modes p ≡ o.pending) × (next_task p j ≡ most_tasks))
      ⊎ ((next_in o j.modes p < o.pending) × (next_task p j ≡ task_at o (next_in o j.modes p)))
  next_read p Z =
      let F = next_first p in
      let i = next_in o j.modes p in
      elim (dec_lt i o.pending) [
        | yes l ↦
            let t = S.tasks i l in
            inr (
              l,
              next_unique p j Z A _ (inr t) (record {
                one = λ h. open_job p j _ Z t (F.here (omega arith));
                top = λ v r u. let x = not_before p v r u in (t, rw x.2 at (S.falls i x.0 x.3 x.1));
              }),
            )
        | no l ↦
            inl (
              omega (arith, F.high),
              next_unique p j Z A most_tasks (inl refl) (record {
                one = λ h. absurd (omega arith);
                top = λ v r u. let x = not_before p v r u in absurd (omega (arith, x.1, x.3));
              }),
            )
      ]

  filling_read : (p : Processors) → Sized p → (k : ℕ) → filling_in o j.modes p k ≡ refilling p j k
  filling_read p Z k = ⊎_elim
      (λ x. rw (refilling_is p j k, x.1, eq-eqb _ _ x.0))
      (λ x. rw (refilling_is p j k, x.1, ne_eqb (next_in o j.modes p) o.pending (λ e. absurd (omega (arith, x.0, e))), lt-ltb _ _ (S.tasks _ x.0)))
      (next_read p Z)

  pub leaving_read : (p : Processors) → Sized p → (t : ℕ) → leaving_in o j.modes p t ≡ leaving p j t
  leaving_read p Z t = rw (leaving_is p j t) (elim (dec_lt (run_of p t) most_processors) [
    | yes l ↦
        rw (lt-ltb _ _ l, ne_eqb (run_of p t) most_processors (λ e. absurd (omega (arith, l, e))), filling_read (place_on p (run_of p t) nobody) (sized_on p (run_of p t) nobody Z) (run_of p t))
    | no l ↦ rw (le-ltb (run_of p t) most_processors (omega arith), eq-eqb (run_of p t) most_processors (omega (arith, run_most p t)))
  ])

  -- ---- places and priorities
  place_first : (t : ℕ) → First (λ i. task_at o i is t) 0 o.pending (place_in o t)
  place_first t = first_law (λ i. task_at o i is t) 0 o.pending

  -- a runnable job has a place, and stands there first
  has_place : (t : ℕ) → Runnable j t → (place_in o t < o.pending) × (task_at o (place_in o t) ≡ t)
  has_place t r =
      let F = place_first t in
      let x = S.has t r in
      let l : place_in o t < o.pending = elim (dec_lt (place_in o t) o.pending) [
        | yes y ↦ y
        | no y ↦ absurd (eqb-false _ _ (F.before x.0 (omega arith) (omega (arith, x.1))) x.2)
      ] in
      (l, eqb-true _ _ (F.here (omega arith)))

  -- a place before that of t is that of a higher job, and the other way round
  before_is_higher : (i u t : ℕ) → i < o.pending → task_at o i ≡ u → Runnable j u → Runnable j t → ltb i (place_in o t) ≡ is_higher j u t
  before_is_higher i u t l e ru rt =
      let y = has_place t rt in
      elim (dec_lt i (place_in o t)) [
        | yes h ↦
            let ranks : rank_of j u ≤ rank_of j t = rw (e, y.1) at (S.falls i (place_in o t) (omega arith) y.0) in
            let other : rank_of j u ≢ rank_of j t = λ q. eqb-false _ _ ((place_first t).before i (omega arith) h) (e ∙ A u t ru rt q) in
            lt-ltb _ _ h ∙ sym (lt-ltb (rank_of j u) (rank_of j t) (omega arith))
        | no h ↦
            let ranks : rank_of j t ≤ rank_of j u = rw (e, y.1) at (S.falls (place_in o t) i (omega arith) l) in
            le-ltb i (place_in o t) (omega arith) ∙ sym (le-ltb (rank_of j u) (rank_of j t) ranks)
      ]

  pub giving_way_read : (p : Processors) → Sized p → (t : ℕ) → Runnable j t → giving_way_in o j.modes p t ≡ giving_way p j t
  giving_way_read p Z t r =
      let y = has_place t r in
      rw (giving_way_is p j t) (⊎_elim
      (λ x. rw (x.1, x.0, le-ltb o.pending (place_in o t) (le_of_lt y.0)))
      (λ x.
      let h : next_task p j < most_tasks = rw x.1 (S.tasks _ x.0) in
      rw (before_is_higher _ (next_task p j) t x.0 (sym x.1) ((next_is p j Z).one h).0 r, lt-ltb _ _ h, leaving_read p Z t))
      (next_read p Z))

  -- every processor is linked to a runnable job
  module _ (p : Processors) (Z : Sized p) (fits : p.count ≤ most_processors)
      (linked : (k : ℕ) → k < p.count → Runnable j (link p k))
      (beyond : (k : ℕ) → p.count ≤ k → link p k ≡ nobody)
      (once : (k m : ℕ) → link p k ≢ nobody → link p k ≡ link p m → k ≡ m) where
    -- a linked task has its processor
    has_link : (k : ℕ) → k < p.count → link_of p (link p k) ≡ k
    has_link k l =
        let t = (linked k l).task in
        let y = link_somewhere p (link p k) Z (omega arith) k refl in
        sym (once k _ (omega arith) (sym (link_here p (link p k) y)))

    -- the processor of the task at place i, if it is linked, is one of them
    is_used_lem : (i : ℕ) → i < o.pending → link_of p (task_at o i) < most_processors → link_of p (task_at o i) < p.count
    is_used_lem i l h = elim (dec_lt (link_of p (task_at o i)) p.count) [
      | yes y ↦ y
      | no y ↦ absurd (omega (arith, S.tasks i l, link_here p (task_at o i) h, beyond (link_of p (task_at o i)) (omega arith)))
    ]

    -- the last linked task is that of the processor with the lowest-priority link
    last_lowest : (i : ℕ) → Last o p o.pending i → lowest_linked p j < p.count → lowest_in o p o.pending ≡ lowest_linked p j
    last_lowest i L l =
        let b = lowest_linked p j in
        let k = link_of p (task_at o i) in
        let used = is_used_lem i L.low L.linked in
        let some = (linked k used).task in
        let y = S.has (link p b) (linked b l) in
        let at : link_of p (task_at o y.0) ≡ b = ap (link_of p) y.2 ∙ has_link b l in
        let late : y.0 ≤ i = elim (dec_lt i y.0) [
          | yes z ↦ absurd (omega (arith, L.behind y.0 z y.1, at, fits))
          | no z ↦ omega arith
        ] in
        let low : rank_of j (link p b) ≤ rank_of j (link p k) = rw (y.2, ← link_here p _ L.linked) at (S.falls y.0 i late L.low) in
        let top = ((lowest_is p j).top k L.linked (lt-ltb _ _ used)).2 in
        L.found ∙ once k b (omega arith) (A _ _ (linked k used) (linked b l) (omega arith))

    lowest_same : lowest_in o p o.pending ≡ lowest_linked p j
    lowest_same =
        let B = lowest_is p j in
        ⊎_elim
        (λ (x : (lowest_in o p o.pending ≡ most_processors) × ((i : ℕ) → i < o.pending → most_processors ≤ link_of p (task_at o i))).
        ⊎_elim
        (λ b. x.0 ∙ sym b)
        (λ b.
        let l = ltb-true _ _ b.1 in
        let y = S.has _ (linked _ l) in
        absurd (omega (arith, x.1 y.0 y.1, ap (link_of p) y.2 ∙ has_link _ l, b.0)))
        B.one)
        (λ (x : (i : ℕ) × Last o p o.pending i).
        let L = x.1 in
        last_lowest x.0 L (ltb-true _ _ (B.top _ L.linked (lt-ltb _ _ (is_used_lem x.0 L.low L.linked))).1))
        (lowest_read o p o.pending)

    -- past the processors nothing is set
    past : (t : ℕ) (a b : Bool) → (if a then p else if b then place_on p most_processors t else link_on p most_processors t) ≡ p
    past t true b = refl
    past t false true = rw (set_out p.linked most_processors t (omega (arith, Z.links)), set_out p.running most_processors t (omega (arith, Z.runnings)))
    past t false false = rw (set_out p.linked most_processors t (omega (arith, Z.links)))

    displacing_none : (t k : ℕ) → k ≡ most_processors → displacing_in o j.modes p t k ≡ displacing p j t k
    displacing_none t k e = rw (displacing_is p j t k) (subst (λ (x : ℕ). displacing_in o j.modes p t x ≡ (if ltb x most_processors && is_higher j t (link p x) then if can_preempt p j x then place_on p x t else link_on p x t else p)) (sym e) (past t (leb (place_in o (link p most_processors)) (place_in o t)) (can_preempt p (jobs_from [] j.modes) most_processors)))

    displacing_one : (t k : ℕ) → Runnable j t → k < p.count → k < most_processors → displacing_in o j.modes p t k ≡ displacing p j t k
    unfolding mode_of
    displacing_one t k r l m =
        let y = has_place t r in
        rw (displacing_is p j t k, lt-ltb _ _ m, ← before_is_higher (place_in o t) t (link p k) y.0 y.1 r (linked k l))
        (elim (dec_lt (place_in o t) (place_in o (link p k))) [
          | yes h ↦ rw (lt-ltb _ _ h, lt-leb _ _ h)
          | no h ↦
              let back : place_in o (link p k) ≤ place_in o t = omega arith in
              rw (le-ltb _ _ back, le-leb _ _ back)
        ])

    displacing_read : (t : ℕ) → Runnable j t → displacing_in o j.modes p t (lowest_in o p o.pending) ≡ displacing p j t (lowest_linked p j)
    displacing_read t r = rw lowest_same
        (⊎_elim (λ b. displacing_none t _ b) (λ b. displacing_one t _ r (ltb-true _ _ b.1) b.0) (lowest_is p j).one)

  pub arriving_read : (p : Processors) (j₀ : Jobs) → Placed p j₀ → (t : ℕ) → Joins j₀ j t → arriving_in o j.modes p t ≡ arriving p j t nobody
  arriving_read p j₀ P t J = rw (arriving_is p j t) (elim (dec_lt (lowest_free p) most_processors) [
    | yes l ↦ rw (lt-ltb _ _ l)
    | no l ↦
        let out : most_processors ≤ lowest_free p = omega arith in
        let N = P.settled in
        let linked : (k : ℕ) → k < p.count → Runnable j (link p k) = λ k h.
        let r = N.linked_runnable k ((lowest_chosen p N.fits).none out k h) in
        let d : link p k ≢ t = λ e. J.gone (subst (λ (x : ℕ). Runnable j₀ x) e r) in
        record { task = r.task; mode = rw (J.others _ d).1 r.mode } in
        rw (le-ltb _ _ out)
        (displacing_read p N.sized N.fits linked (λ k h. (N.beyond k h).0) N.linked_once t (record { task = J.task; mode = rw J.mode (le_refl _) }))
  ])
