-- A job leaves its processor: by finishing or suspending, where another may inherit its rank, or by giving way. Assumes nothing.
use Prim.Native.Nat.{ℕ, ◌<◌, ◌≤◌}
use mathlib.Core.Path.{◌≡◌, refl, sym, ap, subst, ◌∙◌}
use mathlib.Core.Bool.{Bool, true, false, ◌&&◌}
use mathlib.Core.Logic.{◌≢◌, inl, ⊎_elim}
use native.Mathlib.Omega.{arith}
use native.Mathlib.Decide.{ℕ_discrete, dec_lt}
use lib.Dec.{ltb}
use borrow.Author.Tests.{lt-ltb, eq-eqb, ne_eqb, ltb-true, ltb-false}
use Rattle.std.specs.Prelude.{if◌then◌else◌}
use Rattle.search.proofs.Tests.{and_left, and_right}
use Rattle.numbers.specs.Limits.{most_processors, most_tasks, nobody}
use Rattle.processors.specs.Modes.{preemptable}
use Rattle.processors.specs.Words.{link, runs, rank_of, mode_of, run_of, is_higher, place_on}
use Rattle.scheduler.specs.Leaving.{next_task, leaving_from, leaving, giving_way}
use Rattle.scheduler.specs.Placed.{Runnable, Settled, Placed, Unlinked}
use Rattle.scheduler.specs.Changes.{Apart, Inherits, Restores}
use Rattle.processors.specs.declared.Jobs.{Jobs}
use Rattle.processors.specs.declared.Processors.{Processors}
use Rattle.scheduler.proofs.Finds.{run_here, next_is}
use Rattle.scheduler.proofs.Moves.{Put, put_place, put_at, clear, rejob}
use Rattle.scheduler.proofs.Freed.{refilled_placed}

-- ---- t, preemptable, runs
module _ (p : Processors) (j : Jobs) (t : ℕ) (P : Placed p j) (t_in : t < most_tasks) (on : run_of p t < most_processors) (soft : mode_of j t ≡ preemptable) where
  -- the processor of t, and the processors with it freed
  abbrev k : ℕ
  k = run_of p t

  abbrev freed : Processors
  freed = place_on p k nobody

  here : runs p k ≡ t
  here = run_here p t on

  own : link p k ≡ t
  own = P.settled.preemptable_linked k (omega (arith, here)) (ap (mode_of j) here ∙ soft) ∙ here

  used : k < p.count
  used = elim (dec_lt k p.count) [ yes y ↦ y | no y ↦ absurd (omega (arith, here, (P.settled.beyond k (omega arith)).1)) ]

  W : Put p freed k nobody nobody
  W = put_place p k nobody P.settled.sized on

  off : (m : ℕ) → (link freed m ≢ t) × (runs freed m ≢ t)
  off m =
      ⊎_elim (λ x. ((λ e. omega (arith, x.1)), λ e. omega (arith, x.2)))
      (λ x. (
        (λ e. x.0 (P.settled.linked_once m k (omega arith) (sym x.1 ∙ e ∙ sym own))),
        λ e. x.0 (P.settled.running_once m k (omega arith) (sym x.2 ∙ e ∙ sym here)),
      ))
      (W.view m)

  -- who has no link after, and is not t, had none before
  unlinked : (u : ℕ) → u ≢ t → Unlinked freed u → Unlinked p u
  unlinked u d n i e = ⊎_elim (λ x. d (sym e ∙ ap (link p) x.0 ∙ own)) (λ x. n i (x.1 ∙ e)) (W.view i)

  -- a statement about the links but k's, before and after
  other_links : (j' : Jobs) (m v : ℕ) → m ≢ k → (link p m ≢ t → (link p m ≢ nobody) × (rank_of j' (link p m) < rank_of j' v)) → (link freed m ≢ nobody) × (rank_of j' (link freed m) < rank_of j' v)
  other_links j' m v d up =
      ⊎_elim (λ x. absurd (d x.0))
      (λ x. let o = up (λ e. (off m).0 (x.1 ∙ e)) in ((λ z. o.0 (sym x.1 ∙ z)), rw x.1 o.1))
      (W.view m)

  -- t leaves, and the freed processor is filled
  goes : (j' : Jobs) → Settled freed j'
      → ((m v : ℕ) → m < p.count → m ≢ k → v ≢ next_task freed j' → Runnable j' v → Unlinked freed v → (link freed m ≢ nobody) × (rank_of j' (link freed m) < rank_of j' v))
      → Apart j' → Placed (leaving p j' t) j'
  unfolding leaving leaving_from
  goes j' S others apart =
      rw (lt-ltb _ _ on, eq-eqb _ _ (own ∙ sym here), ne_eqb _ _ (let d : link p k ≢ nobody = λ e. omega (arith, own) in d))
      (refilled_placed freed j' k S used (put_at p freed k nobody nobody W).0 others apart)

  -- ---- t is not runnable any more, and h may take its rank
  module _ (j' : Jobs) (h : ℕ) (L : Inherits j j' t h) where
    not_gone : (u : ℕ) → Runnable j' u → u ≢ t
    not_gone u r e = L.gone (subst (Runnable j') e r)

    was : (u : ℕ) → Runnable j' u → Runnable j u
    was u r = record { task = r.task; mode = omega (arith, r.mode, L.modes u (not_gone u r)) }

    still : (u : ℕ) → u ≢ t → Runnable j u → Runnable j' u
    still u d r = record { task = r.task; mode = omega (arith, r.mode, L.modes u d) }

    settles : Settled freed j'
    settles =
        rejob freed j j' (clear p freed j k P.settled used W (here ∙ sym own) (λ e. omega (arith, ap (mode_of j) here)))
        (λ m _. still _ (off m).0) (λ m _. still _ (off m).1) (λ m _ q. inl (sym (L.modes _ (off m).1) ∙ q))
        (λ u r q. inl (sym (L.modes u (not_gone u r)) ∙ q))

    risen : (u : ℕ) → u ≢ t → rank_of j' u ≤ rank_of j u
    risen u d = elim (ℕ_discrete u h) [ yes e ↦ omega (arith, ap (rank_of j) e, ap (rank_of j') e, L.rank_falls) | no e ↦ omega (arith, L.others u d e) ]

    -- h, risen to t's rank and unlinked, is the next
    holder_next : rank_of j' h ≡ rank_of j t → Runnable j' h → Unlinked freed h → h ≡ next_task freed j'
    holder_next q r n =
        let N = next_is freed j' W.sized in
        let b = N.top h r n in
        let x = N.one b.0 in
        let d = not_gone (next_task freed j') x.0 in
        elim (ℕ_discrete (next_task freed j') h) [
          | yes y ↦ sym y
          | no y ↦
              let o = (P.highest k (next_task freed j') used (was _ x.0) (unlinked _ d x.1)).1 in
              absurd (omega (arith, ap (rank_of j) own, b.1, L.others (next_task freed j') d y))
        ]

    pub raised_placed : Placed (leaving p j' t) j'
    raised_placed = goes j' settles (λ m v g b far r n.
        let d = not_gone v r in
        let o = P.highest m v g (was v r) (unlinked v d n) in
        let kept : rank_of j' v ≡ rank_of j v = elim (ℕ_discrete v h) [
          | yes e ↦ ⊎_elim (λ q. ap (rank_of j') e ∙ q ∙ ap (rank_of j) (sym e))
              (λ q. absurd (far (e ∙ holder_next q (subst (Runnable j') e r) (subst (Unlinked freed) e n)))) L.by
          | no e ↦ L.others v d e
        ] in
        other_links j' m v b (λ f. (o.0, omega (arith, o.1, risen (link p m) f)))) L.apart

  -- ---- t's priority is restored
  module _ (j' : Jobs) (L : Restores j j' t) where
    still_settled : Settled p j'
    still_settled =
        let keep : (u : ℕ) → Runnable j u → Runnable j' u = λ u r. record { task = r.task; mode = omega (arith, r.mode, L.modes u) } in
        rejob p j j' P.settled (λ m _. keep _) (λ m _. keep _) (λ m _ q. inl (sym (L.modes _) ∙ q)) (λ u _ q. inl (sym (L.modes u) ∙ q))

    -- who has no link is not t, and below all links but t
    below_others : (m v : ℕ) → m < p.count → Runnable j' v → Unlinked p v → (link p m ≢ nobody) × (link p m ≢ t → rank_of j' (link p m) < rank_of j' v)
    below_others m v g r n =
        let d : v ≢ t = λ e. n k (own ∙ sym e) in
        let o = P.highest m v g (record { task = r.task; mode = omega (arith, r.mode, L.modes v) }) n in
        (o.0, λ b. omega (arith, o.1, L.others v d, L.others (link p m) b))

    -- no unlinked job is higher now: nothing moves
    stays : ((v : ℕ) → Runnable j' v → Unlinked p v → rank_of j' t ≤ rank_of j' v) → Placed p j'
    stays low = record {
      settled = still_settled;
      highest = λ m v g r n.
          let o = below_others m v g r n in (
            o.0,
            elim (ℕ_discrete (link p m) t) [
              | yes e ↦
                  let q : rank_of j' (link p m) ≢ rank_of j' v = λ q. n m (L.apart _ _ (still_settled.linked_runnable m o.0) r q) in
                  omega (arith, low v r n, ap (rank_of j') e)
              | no e ↦ o.1 e
            ],
          );
    }

    -- x is higher now: t stops, and is itself a candidate
    stops : (x : ℕ) → Runnable j' x → Unlinked p x → rank_of j' x < rank_of j' t → Placed (leaving p j' t) j'
    stops x rx nx over =
        goes j' (clear p freed j' k still_settled used W (here ∙ sym own) (λ e. omega (arith, ap (mode_of j') here, L.modes t)))
        (λ m v g b _ r n. other_links j' m v b (λ far. elim (ℕ_discrete v t) [
          | yes e ↦ let o = below_others m x g rx nx in (o.0, omega (arith, o.1 far, ap (rank_of j') e))
          | no e ↦ let o = below_others m v g r (unlinked v e n) in (o.0, o.1 far)
        ])) L.apart

    pub gives_way_placed : Placed (giving_way p j' t) j'
    unfolding giving_way
    gives_way_placed = go (ltb u most_tasks && is_higher j' u t) refl
      where
        u : ℕ
        u = next_task p j'

        go : (b : Bool) → (ltb u most_tasks && is_higher j' u t) ≡ b → Placed (if b then leaving p j' t else p) j'
        go true q =
            let N = (next_is p j' P.settled.sized).one (ltb-true _ _ (and_left _ _ q)) in
            stops u N.0 N.1 (ltb-true _ _ (and_right (ltb u most_tasks) _ q))
        go false q = stays (λ v r n.
            let b = (next_is p j' P.settled.sized).top v r n in
            let c : rank_of j' t ≤ rank_of j' u = ltb-false _ _ (rw (lt-ltb u most_tasks b.0) at q) in
            omega (arith, b.1))
