-- A job that arrives or resumes keeps `Placed`, whichever unlinked processor is chosen. Assumes nothing.
use Prim.Native.Nat.{ℕ, ◌<◌, ◌≤◌}
use mathlib.Core.Path.{◌≡◌, refl, sym, ap, subst, ◌∙◌}
use mathlib.Core.Bool.{Bool, true, false, ◌&&◌}
use mathlib.Core.Logic.{◌≢◌, inl, ⊎_elim}
use native.Mathlib.Omega.{arith}
use native.Mathlib.Decide.{ℕ_discrete, dec_lt}
use lib.Dec.{ltb}
use borrow.Author.Tests.{lt-ltb, le-ltb, eq-eqb, ltb-true, ltb-false, eqb-true}
use Rattle.std.specs.Prelude.{if◌then◌else◌}
use Rattle.search.specs.Words.{◌is◌}
use Rattle.search.proofs.Tests.{and_left, and_right, never}
use Rattle.numbers.specs.Limits.{most_processors, nobody}
use Rattle.processors.specs.Modes.{preemptable}
use Rattle.processors.specs.Words.{link, runs, rank_of, mode_of, is_higher, place_on, link_on}
use Rattle.scheduler.specs.Arriving.{lowest_linked, can_preempt, displacing, arriving_on}
use Rattle.scheduler.specs.Placed.{Runnable, Settled, Placed, Unlinked}
use Rattle.scheduler.specs.Changes.{Joins, Chosen}
use Rattle.processors.specs.declared.Jobs.{Jobs}
use Rattle.processors.specs.declared.Processors.{Processors}
use Rattle.scheduler.proofs.Finds.{lowest_is}
use Rattle.scheduler.proofs.Moves.{Put, put_place, put_link, put_again, put_at, clear, start, relink, rejob}

module _ (p : Processors) (j j' : Jobs) (t : ℕ) (P : Placed p j) (J : Joins j j' t) where
  -- t is on no processor
  off : (m : ℕ) → (link p m ≢ t) × (runs p m ≢ t)
  off m = (
    (λ e. J.gone (subst (Runnable j) e (P.settled.linked_runnable m (omega (arith, J.task))))),
    λ e. J.gone (subst (Runnable j) e (P.settled.running_runnable m (omega (arith, J.task)))),
  )

  keep : (u : ℕ) → u ≢ t → Runnable j u → Runnable j' u
  keep u d r = record { task = r.task; mode = omega (arith, r.mode, (J.others u d).1) }

  S : Settled p j'
  S = rejob p j j' P.settled (λ m _. keep _ (off m).0) (λ m _. keep _ (off m).1) (λ m _ q. inl (sym (J.others _ (off m).1).1 ∙ q))
      (λ u r q. inl (sym (J.others u (λ e. omega (arith, ap (mode_of j') e, J.mode))).1 ∙ q))

  R : Runnable j' t
  R = record { task = J.task; mode = omega (arith, J.mode) }

  -- who else has no link stands below every link
  below : (m u : ℕ) → m < p.count → u ≢ t → Runnable j' u → Unlinked p u → (link p m ≢ nobody) × (rank_of j' (link p m) < rank_of j' u)
  below m u g d r n =
      let o = P.highest m u g (record { task = r.task; mode = omega (arith, r.mode, (J.others u d).1) }) n in
      (o.0, omega (arith, o.1, (J.others u d).0, (J.others (link p m) (off m).0).0))

  -- who has no link after k is linked to t is not t, and had none before, but for the job that was linked to k
  after : (p' : Processors) (k v u : ℕ) → Put p p' k t v → Unlinked p' u → (u ≢ t) × (u ≢ link p k → Unlinked p u)
  after p' k v u W n = (
    (λ e. n k ((put_at p p' k t v W).0 ∙ sym e)),
    λ d i e. ⊎_elim (λ x. d (sym e ∙ ap (link p) x.0)) (λ x. n i (x.1 ∙ e)) (W.view i),
  )

  -- where t has the link of k, all links are higher than u if t is and the other links are
  higher : (p' : Processors) (k v u : ℕ) → Put p p' k t v → rank_of j' t < rank_of j' u
      → ((m : ℕ) → m < p.count → m ≢ k → (link p m ≢ nobody) × (rank_of j' (link p m) < rank_of j' u))
      → (m : ℕ) → m < p'.count → (link p' m ≢ nobody) × (rank_of j' (link p' m) < rank_of j' u)
  higher p' k v u W up others m g =
      ⊎_elim (λ x. ((λ z. omega (arith, J.task)), rw x.1 up))
      (λ x. let o = others m (omega (arith, W.count)) x.0 in ((λ z. o.0 (sym x.1 ∙ z)), rw x.1 o.1)) (W.view m)

  -- ---- k is unlinked: nobody else waits for a link
  starts : (k : ℕ) → k < p.count → link p k ≡ nobody → Placed (place_on p k t) j'
  starts k l free =
      let W = put_place p k t S.sized (omega (arith, S.fits)) in
      record {
        settled = start p (place_on p k t) j' k S l t R (λ m. (off m).0) W free (λ m. (off m).1);
        highest = λ m u g r n.
            let a = after _ k t u W n in
            absurd ((below k u l a.0 r (a.1 (λ e. omega (arith, r.task)))).0 free);
      }

  -- ---- no processor is unlinked
  module _ (full : (m : ℕ) → m < p.count → link p m ≢ nobody) where
    -- every link is higher than t
    stays : ((m : ℕ) → m < p.count → rank_of j' (link p m) ≤ rank_of j' t) → Placed p j'
    stays low = record {
      settled = S;
      highest = λ m u g r n. elim (ℕ_discrete u t) [
        | yes e ↦
            let q : rank_of j' (link p m) ≢ rank_of j' u = λ q. n m (J.apart _ _ (S.linked_runnable m (full m g)) r q) in
            (full m g, omega (arith, low m g, ap (rank_of j') e))
        | no d ↦ below m u g d r n
      ];
    }

    -- t is higher than the lowest link, that of k
    module _ (k : ℕ) (l : k < p.count) (low : (m : ℕ) → m < p.count → rank_of j' (link p m) ≤ rank_of j' (link p k)) (h : rank_of j' t < rank_of j' (link p k)) where
      taken : (p' : Processors) (v : ℕ) → Put p p' k t v → (m u : ℕ) → m < p'.count → Runnable j' u → Unlinked p' u → (link p' m ≢ nobody) × (rank_of j' (link p' m) < rank_of j' u)
      taken p' v W m u g r n =
          let a = after p' k v u W n in
          elim (ℕ_discrete u (link p k)) [
            | yes e ↦ higher p' k v u W (omega (arith, ap (rank_of j') e))
                (λ i b d.
                let q : rank_of j' (link p i) ≢ rank_of j' u = λ q.
                d (S.linked_once i k (full i b) (J.apart _ _ (S.linked_runnable i (full i b)) r q ∙ e)) in
                (full i b, omega (arith, low i b, ap (rank_of j') e))) m g
            | no e ↦
                let was = a.1 e in
                higher p' k v u W (omega (arith, (below k u l a.0 r was).1)) (λ i b d. below i u b a.0 r was) m g
          ]

      in_range : k < most_processors
      in_range = omega (arith, S.fits)

      -- the displaced job is running and preemptable: t runs in its stead
      runs_at_once : can_preempt p j' k ≡ true → Placed (place_on p k t) j'
      runs_at_once q =
          let own = eqb-true (runs p k) (link p k) (and_left _ _ q) in
          let soft = eqb-true (mode_of j' (link p k)) preemptable (and_right (runs p k is link p k) _ q) in
          let W₁ = put_place p k nobody S.sized in_range in
          let W = put_place p k t S.sized in_range in
          let gone : (m : ℕ) → (link (place_on p k nobody) m ≢ t) × (runs (place_on p k nobody) m ≢ t) = λ m.
          ⊎_elim (λ x. ((λ e. omega (arith, J.task)), λ e. omega (arith, J.task))) (λ x. ((λ e. (off m).0 (sym x.1 ∙ e)), λ e. (off m).1 (sym x.2 ∙ e))) (W₁.view m) in
          record {
            settled =
                start _ (place_on p k t) j' k (clear p _ j' k S l W₁ own (λ e. omega (arith, ap (mode_of j') own))) l t R (λ m. (gone m).0)
                (put_again p _ _ k nobody nobody t t W₁ W) (put_at p _ k nobody nobody W₁).0 (λ m. (gone m).1);
            highest = taken (place_on p k t) t W;
          }

      -- the displaced job runs on, or another does: t has the link and waits
      waits : can_preempt p j' k ≡ false → Placed (link_on p k t) j'
      waits q =
          let W = put_link p k t S.sized in_range in
          record {
            settled = relink p (link_on p k t) j' k S l t R (λ m. (off m).0) W (full k l) (λ m e. absurd ((off m).1 e))
                (λ e. let own = S.preemptable_linked k (S.linked_busy k (full k l)) e in
                absurd (never q (rw (eq-eqb _ _ (sym own), eq-eqb (mode_of j' (link p k)) preemptable (ap (mode_of j') own ∙ e)))));
            highest = taken (link_on p k t) (runs p k) W;
          }

    displaces : Placed (displacing p j' t (lowest_linked p j')) j'
    unfolding displacing
    displaces = go (ltb k most_processors && is_higher j' t (link p k)) refl
      where
        k : ℕ
        k = lowest_linked p j'

        low : (m : ℕ) → m < p.count → (k < p.count) × (rank_of j' (link p m) ≤ rank_of j' (link p k))
        low m g = let o = (lowest_is p j').top m (omega (arith, S.fits)) (lt-ltb _ _ g) in (ltb-true _ _ o.1, o.2)

        ends : (l : k < p.count) → rank_of j' t < rank_of j' (link p k) → (b : Bool) → can_preempt p j' k ≡ b → Placed (if b then place_on p k t else link_on p k t) j'
        ends l h true q = runs_at_once k l (λ m g. (low m g).1) h q
        ends l h false q = waits k l (λ m g. (low m g).1) h q

        go : (b : Bool) → (ltb k most_processors && is_higher j' t (link p k)) ≡ b → Placed (if b then if can_preempt p j' k then place_on p k t else link_on p k t else p) j'
        go true e =
            let h : k < most_processors = ltb-true _ _ (and_left _ _ e) in
            let l : k < p.count = ⊎_elim (λ z. absurd (omega arith)) (λ z. ltb-true _ _ z.1) (lowest_is p j').one in
            ends l (ltb-true _ _ (and_right (ltb k most_processors) _ e)) (can_preempt p j' k) refl
        go false e = stays (λ m g.
            let o = low m g in
            let c : rank_of j' (link p k) ≤ rank_of j' t = ltb-false _ _ (rw (lt-ltb k most_processors (omega (arith, S.fits))) at e) in
            omega arith)

  pub coming_placed : (k : ℕ) → Chosen p k → Placed (arriving_on p j' t k) j'
  unfolding arriving_on
  coming_placed k C = elim (dec_lt k most_processors) [
    | yes h ↦ rw (lt-ltb _ _ h) (starts k (C.free h).0 (C.free h).1)
    | no h ↦ rw (le-ltb k most_processors (omega arith)) (displaces (C.none (omega arith)))
  ]
