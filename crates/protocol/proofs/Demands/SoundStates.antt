-- Demand 3, of any sound state. Assumes nothing.
use Prim.Native.Nat.{ℕ, zero, suc, ◌<◌, ◌≤◌}
use mathlib.Core.Path.{◌≡◌, refl, sym, ap, subst, ◌∙◌}
use mathlib.Core.Logic.{◌≢◌, ◌⊎◌, inl, inr, ⊎_elim}
use native.Mathlib.Omega.{arith}
use native.Mathlib.Decide.{ℕ_discrete}
use borrow.Author.Tests.{le-leb, lt-leb, ne_eqb, eq-eqb, leb-true}
use Rattle.search.proofs.Tests.{tests}
use Rattle.search.proofs.Pigeons.{how_many_same}
use Rattle.numbers.specs.Limits.{most_tasks, nobody}
use Rattle.processors.specs.Modes.{preemptable}
use Rattle.processors.specs.Words.{mode_of, is_runnable as is_runnable_job, is_ahead as is_ahead_job}
use Rattle.scheduler.specs.Placed.{Settled, Counted}
use Rattle.scheduler.proofs.Laws.{counted_law}
use Rattle.scheduler.proofs.Testing.{placed_of_test, test_of_placed}
use Rattle.input.specs.Kinds.{short}
use Rattle.input.specs.Words.{kind}
use Rattle.setups.specs.Naming.{group_of}
use Rattle.protocol.specs.Words.{absent, active, spinning, suspended, standing_no, task, stand, asked, holder, len, waiter}
use Rattle.protocol.specs.Ranks.{jobs}
use Rattle.protocol.specs.Demands.{is_runnable, is_ahead, PrioritiesApart, LinksHighest, OneHolder, Waiting, WaitsFor, ChainsEnd, OnePlace, PlacedAsDemanded}
use Rattle.protocol.specs.declared.Lock.TheVariants.{Short, Long}
use Rattle.protocol.specs.declared.Standing.{Standing}
use Rattle.protocol.specs.declared.Standing.TheVariants.{Absent, Active, Waiting as WaitingFor}
use Rattle.protocol.specs.declared.State.{State}
use Rattle.protocol.proofs.Sound.Statements.{Grouped, Sound}
use Rattle.protocol.proofs.Sound.Begin.{accepted_grouped}
use Rattle.protocol.proofs.Jobs.Ranks.{ranks_apart}
use Rattle.protocol.proofs.Jobs.Modes.{rank_in_jobs, mode_active, mode_spin, mode_sleep, mode_absent}
use Rattle.protocol.proofs.Demands.Waiting.{chain, holder_stands}

no_more : (x : Standing) → standing_no x ≤ suspended
no_more Absent = omega arith
no_more Active = omega arith
no_more (WaitingFor (Short r)) = omega arith
no_more (WaitingFor (Long r)) = omega arith

module _ (s : State) where
  stand_most : (t : ℕ) → stand s t ≤ suspended
  unfolding stand
  stand_most t = no_more (task s t).standing

  -- the jobs that are runnable for the scheduler are those that are
  jobs_runnable : (t : ℕ) → t < most_tasks → is_runnable_job (jobs s.setup s) t ≡ is_runnable s t
  jobs_runnable t h = elim (ℕ_discrete (stand s t) absent) [
    | yes e ↦ rw (lt-leb preemptable (mode_of (jobs s.setup s) t) (omega (arith, mode_absent s.setup s t h e)), eq-eqb _ _ e)
    | no a ↦ elim (ℕ_discrete (stand s t) suspended) [
      | yes e ↦ rw (lt-leb preemptable (mode_of (jobs s.setup s) t) (omega (arith, mode_sleep s.setup s t h e)), eq-eqb _ _ e, ne_eqb _ _ a)
      | no b ↦ elim (ℕ_discrete (stand s t) spinning) [
        | yes e ↦ rw (le-leb preemptable (mode_of (jobs s.setup s) t) (omega (arith, mode_spin s.setup s t h e)), ne_eqb _ _ a, ne_eqb _ _ b)
        | no d ↦ rw (le-leb preemptable (mode_of (jobs s.setup s) t) (mode_active s.setup s t h (omega (arith, stand_most t))), ne_eqb _ _ a, ne_eqb _ _ b)
      ]
    ]
  ]

  jobs_ahead : (t u : ℕ) → t < most_tasks → u < most_tasks → is_ahead_job (jobs s.setup s) t u ≡ is_ahead s t u
  jobs_ahead t u h l = rw (jobs_runnable u l, rank_in_jobs s.setup s t h, rank_in_jobs s.setup s u l)

  -- the counting form, of the jobs that the scheduler is given and of the state
  counted : (m : ℕ) → s.processors.count ≡ m → Settled s.processors (jobs s.setup s) → Counted s.processors (jobs s.setup s) → LinksHighest s m
  counted m e S C = record {
    highest = λ t h.
        let many = how_many_same (is_ahead_job (jobs s.setup s) t) (is_ahead s t) most_tasks (λ u l. jobs_ahead t u h l) in (
          (λ x.
              let y = (C.highest t h).0 x in
              (sym (jobs_runnable t h) ∙ le-leb _ _ y.0.mode, omega (arith, many, y.1, e))),
          λ x. (C.highest t h).1 (record { task = h; mode = leb-true _ _ (jobs_runnable t h ∙ x.0) }, omega (arith, many, x.1, e)),
        );
    once = S.linked_once;
    many =
        let r = how_many_same (is_runnable_job (jobs s.setup s)) (is_runnable s) most_tasks jobs_runnable in
        omega (arith, C.many, r, e);
  }

  uncounted : (m : ℕ) → s.processors.count ≡ m → LinksHighest s m → Counted s.processors (jobs s.setup s)
  uncounted m e L = record {
    highest = λ t h.
        let many = how_many_same (is_ahead_job (jobs s.setup s) t) (is_ahead s t) most_tasks (λ u l. jobs_ahead t u h l) in (
          (λ x.
              let y = (L.highest t h).0 x in
              (record { task = h; mode = leb-true _ _ (jobs_runnable t h ∙ y.0) }, omega (arith, many, y.1, e))),
          λ x. (L.highest t h).1 (sym (jobs_runnable t h) ∙ le-leb _ _ x.0.mode, omega (arith, many, x.1, e)),
        );
    many =
        let r = how_many_same (is_runnable_job (jobs s.setup s)) (is_runnable s) most_tasks jobs_runnable in
        omega (arith, L.many, r, e);
  }

-- what row 9 asks of links and placements is what is settled, and linked jobs as demand 3 says
pub placed_demanded : PlacedAsDemanded
placed_demanded s Z e =
    let p = s.processors in
    let j = jobs s.setup s in (
      (λ t. let P = placed_of_test p j Z t in (P.settled, counted s _ e P.settled ((counted_law p j P.settled).0 P))),
      λ x. test_of_placed p j ((counted_law p j x.0).1 (uncounted s _ e x.1)),
    )

module _ (s : State) (Q : Sound s) where
  G : Grouped s.setup
  G = accepted_grouped s.setup Q.setup

  pub priorities_apart : PrioritiesApart s
  priorities_apart t u h l r q e =
      let a = simp tests at r in
      let b = simp tests at q in
      ranks_apart s.setup G s nobody Q.steady.locks t u h l a.1 b.1 e

  pub links_highest : LinksHighest s s.setup.processors
  links_highest =
      let P = Q.placed in
      counted s _ Q.count P.settled ((counted_law s.processors (jobs s.setup s) P.settled).0 P)

  pub one_holder : OneHolder s
  one_holder t u i k a b e =
      let L = Q.steady.locks in
      let h = ((L.tasks t).opened.held i a).1 in
      (sym h ∙ ap (holder s) e ∙ ((L.tasks u).opened.held k b).1, h)

  pub chains_end : ChainsEnd s
  chains_end =
      let links = chain s.setup G s Q.steady.locks in
      let ends : (t : ℕ) → Waiting s t → (u : ℕ) → holder s (group_of s.setup (asked s t)) ≡ u → (stand s u ≡ active) ⊎ ((v : ℕ) × WaitsFor s u v × (stand s v ≡ active)) = λ t w u e.
      subst (λ (h : ℕ). (stand s h ≡ active) ⊎ ((v : ℕ) × WaitsFor s h v × (stand s v ≡ active))) e
      (⊎_elim (λ y. inl y)
      (λ y. let z : Waiting s (holder s (group_of s.setup (asked s t))) = omega arith in inr (_, (z, (links _ z).0, refl), y.1)) (links t w).1) in
      record {
        one = λ t w. (holder s (group_of s.setup (asked s t)), (w, (links t w).0, refl), λ v x. sym x.2);
        two = λ t u x. ends t x.0 u x.2;
      }

  -- a short group's holder does not wait there
  not_both : (g t n : ℕ) → kind s.setup g ≡ short → t ≢ nobody → holder s g ≡ t → n < len s g → waiter s g n ≡ t → ⊥
  not_both g t n k d h l e =
      let q = ((Q.steady.locks.groups g).queued n l).0 in
      ⊎_elim (λ y. omega (arith, q, ap (stand s) (e ∙ sym h))) (λ y. omega (arith, y.1)) (holder_stands s.setup G s Q.steady.locks g (λ z. d (sym h ∙ z)))

  pub one_place : OnePlace s
  one_place g t zero zero k d x y = refl
  one_place g t zero (suc n) k d x y = absurd (not_both g t n k d x y.0 y.1)
  one_place g t (suc m) zero k d x y = absurd (not_both g t m k d y x.0 x.1)
  one_place g t (suc m) (suc n) k d x y = ap suc ((Q.steady.locks.groups g).once m n x.0 y.0 (x.1 ∙ sym y.1))
