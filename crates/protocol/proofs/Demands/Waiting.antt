-- What the locks promise in any state that holds: chains of waiting, and how many stand at a short group. Assumes nothing.
use Prim.Native.Nat.{ℕ, ◌<◌, ◌≤◌}
use mathlib.Core.Path.{◌≡◌, sym, ap, ◌∙◌}
use mathlib.Core.Logic.{◌≢◌, ◌⊎◌, inl, inr, ⊎_elim}
use native.Mathlib.Omega.{arith}
use native.Mathlib.Decide.{ℕ_discrete, dec_lt}
use Rattle.search.proofs.Pigeons.{fewer}
use Rattle.processors.specs.Words.{runs, run_of}
use Rattle.scheduler.specs.Placed.{Served}
use Rattle.numbers.specs.Limits.{most_tasks, nobody}
use Rattle.input.specs.Kinds.{short, long}
use Rattle.input.specs.Words.{kind}
use Rattle.setups.specs.Naming.{group_of}
use Rattle.input.specs.declared.Setup.{Setup}
use Rattle.protocol.specs.Words.{active, spinning, suspended, stand, asked, request, holder, len, waiter}
use Rattle.protocol.specs.Ranks.{jobs}
use Rattle.protocol.specs.declared.State.{State}
use Rattle.protocol.proofs.Sound.Statements.{Grouped, Locks, Steady}
use Rattle.protocol.proofs.Edits.Locks.{pending_in}
use Rattle.protocol.proofs.Jobs.Ranks.{held_in}
use Rattle.protocol.proofs.Jobs.Modes.{short_true, mode_hard, mode_spin}

module _ (c : Setup) (G : Grouped c) (s : State) (L : Locks c s) where
  -- who has a request open of the group's kind is active, or spins while the group is long
  pub holder_stands : (g : ℕ) → holder s g ≢ nobody → (stand s (holder s g) ≡ active) ⊎ ((stand s (holder s g) ≡ spinning) × (kind c g ≡ long))
  holder_stands g h =
      let k = (L.groups g).held h in
      let T = L.tasks (holder s g) in
      let r = T.opened.held k.0 k.1 in
      let kg : kind c (request s (holder s g) k.0) ≡ kind c g = sym (G.alike _ r.0) ∙ ap (kind c) k.2 in
      elim (dec_lt (stand s (holder s g)) 2) [
        | yes y ↦ inl (elim (ℕ_discrete (stand s (holder s g)) 0) [ yes z ↦ absurd (omega (arith, T.none z, k.1)) | no z ↦ omega arith ])
        | no y ↦
            let W = T.waits (omega arith) in
            let a = W.apart k.0 k.1 in
            let n : stand s (holder s g) ≢ suspended = λ z. omega (arith, W.asleep z, k.1) in
            let w : kind c (asked s (holder s g)) ≡ short = omega (arith, W.kinds, G.kinds _ W.inside) in
            inr (omega (arith, W.kinds), omega (arith, kg, a, G.kinds _ r.0))
      ]

  -- a waiting job waits for its group's holder, and a chain has two links at most
  pub chain : (t : ℕ) → spinning ≤ stand s t → (holder s (group_of c (asked s t)) ≢ nobody)
      × ((stand s (holder s (group_of c (asked s t))) ≡ active)
      ⊎ ((stand s (holder s (group_of c (asked s t))) ≡ spinning) × (stand s (holder s (group_of c (asked s (holder s (group_of c (asked s t)))))) ≡ 1)))
  chain t h =
      let held : (u : ℕ) → spinning ≤ stand s u → holder s (group_of c (asked s u)) ≢ nobody = λ u l e.
      let W = (L.tasks u).waits l in
      omega (arith, W.place.1, G.low _ W.inside, G.few_resources, (L.groups (group_of c (asked s u))).only_held (λ z. omega (arith, G.low _ W.inside, G.few_resources)) e) in (
        held t h,
        ⊎_elim (λ y. inl y) (λ y.
            let o = holder s (group_of c (asked s t)) in
            let W = (L.tasks o).waits (omega (arith, y.0)) in
            let k : kind c (group_of c (asked s o)) ≡ short = G.alike _ W.inside ∙ omega (arith, W.kinds, y.0) in
            inr (y.0, ⊎_elim (λ z. z) (λ z. absurd (omega (arith, z.1, k))) (holder_stands (group_of c (asked s o)) (held o (omega (arith, y.0)))))) (holder_stands (group_of c (asked s t)) (held t h)),
      )

module _ (c : Setup) (G : Grouped c) (s : State) (S : Steady c s) (X : Served s.processors (jobs c s)) (g : ℕ) (is-short : kind c g ≡ short) (busy : holder s g ≢ nobody) where
  -- a non-preemptable job runs on one of the processors
  abbrev Runs : ℕ → Type 0
  Runs t = (run_of s.processors t < s.processors.count) × (runs s.processors (run_of s.processors t) ≡ t)

  holder_runs : Runs (holder s g)
  holder_runs =
      let L = S.locks in
      let k = (L.groups g).held busy in
      let r = (L.tasks (holder s g)).opened.held k.0 k.1 in
      let l : holder s g < most_tasks = omega (arith, G.few_tasks, (held_in c G s nobody L g busy).1) in
      ⊎_elim
      (λ z. X.nonpreemptable (holder s g) l (mode_hard c s (holder s g) l z (short_true c s (holder s g) k.0 k.1 (sym (G.alike _ r.0) ∙ ap (kind c) k.2 ∙ is-short))))
      (λ z. absurd (omega (arith, z.1))) (holder_stands c G s L g busy)

  waiter_runs : (i : ℕ) → i < len s g → Runs (waiter s g i)
  waiter_runs i l =
      let q = (S.locks.groups g).queued i l in
      let W = (S.locks.tasks (waiter s g i)).waits q.0 in
      let b = pending_in c G s nobody (waiter s g i) S.locks (λ e. omega (arith, q.0)) in
      X.nonpreemptable (waiter s g i) b (mode_spin c s (waiter s g i) b (omega (arith, W.kinds, G.alike _ W.inside, ap (kind c) q.1)))

  -- the holder does not wait where it holds
  not_both : (i : ℕ) → i < len s g → waiter s g i ≢ holder s g
  not_both i l e =
      let q = (S.locks.groups g).queued i l in
      ⊎_elim (λ z. omega (arith, q.0, ap (stand s) e)) (λ z. omega (arith, z.1)) (holder_stands c G s S.locks g busy)

  -- who is on one processor is one
  apart : (t u : ℕ) → Runs t → Runs u → run_of s.processors t ≡ run_of s.processors u → t ≡ u
  apart t u a b e = sym a.1 ∙ ap (runs s.processors) e ∙ b.1

  -- each who waits runs on a processor of its own, and so does the holder
  pub few_at_short : len s g < s.processors.count
  few_at_short = fewer (len s g) s.processors.count (run_of s.processors (holder s g)) (λ i. run_of s.processors (waiter s g i)) holder_runs.0
      (λ i l. ((waiter_runs i l).0, λ e. not_both i l (apart _ _ (waiter_runs i l) holder_runs e)))
      (λ i k l m e. (S.locks.groups g).once i k l m (apart _ _ (waiter_runs i l) (waiter_runs k m) e))
