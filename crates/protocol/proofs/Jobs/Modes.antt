-- What the scheduler is given: the mode and the rank of each task's job. Assumes nothing.
use Prim.Native.Nat.{ℕ, zero, suc, ◌<◌, ◌≤◌}
use mathlib.Core.Path.{◌≡◌, refl, sym, ◌∙◌}
use mathlib.Core.Logic.{◌≢◌, ◌⊎◌, inl, inr, ⊎_elim, ◌↔◌}
use mathlib.Core.Bool.{Bool, true, false}
use native.Mathlib.Omega.{arith}
use native.Mathlib.Decide.{dec_lt}
use Rattle.search.proofs.Tests.{tests, never}
use borrow.Author.Tests.{lt-ltb, le-ltb}
use Rattle.search.proofs.Tables.{table_at}
use Rattle.processors.specs.Modes.{preemptable, non_preemptable, off}
use Rattle.processors.specs.Words.{rank_of, mode_of}
use Rattle.scheduler.specs.Changes.{Apart}
use Rattle.numbers.specs.Limits.{most_tasks}
use Rattle.input.specs.Kinds.{short}
use Rattle.input.specs.Words.{kind}
use Rattle.input.specs.declared.Setup.{Setup}
use Rattle.protocol.specs.Words.{absent, active, spinning, suspended, task, stand, depth, request, standing_no}
use Rattle.protocol.specs.Ranks.{effective, short_open, mode_for, jobs}
use Rattle.protocol.specs.declared.State.{State}
use Rattle.protocol.specs.declared.Standing.{Standing}
use Rattle.protocol.specs.declared.Standing.TheVariants.{Absent, Active, Waiting}
use Rattle.protocol.specs.declared.Lock.TheVariants.{Short, Long}
use Rattle.protocol.proofs.Sound.Statements.{Grouped, LocksBut, SameTask}
use Rattle.protocol.proofs.Jobs.Ranks.{ranks_apart}

-- ---- a short request is open
module _ (c : Setup) (s : State) (t : ℕ) where
  short_iff : (short_open c s t ≡ true) ↔ ((i : ℕ) × (i < depth s t) × (kind c (request s t i) ≡ short))
  unfolding short_open
  short_iff = ((λ h. simp tests at h), λ x. simp tests x)

  pub short_true : (i : ℕ) → i < depth s t → kind c (request s t i) ≡ short → short_open c s t ≡ true
  short_true i h e = short_iff.1 (i, h, e)

  pub short_none : ((i : ℕ) → i < depth s t → kind c (request s t i) ≢ short) → short_open c s t ≡ false
  unfolding short_open
  short_none h = simp tests h

-- whether a short is open turns on the open requests' kinds alone
pub short_same : (c : Setup) (s s' : State) (u : ℕ)
    → ((i : ℕ) → i < depth s u → kind c (request s u i) ≡ short → (k : ℕ) × (k < depth s' u) × (kind c (request s' u k) ≡ short))
    → ((i : ℕ) → i < depth s' u → kind c (request s' u i) ≡ short → (k : ℕ) × (k < depth s u) × (kind c (request s u k) ≡ short))
    → short_open c s' u ≡ short_open c s u
short_same c s s' u to from = go (short_open c s u) refl
  where
    go : (b : Bool) → short_open c s u ≡ b → short_open c s' u ≡ short_open c s u
    go true q = let r = (short_iff c s u).0 q in (short_iff c s' u).1 (to r.0 r.1 r.2) ∙ sym q
    go false q = short_none c s' u (λ i h z. never q ((short_iff c s u).1 (from i h z))) ∙ sym q

-- ---- modes
pub mode_no : ℕ → Bool → ℕ
mode_no zero b = off
mode_no (suc zero) true = non_preemptable
mode_no (suc zero) false = preemptable
mode_no (suc (suc zero)) b = non_preemptable
mode_no (suc (suc (suc n))) b = off

mode_number : (x : Standing) (b : Bool) → mode_for x b ≡ mode_no (standing_no x) b
unfolding mode_no
mode_number Absent b = refl
mode_number Active true = refl
mode_number Active false = refl
mode_number (Waiting (Short r)) b = refl
mode_number (Waiting (Long r)) b = refl

mode_on : (n : ℕ) (b : Bool) → preemptable ≤ mode_no n b → (n ≡ active) ⊎ (n ≡ spinning)
unfolding mode_no
mode_on zero b h = absurd (omega arith)
mode_on (suc zero) b h = inl refl
mode_on (suc (suc zero)) b h = inr refl
mode_on (suc (suc (suc n))) b h = absurd (omega arith)

module _ (c : Setup) (s : State) where
  pub rank_in_jobs : (t : ℕ) → t < most_tasks → rank_of (jobs c s) t ≡ effective c s t
  unfolding rank_of jobs
  rank_in_jobs t h = rw (lt-ltb t most_tasks h) (table_at _ most_tasks t 0 h)

  pub rank_out : (t : ℕ) → most_tasks ≤ t → rank_of (jobs c s) t ≡ 0
  unfolding rank_of jobs
  rank_out t h = rw (le-ltb t most_tasks h)

  pub mode_in_jobs : (t : ℕ) → t < most_tasks → mode_of (jobs c s) t ≡ mode_no (stand s t) (short_open c s t)
  unfolding mode_of jobs stand
  mode_in_jobs t h = rw (lt-ltb t most_tasks h) (table_at _ most_tasks t off h) ∙ mode_number (task s t).standing (short_open c s t)

  pub mode_out : (t : ℕ) → most_tasks ≤ t → mode_of (jobs c s) t ≡ off
  unfolding mode_of jobs
  mode_out t h = rw (le-ltb t most_tasks h)

  -- what a mode says of the standing, and the standing of the mode
  pub mode_runs : (t : ℕ) → preemptable ≤ mode_of (jobs c s) t → (t < most_tasks) × ((stand s t ≡ active) ⊎ (stand s t ≡ spinning))
  mode_runs t h = elim (dec_lt t most_tasks) [
    | yes y ↦ (y, mode_on (stand s t) (short_open c s t) (omega (arith, mode_in_jobs t y)))
    | no y ↦ absurd (omega (arith, mode_out t (omega arith)))
  ]

  module _ (t : ℕ) (l : t < most_tasks) where
    pub mode_soft : stand s t ≡ active → short_open c s t ≡ false → mode_of (jobs c s) t ≡ preemptable
    unfolding mode_no
    mode_soft e q = mode_in_jobs t l ∙ rw (e, q)

    pub mode_hard : stand s t ≡ active → short_open c s t ≡ true → mode_of (jobs c s) t ≡ non_preemptable
    unfolding mode_no
    mode_hard e q = mode_in_jobs t l ∙ rw (e, q)

    pub mode_active : stand s t ≡ active → preemptable ≤ mode_of (jobs c s) t
    mode_active e = go (short_open c s t) refl
      where
        go : (b : Bool) → short_open c s t ≡ b → preemptable ≤ mode_of (jobs c s) t
        go true q = omega (arith, mode_hard e q)
        go false q = omega (arith, mode_soft e q)

    pub mode_spin : stand s t ≡ spinning → mode_of (jobs c s) t ≡ non_preemptable
    unfolding mode_no
    mode_spin e = mode_in_jobs t l ∙ rw e

    pub mode_sleep : stand s t ≡ suspended → mode_of (jobs c s) t ≡ off
    unfolding mode_no
    mode_sleep e = mode_in_jobs t l ∙ rw e

    pub mode_absent : stand s t ≡ absent → mode_of (jobs c s) t ≡ off
    unfolding mode_no
    mode_absent e = mode_in_jobs t l ∙ rw e

-- the same standing and the same test give the same mode
pub mode_same : (c : Setup) (s s' : State) (u : ℕ) → stand s' u ≡ stand s u → short_open c s' u ≡ short_open c s u → mode_of (jobs c s') u ≡ mode_of (jobs c s) u
mode_same c s s' u e q = elim (dec_lt u most_tasks) [
  | yes y ↦ mode_in_jobs c s' u y ∙ rw (e, q) (sym (mode_in_jobs c s u y))
  | no y ↦ mode_out c s' u (omega arith) ∙ sym (mode_out c s u (omega arith))
]

pub mode_kept : (c : Setup) (s s' : State) (u : ℕ) → SameTask s s' u → mode_of (jobs c s') u ≡ mode_of (jobs c s) u
mode_kept c s s' u E = mode_same c s s' u E.stood (short_same c s s' u
    (λ i h q. (i, omega (arith, E.deep), rw (E.requested i) q)) (λ i h q. (i, omega (arith, E.deep), rw (E.requested i) at q)))

pub rank_kept : (c : Setup) (s s' : State) (u : ℕ) → (u < most_tasks → effective c s' u ≡ effective c s u) → rank_of (jobs c s') u ≡ rank_of (jobs c s) u
rank_kept c s s' u h = elim (dec_lt u most_tasks) [
  | yes y ↦ rank_in_jobs c s' u y ∙ h y ∙ sym (rank_in_jobs c s u y)
  | no y ↦ rank_out c s' u (omega arith) ∙ sym (rank_out c s u (omega arith))
]

-- the ranks of runnable jobs are apart
pub jobs_apart : (c : Setup) → Grouped c → (s : State) (x : ℕ) → LocksBut c s x → Apart (jobs c s)
jobs_apart c G s x L u v ru rv e =
    let a = mode_runs c s u ru.mode in
    let b = mode_runs c s v rv.mode in
    ranks_apart c G s x L u v a.0 b.0
    (λ z. ⊎_elim (λ y. omega arith) (λ y. omega arith) a.1) (λ z. ⊎_elim (λ y. omega arith) (λ y. omega arith) b.1)
    (sym (rank_in_jobs c s u a.0) ∙ e ∙ rank_in_jobs c s v b.0)
