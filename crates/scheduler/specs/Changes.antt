-- How the jobs change from one moment, j, to the next, j': what the laws of the moves are stated over.
use Rattle.std.specs.Prelude.{ℕ, ◌<◌, ◌≤◌, ◌≡◌, ◌≢◌, ◌⊎◌}
use Rattle.numbers.specs.Limits.{most_processors, most_tasks, nobody}
use Rattle.processors.specs.Modes.{preemptable, non_preemptable}
use Rattle.processors.specs.Words.{link, rank_of, mode_of}
use Rattle.scheduler.specs.Placed.{Runnable}
use Rattle.processors.specs.declared.Jobs.{Jobs}
use Rattle.processors.specs.declared.Processors.{Processors}

-- the ranks of runnable jobs are distinct
abbrev pub Apart : Jobs → Type 0
Apart j = (u v : ℕ) → Runnable j u → Runnable j v → rank_of j u ≡ rank_of j v → u ≡ v

-- the same jobs at the same ranks
pub record Alike (j j' : Jobs) : Type 0 where
  pub modes : (u : ℕ) → mode_of j' u ≡ mode_of j u
  pub ranks : (u : ℕ) → rank_of j' u ≡ rank_of j u

-- t, not runnable, becomes preemptable: it arrives or resumes
pub record Joins (j j' : Jobs) (t : ℕ) : Type 0 where
  pub task : t < most_tasks
  pub gone : Runnable j t → ⊥
  pub mode : mode_of j' t ≡ preemptable
  pub others : (u : ℕ) → u ≢ t → (rank_of j' u ≡ rank_of j u) × (mode_of j' u ≡ mode_of j u)
  pub apart : Apart j'

-- t, runnable, becomes non-preemptable
pub record BecomesNonPreemptable (j j' : Jobs) (t : ℕ) : Type 0 where
  pub runnable : preemptable ≤ mode_of j t
  pub mode : mode_of j' t ≡ non_preemptable
  pub others : (u : ℕ) → u ≢ t → mode_of j' u ≡ mode_of j u
  pub ranks : (u : ℕ) → rank_of j' u ≡ rank_of j u

-- t, runnable, becomes preemptable
pub record BecomesPreemptable (j j' : Jobs) (t : ℕ) : Type 0 where
  pub runnable : preemptable ≤ mode_of j t
  pub mode : mode_of j' t ≡ preemptable
  pub others : (u : ℕ) → u ≢ t → mode_of j' u ≡ mode_of j u
  pub ranks : (u : ℕ) → rank_of j' u ≡ rank_of j u

-- t is no longer runnable, and h takes t's priority where that is higher: h inherits, then t suspends
pub record Inherits (j j' : Jobs) (t h : ℕ) : Type 0 where
  pub gone : Runnable j' t → ⊥
  pub rank_falls : rank_of j' h ≤ rank_of j h
  pub by : (rank_of j' h ≡ rank_of j h) ⊎ (rank_of j' h ≡ rank_of j t)
  pub others : (u : ℕ) → u ≢ t → u ≢ h → rank_of j' u ≡ rank_of j u
  pub modes : (u : ℕ) → u ≢ t → mode_of j' u ≡ mode_of j u
  pub apart : Apart j'

-- t is no longer runnable: it finishes or suspends, and nobody inherits
pub record Leaves (j j' : Jobs) (t : ℕ) : Type 0 where
  pub gone : Runnable j' t → ⊥
  pub others : (u : ℕ) → u ≢ t → (rank_of j' u ≡ rank_of j u) × (mode_of j' u ≡ mode_of j u)
  pub apart : Apart j'

-- t's rank rises, as its own priority is restored
pub record Restores (j j' : Jobs) (t : ℕ) : Type 0 where
  pub rank_rises : rank_of j t ≤ rank_of j' t
  pub others : (u : ℕ) → u ≢ t → rank_of j' u ≡ rank_of j u
  pub modes : (u : ℕ) → mode_of j' u ≡ mode_of j u
  pub apart : Apart j'

-- k is an unlinked processor; or there is none, and k is no processor
pub record Chosen (p : Processors) (k : ℕ) : Type 0 where
  pub free : k < most_processors → (k < p.count) × (link p k ≡ nobody)
  pub none : most_processors ≤ k → (m : ℕ) → m < p.count → link p m ≢ nobody
