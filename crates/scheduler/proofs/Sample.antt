-- `Placed` is not empty: two processors, task 0 runs linked on processor 0; task 1 runs non-preemptably on processor 1, whose link
-- the higher task 2 has; task 3 is ready. Task 2 is linked but not running. Assumes nothing.
use Prim.Native.Nat.{◌≤◌}
use native.Mathlib.Nat.{le_refl}
use native.Mathlib.Omega.{arith}
use mathlib.Core.Path.{◌≡◌, refl}
use mathlib.Core.List.{◌∷◌}
use lib.ListN.{replicate}
use mathlib.Core.Bool.{true}
use Rattle.search.specs.Below.{all_below}
use Rattle.search.specs.First.{first}
use Rattle.numbers.specs.Limits.{nobody}
use Rattle.processors.specs.Modes.{off, preemptable, non_preemptable}
use Rattle.processors.specs.Words.{rank_of, mode_of, link_of, run_of}
use Rattle.scheduler.specs.Placed.{Placed, LinkedOnly}
use Rattle.scheduler.specs.PlacedTest.{is_placed}
use Rattle.processors.specs.declared.Jobs.{Jobs}
use Rattle.processors.specs.declared.Processors.{Processors}
use Rattle.scheduler.proofs.Finds.{run_nowhere}
use Rattle.scheduler.proofs.Testing.{placed_of_test}

pub sample : Processors
sample = record { count = 2; linked = 0 ∷ 2 ∷ replicate 6 nobody; running = 0 ∷ 1 ∷ replicate 6 nobody }

pub sample_jobs : Jobs
sample_jobs = record {
  ranks = 100 ∷ 300 ∷ 200 ∷ 400 ∷ replicate 28 0;
  modes = preemptable ∷ non_preemptable ∷ preemptable ∷ preemptable ∷ replicate 28 off;
}

sample_test : is_placed sample sample_jobs ≡ true
unfolding sample sample_jobs is_placed link_of run_of rank_of mode_of first all_below
sample_test = refl

pub sample_placed : Placed sample sample_jobs
unfolding sample
sample_placed = placed_of_test sample sample_jobs (record { links = refl; runnings = refl }) sample_test

nowhere : 8 ≤ run_of sample 2
unfolding sample run_of first
nowhere = le_refl 8

pub sample_waits : LinkedOnly sample 2
unfolding sample
sample_waits = record { task = omega arith; linked = (1, refl); waits = run_nowhere sample 2 sample_placed.settled.sized (λ e. omega arith) nowhere }
