-- Each rule as an equation, for the layers above, which open none of them. Assumes nothing.
use Prim.Native.Nat.{ℕ}
use mathlib.Core.Path.{◌≡◌, refl}
use mathlib.Core.Bool.{◌&&◌}
use native.Mathlib.Omega.{arith}
use lib.Dec.{ltb}
use Rattle.std.specs.Prelude.{if◌then◌else◌}
use Rattle.search.specs.First.{first}
use Rattle.numbers.specs.Limits.{most_processors, most_tasks, nobody}
use Rattle.processors.specs.Words.{link, run_of, is_higher, place_on, link_on}
use Rattle.processors.specs.declared.Jobs.{Jobs}
use Rattle.processors.specs.declared.Processors.{Processors}
use Rattle.scheduler.specs.Arriving.{is_free, lowest_free, lowest_linked, can_preempt, displacing, arriving_on, arriving}
use Rattle.scheduler.specs.Leaving.{awaited_else, becoming_preemptable, next_task, filling, refilling, leaving_from, leaving, giving_way}
use Rattle.scheduler.proofs.Finds.{taken_lowest}

module _ (p : Processors) where
  pub lowest_free_is : lowest_free p ≡ first (is_free p) 0 most_processors
  unfolding lowest_free
  lowest_free_is = refl

  pub becoming_preemptable_is : (t : ℕ) → becoming_preemptable p t ≡ (if ltb (run_of p t) most_processors then awaited_else p (run_of p t) p else p)
  unfolding becoming_preemptable
  becoming_preemptable_is t = refl

module _ (p : Processors) (j : Jobs) where
  pub displacing_is : (t k : ℕ) → displacing p j t k
      ≡ (if ltb k most_processors && is_higher j t (link p k) then if can_preempt p j k then place_on p k t else link_on p k t else p)
  unfolding displacing
  displacing_is t k = refl

  -- no processor is suggested
  pub arriving_is : (t : ℕ) → arriving p j t nobody ≡ (if ltb (lowest_free p) most_processors then place_on p (lowest_free p) t else displacing p j t (lowest_linked p j))
  unfolding arriving arriving_on
  arriving_is t = rw (taken_lowest p nobody (omega arith))

  pub refilling_is : (k : ℕ) → let u = next_task p j in let q = run_of p u in
      refilling p j k ≡ (if ltb u most_tasks then (if ltb q most_processors then place_on (link_on p q u) k (link p q) else place_on p k u) else p)
  unfolding refilling filling
  refilling_is k = refl

  pub leaving_is : (t : ℕ) → let k = run_of p t in leaving p j t ≡ (if ltb k most_processors then awaited_else p k (refilling (place_on p k nobody) j k) else p)
  unfolding leaving leaving_from
  leaving_is t = refl

  pub giving_way_is : (t : ℕ) → let u = next_task p j in giving_way p j t ≡ (if ltb u most_tasks && is_higher j u t then leaving p j t else p)
  unfolding giving_way
  giving_way_is t = refl
