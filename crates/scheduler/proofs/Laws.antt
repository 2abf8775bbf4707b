-- The laws of links and placements, as the layers above cite them. Ranks are distinct where a law's change of jobs says so (`Apart`). Assumes nothing.
use Prim.Native.Nat.{ℕ, suc, ◌<◌, ◌≤◌}
use mathlib.Core.Path.{◌≡◌, refl, subst}
use mathlib.Core.Bool.{Bool, true, false, ◌&&◌}
use mathlib.Core.Logic.{◌≢◌, ◌⊎◌, inl, ◌↔◌}
use native.Mathlib.Omega.{arith}
use native.Mathlib.Decide.{dec_lt}
use lib.Dec.{ltb}
use Rattle.std.specs.Prelude.{if◌then◌else◌}
use Rattle.search.specs.Below.{how_many}
use Rattle.search.proofs.Tables.{replicate_at}
use Rattle.numbers.specs.Limits.{most_processors, most_tasks, nobody}
use Rattle.processors.specs.Modes.{preemptable, non_preemptable}
use Rattle.processors.specs.Words.{link, runs, link_of, run_of, mode_of, is_higher, is_ahead, is_awaited, none_linked, place_on}
use Rattle.scheduler.specs.Arriving.{lowest_linked, can_preempt, displacing, arriving_on, taken, arriving}
use Rattle.scheduler.specs.Leaving.{becoming_preemptable, next_task, filling, refilling, leaving_from, leaving, giving_way}
use Rattle.scheduler.specs.Placed.{Runnable, Sized, Settled, Counted, Placed, Served, LinkedOnly}
use Rattle.scheduler.specs.Changes.{Alike, Joins, BecomesNonPreemptable, BecomesPreemptable, Inherits, Leaves, Restores, Chosen}
use Rattle.processors.specs.declared.Jobs.{Jobs}
use Rattle.processors.specs.declared.Processors.{Processors}
use Rattle.scheduler.proofs.Finds.{link_here, link_somewhere, run_here, run_not_there, run_somewhere, taken_chosen}
use Rattle.scheduler.proofs.Coming.{coming_placed}
use Rattle.scheduler.proofs.Going.{raised_placed, gives_way_placed}
use Rattle.scheduler.proofs.Staying.{alike_placed, harden_placed, soften_placed}
use Rattle.scheduler.proofs.Counting.{linked_counted, linked_many, placed_counted}
use Rattle.scheduler.proofs.Waits.{coming_waits, soften_waits, going_waits, gives_way_waits}

-- ---- where a task is
pub runs_there : (p : Processors) (t : ℕ) → run_of p t < most_processors → runs p (run_of p t) ≡ t
runs_there p t h = run_here p t h

pub runs_nowhere : (p : Processors) (t : ℕ) → most_processors ≤ run_of p t → (k : ℕ) → k < most_processors → runs p k ≢ t
runs_nowhere p t h = run_not_there p t h

module _ (p : Processors) (Z : Sized p) (t : ℕ) (t_in : t < most_tasks) where
  pub linked_iff : (link_of p t < most_processors) ↔ ((k : ℕ) × (link p k ≡ t))
  linked_iff = ((λ h. (link_of p t, link_here p t h)), λ x. link_somewhere p t Z (λ e. omega arith) x.0 x.1)

  pub running_iff : (run_of p t < most_processors) ↔ ((k : ℕ) × (runs p k ≡ t))
  running_iff = ((λ h. (run_of p t, run_here p t h)), λ x. run_somewhere p t Z (λ e. omega arith) x.0 x.1)

-- ---- nobody linked and nobody runnable
pub none_placed : (count : ℕ) (j : Jobs) → count ≤ most_processors → ((t : ℕ) → Runnable j t → ⊥) → Placed (none_linked count) j
unfolding none_linked
none_placed count j h none = record {
  settled = record {
    sized = record { links = refl; runnings = refl };
    fits = h;
    linked_runnable = λ k d. absurd (d (replicate_at most_processors k nobody));
    linked_once = λ k m d q. absurd (d (replicate_at most_processors k nobody));
    unlinked_idle = λ k e. replicate_at most_processors k nobody;
    linked_busy = λ k d. absurd (d (replicate_at most_processors k nobody));
    running_runnable = λ k d. absurd (d (replicate_at most_processors k nobody));
    running_once = λ k m d q. absurd (d (replicate_at most_processors k nobody));
    running_linked = λ k m d q. absurd (d (replicate_at most_processors k nobody));
    preemptable_linked = λ k d q. absurd (d (replicate_at most_processors k nobody));
    nonpreemptable_runs = λ t l q. absurd (none t (record { task = l; mode = omega arith }));
    beyond = λ k l. (replicate_at most_processors k nobody, replicate_at most_processors k nobody);
  };
  highest = λ k t l r n. absurd (none t r);
}

module _ (p : Processors) (j j' : Jobs) (P : Placed p j) where
  -- ---- each move keeps `Placed`
  -- nothing changes
  pub alike_law : Alike j j' → Placed p j'
  alike_law A = alike_placed p j j' P A

  module _ (t : ℕ) where
    -- t arrives or resumes, on whichever unlinked processor
    pub arriving_on_law : Joins j j' t → (k : ℕ) → Chosen p k → Placed (arriving_on p j' t k) j'
    arriving_on_law J k C = coming_placed p j j' t P J k C

    -- whichever is suggested
    pub arriving_law : Joins j j' t → (k : ℕ) → Placed (arriving p j' t k) j'
    unfolding arriving
    arriving_law J k = coming_placed p j j' t P J (taken p k) (taken_chosen p P.settled.fits k)

    module _ (t_in : t < most_tasks) (on : run_of p t < most_processors) where
      -- t, running, becomes non-preemptable
      pub becoming_non_preemptable_law : BecomesNonPreemptable j j' t → Placed p j'
      becoming_non_preemptable_law H = harden_placed p j j' t P t_in on H

      -- t, running, becomes preemptable
      pub becoming_preemptable_law : BecomesPreemptable j j' t → Placed (becoming_preemptable p t) j'
      becoming_preemptable_law H = soften_placed p j j' t P t_in on H

      module _ (soft : mode_of j t ≡ preemptable) where
        -- t leaves, while h takes its rank or none does
        pub inheriting_law : (h : ℕ) → Inherits j j' t h → Placed (leaving p j' t) j'
        inheriting_law h L = raised_placed p j t P t_in on soft j' h L

        -- t leaves: as if another, any, had kept its rank
        pub leaving_law : Leaves j j' t → Placed (leaving p j' t) j'
        leaving_law L =
            let same = (L.others (suc t) (λ e. omega arith)).0 in
            inheriting_law (suc t)
            (record {
              gone = L.gone;
              rank_falls = omega arith;
              by = inl same;
              others = λ u d _. (L.others u d).0;
              modes = λ u d. (L.others u d).1;
              apart = L.apart;
            })

        -- t gives way after its own rank rose
        pub giving_way_law : Restores j j' t → Placed (giving_way p j' t) j'
        giving_way_law L = gives_way_placed p j t P t_in on soft j' L

-- ---- who is linked, runs, and must
-- the counting form of `Placed` and `Placed` say the same
pub counted_law : (p : Processors) (j : Jobs) → Settled p j → Placed p j ↔ Counted p j
counted_law p j S = ((λ P. record { highest = λ t l. linked_counted p j t P l; many = linked_many p j P }), λ C. placed_counted p j S C)

module _ (p : Processors) (j : Jobs) (P : Placed p j) (t : ℕ) (t_in : t < most_tasks) where
  -- linked exactly when runnable with fewer than `count` runnable tasks of lower rank
  pub linked_law : ((k : ℕ) × (link p k ≡ t)) ↔ (Runnable j t × (how_many (is_ahead j t) most_tasks < p.count))
  linked_law = linked_counted p j t P t_in

  pub running_runnable : run_of p t < most_processors → Runnable j t
  running_runnable on = subst (Runnable j) (run_here p t on) (P.settled.running_runnable (run_of p t) (λ e. omega (arith, run_here p t on)))

  pub nonpreemptable_running : mode_of j t ≡ non_preemptable → run_of p t < most_processors
  nonpreemptable_running e = (running_iff p P.settled.sized t t_in).1 (P.settled.nonpreemptable_runs t t_in e)

pub served_law : (p : Processors) (j : Jobs) → Placed p j → Served p j
served_law p j P = record {
  runnable = λ t l. running_runnable p j P t l;
  nonpreemptable = λ t l e.
      let there = runs_there p t (nonpreemptable_running p j P t l e) in
      (elim (dec_lt (run_of p t) p.count) [ yes y ↦ y | no y ↦ absurd (omega (arith, (P.settled.beyond (run_of p t) (omega arith)).1)) ], there);
}

-- ---- what the moves leave alone: who is linked but not running after a move was so before it, or is the one that arrived
module _ (p : Processors) (j : Jobs) (P : Placed p j) (t u : ℕ) (j' : Jobs) where
  pub arriving_on_waits : (k : ℕ) → LinkedOnly (arriving_on p j' t k) u → (u ≡ t) ⊎ LinkedOnly p u
  arriving_on_waits k X = coming_waits p j P t u j' k X

  pub arriving_waits : (k : ℕ) → LinkedOnly (arriving p j' t k) u → (u ≡ t) ⊎ LinkedOnly p u
  unfolding arriving
  arriving_waits k X = coming_waits p j P t u j' (taken p k) X

  pub becoming_preemptable_waits : LinkedOnly (becoming_preemptable p t) u → LinkedOnly p u
  becoming_preemptable_waits X = soften_waits p j P t u X

  pub leaving_waits : LinkedOnly (leaving p j' t) u → LinkedOnly p u
  leaving_waits X = going_waits p j P t u j' X

  pub giving_way_waits : LinkedOnly (giving_way p j' t) u → LinkedOnly p u
  giving_way_waits X = gives_way_waits p j P t u j' X

-- ---- and how many processors there are
if_count : (b : Bool) (p q : Processors) (n : ℕ) → p.count ≡ n → q.count ≡ n → (if b then p else q).count ≡ n
if_count true p q n e f = e
if_count false p q n e f = f

module _ (p : Processors) (j : Jobs) (t : ℕ) where
  pub arriving_on_count : (k : ℕ) → (arriving_on p j t k).count ≡ p.count
  unfolding arriving_on displacing
  arriving_on_count k =
      let l = lowest_linked p j in
      if_count (ltb k most_processors) _ _ _ refl (if_count (ltb l most_processors && is_higher j t (link p l)) _ _ _ (if_count (can_preempt p j l) _ _ _ refl refl) refl)

  pub arriving_count : (k : ℕ) → (arriving p j t k).count ≡ p.count
  unfolding arriving
  arriving_count k = arriving_on_count (taken p k)

  pub becoming_preemptable_count : (becoming_preemptable p t).count ≡ p.count
  unfolding becoming_preemptable
  becoming_preemptable_count = if_count (ltb (run_of p t) most_processors) _ _ _ (if_count (is_awaited p (run_of p t)) _ _ _ refl refl) refl

  refilling_count : (f : Processors) (k : ℕ) → (refilling f j k).count ≡ f.count
  unfolding refilling filling
  refilling_count f k = if_count (ltb (next_task f j) most_tasks) _ _ _ (if_count (ltb (run_of f (next_task f j)) most_processors) _ _ _ refl refl) refl

  pub leaving_count : (leaving p j t).count ≡ p.count
  unfolding leaving leaving_from
  leaving_count =
      let k = run_of p t in
      if_count (ltb k most_processors) _ _ _ (if_count (is_awaited p k) _ _ _ refl (refilling_count (place_on p k nobody) k)) refl

  pub giving_way_count : (giving_way p j t).count ≡ p.count
  unfolding giving_way
  giving_way_count = if_count (ltb (next_task p j) most_tasks && is_higher j (next_task p j) t) _ _ _ leaving_count refl
