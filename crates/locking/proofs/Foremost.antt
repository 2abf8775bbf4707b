-- Which suspended jobs are foremost, from the tables that are kept of a state. Assumes nothing.
use Rattle.std.proofs.Common.{◌≡◌, ℕ, ◌<◌, ◌≤◌, Bool, true, false, ltb, ◌≢◌, List, get_or, refl, ap, ◌∙◌, arith, eq-eqb, ne_eqb, le-leb}
use native.Mathlib.Decide.{ℕ_discrete}
use Rattle.std.specs.Prelude.{if◌then◌else◌}
use Rattle.search.specs.Words.{◌is◌}
use Rattle.search.specs.Below.{how_many}
use Rattle.search.specs.Table.{table}
use Rattle.search.proofs.Pigeons.{how_many_same, how_many_past}
use Rattle.search.proofs.Tables.{table_at}
use Rattle.processors.specs.Words.{link_of, run_of}
use Rattle.processors.specs.declared.Processors.{Processors}
use Rattle.numbers.specs.Limits.{most_processors, most_tasks}
use Rattle.protocol.specs.Words.{absent, spinning, suspended, stand, deadline, task}
use Rattle.protocol.specs.Ranks.{own}
use Rattle.protocol.specs.Situations.{situation_of, situation, outranks, is_foremost, total_of, total_for}
use Rattle.protocol.specs.declared.Situation.{Situation}
use Rattle.protocol.specs.declared.Situation.TheVariants.{NoJob, Running, Spinning, LinkedOnly, Ready}
use Rattle.protocol.specs.declared.State.{State}
use Rattle.priorities.specs.Bounds.{is_bounded, rank_by}
use Rattle.priorities.proofs.Bounding.{deadline_bounded}
use Rattle.locking.specs.Ranking.{ahead_of, Ranked}
use Rattle.locking.specs.Totals.{total_with}

-- for a job that is not suspended it does not matter
awake_total : (a t : ℕ) (p : Processors) (foremost other : Bool) → a ≢ suspended
    → total_of (situation_of a p t) foremost ≡ total_of (situation_of a p t) other
awake_total a t p foremost other h = rw (ne_eqb a suspended h)
    (go (a is absent) (ltb (run_of p t) most_processors) (a is spinning) (ltb (link_of p t) most_processors))
  where
    awake : (b c d e : Bool) → Situation
    awake b c d e =
        if b then NoJob else if c then (if d then Spinning else Running) else if e then LinkedOnly else Ready

    go : (b c d e : Bool) → total_of (awake b c d e) foremost ≡ total_of (awake b c d e) other
    go true c d e = refl
    go false true true e = refl
    go false true false e = refl
    go false false d true = refl
    go false false d false = refl

module _ (s : State) (stands ranks : List ℕ) (m : ℕ) (stood : stands ≡ table (stand s) most_tasks)
    (ranked : ranks ≡ table (λ t. rank_by (task s t).deadline t) most_tasks)
    (bounded : is_bounded s ≡ true) (few : m ≤ most_tasks)
    (quiet : (t : ℕ) → m ≤ t → t < most_tasks → stand s t ≡ absent) where
  stand_at : (t : ℕ) → t < most_tasks → get_or stands t absent ≡ stand s t
  stand_at t h = ap (λ (l : List ℕ). get_or l t absent) stood ∙ table_at (stand s) most_tasks t absent h

  rank_at : (t : ℕ) → t < most_tasks → get_or ranks t 0 ≡ own s t
  unfolding own deadline
  rank_at t h =
      ap (λ (l : List ℕ). get_or l t 0) ranked
      ∙ table_at (λ t. rank_by (task s t).deadline t) most_tasks t 0 h
      ∙ rw (le-leb _ _ (deadline_bounded s bounded t h))

  -- the tasks past m have no job, and outrank nobody
  ahead_ruled : (t : ℕ) → t < most_tasks → ahead_of stands ranks m t ≡ how_many (λ u. outranks s u t) most_tasks
  ahead_ruled t h =
      how_many_same _ (λ u. outranks s u t) m
      (λ u g. rw (stand_at u (omega arith), rank_at u (omega arith), rank_at t h))
      ∙ how_many_past (λ u. outranks s u t) m most_tasks few (λ u a b. rw (eq-eqb (stand s u) absent (quiet u a b)))

  pub total_ruled : (ahead : List ℕ) → Ranked stands ranks m ahead → s.processors.count ≡ s.setup.processors
      → (t : ℕ) → t < m → total_for s t ≡ total_with stands ahead s.processors t
  unfolding total_for situation is_foremost
  total_ruled ahead R count t h =
      let inside : t < most_tasks = omega arith in
      elim (ℕ_discrete (stand s t) suspended) [
        | yes e ↦ rw (stand_at t inside, R.at t h (stand_at t inside ∙ e), ahead_ruled t inside, count)
        | no d ↦ rw (stand_at t inside) (awake_total (stand s t) t s.processors _ _ d)
      ]
