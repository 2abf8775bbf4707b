-- `next_task` by a fold that keeps the best so far and ends where no task is left. Assumes nothing.
use Rattle.std.proofs.Common.{◌≡◌, ◌∙◌, ℕ, ◌+◌, ◌<◌, ◌≤◌, min, false, sym, rules, arith}
use Rattle.search.specs.Best.{better, best}
use Rattle.search.proofs.Bests.{best_turn, best_past}
use Rattle.search.proofs.Chains.{fold_in_range}
use Rattle.numbers.specs.Limits.{most_tasks}
use Rattle.processors.specs.Words.{first_jobs, rank_of, is_unlinked, is_higher}
use Rattle.processors.specs.declared.Jobs.{Jobs}
use Rattle.processors.specs.declared.Processors.{Processors}
use Rattle.processors.proofs.FirstTasks.{first_mode, past_mode}
use Rattle.scheduler.specs.Leaving.{next_task}
use Rattle.scheduler.proofs.leaving.next_task.Goals as goal

module _ (p : Processors) (j : Jobs) (n : ℕ) where
  -- the best of the tasks below t, of which the first n count
  abbrev best_below : ℕ → ℕ
  best_below t = best (is_unlinked p (first_jobs n j)) (is_higher j) most_tasks t

  -- a turn with all jobs is one with the first jobs
  turn : (t : ℕ) → t < n → better (is_unlinked p j) (is_higher j) most_tasks t (best_below t) ≡ best_below (t + 1)
  unfolding better
  turn t h = rw (best_turn, first_mode n j.ranks j.modes t h)

  past : (t : ℕ) → n ≤ t → is_unlinked p (first_jobs n j) t ≡ false
  past t h = rw (past_mode n j.ranks j.modes t h)

  all : best_below (min n most_tasks) ≡ next_task p (first_jobs n j)
  unfolding next_task rank_of
  all = sym (best_past _ _ most_tasks (min n most_tasks) most_tasks (omega arith) (λ k a b. past k (omega arith)))

pub returns : goal.returns
unfolding best
returns c =
    let p = c.args.p in
    let j = c.args.jobs.now in
    let n = c.args.tasks in
    let end : c.min-end.result ≡ min n most_tasks = search rules in
    fold_in_range (λ b t. better (is_unlinked p j) (is_higher j) most_tasks t b) (best_below p j n) c.fold.ensures.ran
    (λ b x y q k. search rules) (search rules) (λ t l. turn p j n t (omega arith)) ∙ rw end (all p j n)
