-- `lowest_linked` by a fold that keeps the best so far. Assumes nothing.
use Rattle.std.proofs.Common.{rules, sym}
use Rattle.search.specs.Best.{better, best}
use Rattle.search.proofs.Bests.{best_turn}
use Rattle.search.proofs.Chains.{fold_in_range}
use Rattle.numbers.specs.Limits.{most_processors}
use Rattle.scheduler.specs.Arriving.{is_used, links_lower, lowest_linked}
use Rattle.scheduler.proofs.arriving.lowest_linked.Goals as goal

pub returns : goal.returns
unfolding lowest_linked best
returns c =
    let used = is_used c.args.p in
    let lower = links_lower c.args.p c.args.jobs.now in
    fold_in_range (λ b k. better used lower most_processors k b) (best used lower most_processors) c.fold.ensures.ran
    (λ b x y q k. search rules) (search rules) (λ k _. sym (best_turn used lower most_processors k))
