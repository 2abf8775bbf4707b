use Rattle.std.proofs.Common.{◌≡◌, rules}
use Rattle.search.specs.Below.{all_below}
use Rattle.search.proofs.Chains.{all_in_range}
use Rattle.numbers.specs.Limits.{most_processors, most_tasks}
use Rattle.scheduler.specs.PlacedTest.{processor_holds, task_holds}
use Rattle.scheduler.proofs.Testing.{test_parts}
use Rattle.placement.proofs.placing.is_placed.Goals as goal

pub returns : goal.returns
returns c =
    let p = c.args.p in
    let j = c.args.jobs in
    let linked : c.all-linked.result ≡ all_below most_processors (processor_holds p j) = all_in_range c.all-linked.ensures.ran (λ x b q k. search rules) in
    let highest : c.all-highest.result ≡ all_below most_tasks (task_holds p j) = all_in_range c.all-highest.ensures.ran (λ x b q k. search rules) in
    rw (test_parts, linked, highest)
