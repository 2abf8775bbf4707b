use Rattle.std.proofs.Common.{◌≡◌, arith, rules}
use Rattle.std.proofs.lemmas.Grind.{common_steps}
use Rattle.std.proofs.lemmas.Bool.Decides.{nat_tests}
use Rattle.search.specs.Below.{all_below}
use Rattle.search.proofs.Chains.{all_in_range}
use Rattle.numbers.specs.Limits.{most_processors}
use Rattle.processors.specs.Words.{mode_of}
use Rattle.scheduler.specs.PlacedTest.{links_higher}
use Rattle.placement.proofs.placing.task_holds.Goals as goal
use Rattle.placement.proofs.placing.task_holds.Goals.{then-not-is_unlinked, else-not-is_unlinked}

pub returns : goal.returns
unfolding mode_of
returns c = elim c.if-not-is_unlinked.branch [
  | then-not-is_unlinked w ↦ grind (arith, common_steps, nat_tests)
  | else-not-is_unlinked w ↦
      let a = c.args in
      let all : w.all-below.result ≡ all_below most_processors (links_higher a.p a.jobs.now a.t) = all_in_range w.all-below.ensures.ran (λ x b q k. search rules) in
      grind (arith, common_steps, nat_tests)
]
