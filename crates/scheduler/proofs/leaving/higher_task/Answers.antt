use Rattle.std.proofs.Common.{arith}
use Rattle.std.proofs.lemmas.Grind.{common_steps}
use Rattle.std.proofs.lemmas.Bool.Decides.{nat_tests}
use Rattle.processors.specs.Words.{rank_of, mode_of}
use Rattle.search.specs.Best.{better}
use Rattle.scheduler.proofs.leaving.higher_task.Goals as goal

pub returns-then-not-is_unlinked : goal.returns-then-not-is_unlinked
unfolding better rank_of mode_of
returns-then-not-is_unlinked c = grind (arith, common_steps, nat_tests)

pub returns-then-is_higher : goal.returns-then-is_higher
unfolding better rank_of mode_of
returns-then-is_higher c = grind (arith, common_steps, nat_tests)

pub returns-else-is_higher : goal.returns-else-is_higher
unfolding better rank_of mode_of
returns-else-is_higher c = grind (arith, common_steps, nat_tests)
