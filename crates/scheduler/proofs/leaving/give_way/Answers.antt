use Rattle.std.proofs.Common.{arith}
use Rattle.std.proofs.lemmas.Grind.{common_steps}
use Rattle.std.proofs.lemmas.Bool.Decides.{nat_tests}
use Rattle.processors.specs.Words.{rank_of}
use Rattle.scheduler.specs.Leaving.{giving_way}
use Rattle.scheduler.proofs.leaving.give_way.Goals as goal

pub returns-then-is_higher : goal.returns-then-is_higher
unfolding giving_way rank_of
returns-then-is_higher c = grind (arith, common_steps, nat_tests)

pub returns-else-u-lt-END : goal.returns-else-u-lt-END
unfolding giving_way rank_of
returns-else-u-lt-END c = grind (arith, common_steps, nat_tests)
