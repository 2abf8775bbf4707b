use Rattle.std.proofs.Common.{arith}
use Rattle.std.proofs.lemmas.Grind.{common_steps}
use Rattle.std.proofs.lemmas.Bool.Decides.{nat_tests}
use Rattle.scheduler.specs.Arriving.{arriving, arriving_on}
use Rattle.scheduler.proofs.arriving.arrive.Goals as goal

pub returns-then-taken-lt-LIMIT : goal.returns-then-taken-lt-LIMIT
unfolding arriving arriving_on
returns-then-taken-lt-LIMIT c = grind (arith, common_steps, nat_tests)

pub returns-else-taken-lt-LIMIT : goal.returns-else-taken-lt-LIMIT
unfolding arriving arriving_on
returns-else-taken-lt-LIMIT c = grind (arith, common_steps, nat_tests)
