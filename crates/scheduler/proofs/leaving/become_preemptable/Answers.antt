use Rattle.std.proofs.Common.{arith}
use Rattle.std.proofs.lemmas.Grind.{common_steps}
use Rattle.std.proofs.lemmas.Bool.Decides.{nat_tests}
use Rattle.scheduler.specs.Leaving.{becoming_preemptable}
use Rattle.scheduler.proofs.leaving.become_preemptable.Goals as goal

pub returns-then-is_awaited : goal.returns-then-is_awaited
unfolding becoming_preemptable
returns-then-is_awaited c = grind (arith, common_steps, nat_tests)

pub returns-else-k-lt-LIMIT : goal.returns-else-k-lt-LIMIT
unfolding becoming_preemptable
returns-else-k-lt-LIMIT c = grind (arith, common_steps, nat_tests)
