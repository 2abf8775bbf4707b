use Rattle.std.proofs.Common.{arith}
use Rattle.std.proofs.lemmas.Grind.{common_steps}
use Rattle.std.proofs.lemmas.Bool.Decides.{nat_tests}
use Rattle.processors.specs.Words.{rank_of, mode_of}
use Rattle.scheduler.specs.Arriving.{displacing}
use Rattle.scheduler.proofs.arriving.displace.Goals as goal

pub returns-then-not-is_higher : goal.returns-then-not-is_higher
unfolding displacing rank_of mode_of
returns-then-not-is_higher c = grind (arith, common_steps, nat_tests)

pub returns-then-can_preempt : goal.returns-then-can_preempt
unfolding displacing rank_of mode_of
returns-then-can_preempt c = grind (arith, common_steps, nat_tests)

pub returns-else-can_preempt : goal.returns-else-can_preempt
unfolding displacing rank_of mode_of
returns-else-can_preempt c = grind (arith, common_steps, nat_tests)
