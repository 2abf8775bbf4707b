use Rattle.std.proofs.Common.{rules}
use Rattle.protocol.specs.Words.{holder, len, waiter}
use Rattle.protocol.specs.Sound.{group_sound}
use Rattle.soundness.proofs.named.Named.group_holds.Goals as goal

pub returns-then-holder-2 : goal.returns-then-holder-2
unfolding group_sound holder len waiter
returns-then-holder-2 c = search rules

pub returns-else-holder-2 : goal.returns-else-holder-2
unfolding group_sound holder len waiter
returns-else-holder-2 c = search rules

pub returns-else-all_in_place : goal.returns-else-all_in_place
unfolding group_sound holder len waiter
returns-else-all_in_place c = search rules
