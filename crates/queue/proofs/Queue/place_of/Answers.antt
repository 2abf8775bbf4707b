-- `Queue::place_of` meets its contract. Assumes nothing.
use Rattle.std.proofs.Common.{rules, ◌∙◌}
use Rattle.search.proofs.Chains.{find_in_range}
use Rattle.queue.specs.Waiting.{place_of}
use Rattle.queue.proofs.Queue.place_of.Goals as goal

pub returns : goal.returns
unfolding place_of
returns c = c.unwrap_or.ensures ∙ find_in_range _ _ c.find.ensures.ran (λ x b q k. search rules)
