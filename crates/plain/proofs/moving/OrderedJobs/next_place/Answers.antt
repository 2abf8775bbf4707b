-- The first place that passes. Assumes nothing.
use mathlib.Core.Path.{◌∙◌}
use borrow.Author.Rules.{rules}
use Rattle.search.proofs.Chains.{find_in_range}
use Rattle.plain.proofs.moving.OrderedJobs.next_place.Goals as goal

pub returns : goal.returns
returns c = c.unwrap_or.ensures ∙ find_in_range _ _ c.find.ensures.ran (λ x b q k. search rules)
