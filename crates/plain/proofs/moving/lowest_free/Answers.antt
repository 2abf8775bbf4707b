-- The first processor that is unlinked. Assumes nothing.
use mathlib.Core.Path.{sym, ◌∙◌}
use borrow.Author.Rules.{rules}
use Rattle.search.proofs.Chains.{find_in_range}
use Rattle.scheduler.proofs.Equations.{lowest_free_is}
use Rattle.plain.proofs.moving.lowest_free.Goals as goal

pub returns : goal.returns
returns c = c.unwrap_or.ensures ∙ find_in_range _ _ c.find.ensures.ran (λ x b q k. search rules) ∙ sym (lowest_free_is _)
