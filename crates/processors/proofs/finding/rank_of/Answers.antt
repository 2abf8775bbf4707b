use Rattle.std.proofs.Common.{◌∙◌, arith}
use Rattle.processors.specs.Words.{rank_of}
use Rattle.processors.proofs.Shared.{entry_below}
use Rattle.processors.proofs.finding.rank_of.Goals as goal

pub returns : goal.returns
unfolding rank_of
returns c = rw c.from.ensures at c.entry.ensures ∙ entry_below c.args.ranks.now c.args.t _ _ (omega arith)
