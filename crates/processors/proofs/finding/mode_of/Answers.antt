use Rattle.std.proofs.Common.{◌∙◌, arith}
use Rattle.processors.specs.Words.{mode_of}
use Rattle.processors.proofs.Shared.{entry_below}
use Rattle.processors.proofs.finding.mode_of.Goals as goal

pub returns : goal.returns
unfolding mode_of
returns c = rw c.from.ensures at c.entry.ensures ∙ entry_below c.args.modes.now c.args.t _ _ (omega arith)
