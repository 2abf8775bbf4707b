-- `setup_payload` meets its contract. Assumes nothing.
use Rattle.std.proofs.Common.{rules}
use Rattle.search.proofs.Chains.{made_table}
use Rattle.writer.specs.SetupBlocks.{setup_payload}
use Rattle.writer.proofs.setup_blocks.setup_payload.Goals as goal

pub returns : goal.returns
unfolding setup_payload
returns c = made_table c.from_fn.ensures.items (λ i b q k. search rules)
