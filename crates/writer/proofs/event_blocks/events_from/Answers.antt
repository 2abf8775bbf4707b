-- `events_from` meets its contract. Assumes nothing.
use Rattle.std.proofs.Common.{rules}
use Rattle.search.proofs.Chains.{made_table}
use Rattle.input.specs.Layout.{event_in}
use Rattle.writer.specs.EventBlocks.{events_read}
use Rattle.writer.proofs.event_blocks.events_from.Goals as goal

pub returns : goal.returns
unfolding events_read
returns c = rw (made_table {h = event_in c.args.part.now} c.from_fn.ensures.items (λ i e q k. search rules), c.event_count.ensures)
