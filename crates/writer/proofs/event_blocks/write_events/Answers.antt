-- `write_events` meets its contract. Assumes nothing.
use Rattle.std.proofs.Common.{rules, arith, ◌≡◌, length, sym}
use Rattle.numbers.specs.Rows.{first_of}
use Rattle.blocks.specs.Sizes.{block_size}
use Rattle.writer.specs.Written.{lent_rows}
use Rattle.writer.specs.EventBlocks.{event_rows, block_of_events, events_written}
use Rattle.writer.proofs.Answers.{events_free, lent_zero, written_zero}
use Rattle.writer.proofs.event_blocks.write_events.Goals as goal

pub overflow_cast-events : goal.overflow_cast-events
overflow_cast-events c =
    let s = c.args in
    let free : first_of (event_rows s.events s.index) ≡ 0 = search rules in
    omega (arith, (events_free s.events s.index free).few)

pub returns : goal.returns
unfolding events_written block_of_events
returns c =
    let s = c.args in
    let rows = event_rows s.events s.index in
    let free : first_of rows ≡ 0 = search rules in
    let long : length s.out.now ≡ block_size = search rules in
    rw (c.put_block.ensures, c.head_of-head.ensures, c.payload.ensures)
    (sym (written_zero (lent_rows s.out.now rows) _ s.out.now (lent_zero s.out.now rows long free)))
