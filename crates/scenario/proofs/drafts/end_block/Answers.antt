-- The index of a block that was written is within its limit. Assumes nothing.
use Rattle.std.proofs.Common.{◌≡◌, ap, sym, arith}
use Rattle.numbers.specs.Rows.{first_of}
use Rattle.writer.specs.Written.{lent_rows}
use Rattle.writer.specs.EventBlocks.{event_rows, events_written}
use Rattle.writer.proofs.Answers.{lent_free, events_free}
use Rattle.scenario.proofs.drafts.end_block.Goals as goal

pub overflow_add-result : goal.overflow_add-result
unfolding events_written
overflow_add-result c =
    let d = c.args.draft in
    let answer = ap (λ p. p.0) c.in_ok-write_events.ensures in
    let free : first_of (lent_rows c.args.out.now (event_rows d.events d.index)) ≡ 0 = sym answer in
    omega (arith, (events_free d.events d.index (lent_free c.args.out.now (event_rows d.events d.index) free).1).inside)
