-- `put_events` meets its contract. Assumes nothing.
use Rattle.std.proofs.Common.{◌≡◌, ◌+◌, ◌-◌, ◌*◌, add-one, arith}
use Rattle.states.specs.Writing.{snapshot_size}
use Rattle.search.specs.Texts.{each_text}
use Rattle.lines.proofs.Laws.{put_none, put_more}
use Rattle.pages.proofs.writing.put_events.Goals as goal

pub loop-i-init : goal.loop-i-init
unfolding each_text
loop-i-init c = (omega arith, put_none _ _, omega arith, omega arith)

pub loop-i-preserved : goal.loop-i-preserved
loop-i-preserved c =
    let o = c.loop-i in
    let size : snapshot_size * o.i + snapshot_size - snapshot_size * o.i ≡ snapshot_size = omega arith in
    let put = rw (add-one, size) at c.put_event-at.ensures.0 in
    (omega arith, put_more _ o.i o.invariant.1 put, omega (arith, c.put_event-at.ensures.1), omega arith)
