-- `put_tasks` meets its contract. Assumes nothing.
use Rattle.std.proofs.Common.{◌≡◌, ◌∙◌, arith, min}
use Rattle.search.specs.Texts.{each_text}
use Rattle.lines.proofs.Laws.{put_none, put_more}
use Rattle.pages.proofs.writing.put_tasks.Goals as goal

pub loop-t-init : goal.loop-t-init
unfolding each_text
loop-t-init c = (omega arith, put_none _ _, omega arith, omega arith)

pub loop-t-preserved : goal.loop-t-preserved
loop-t-preserved c =
    let o = c.loop-t in
    let put = rw c.totals_of.ensures at c.put_task-at.ensures.0 in
    (omega arith, put_more _ o.t o.invariant.1 put, omega (arith, c.put_task-at.ensures.1), omega arith)
