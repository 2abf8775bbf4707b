use Rattle.std.proofs.Common.{arith, eq-eqb, ne_eqb}
use Rattle.lines.proofs.Lengths.{block_short}
use Rattle.pages.proofs.Printed.{page_put, page_line}
use Rattle.pages.proofs.printing.last_page.Goals as goal

pub returns-then-x-eq0 : goal.returns-then-x-eq0
returns-then-x-eq0 c =
    rw (eq-eqb _ _ c.if-x-eq0.true)
    (page_line _ _ c.block_line.result c.ended.ensures (omega arith) c.unwrap_or-len.ensures (rw c.from.ensures at c.block_line.ensures) (block_short 0 30 (omega arith) (omega arith)))

pub returns : goal.returns
returns c =
    let put = c.put_tasks-len.ensures in
    rw (ne_eqb _ _ c.if-x-eq0.false) (page_put _ _ c.ended-2.ensures put.0 (omega (arith, put.1)))
