use Rattle.std.proofs.Common.{◌≡◌, sym, ◌∙◌, arith, eq-eqb, ne_eqb}
use Rattle.blocks.proofs.Limits.{used_index, used_events}
use Rattle.lines.proofs.Lengths.{block_short}
use Rattle.pages.proofs.Printed.{page_line}
use Rattle.pages.proofs.printing.block_page.Goals as goal

pub returns-in_default : goal.returns-in_default
returns-in_default c =
    let number = rw (c.answer_of.ensures, c.in_default.is) at c.answer_of.type_inv in
    let line = rw (c.answer_of.ensures, c.in_default.is) at c.block_line.ensures in
    rw (← c.in_default.ensures)
    (page_line _ _ c.block_line.result c.ended.ensures (omega arith) c.unwrap_or-len.ensures line (block_short _ _ (omega arith) (omega (arith, number))))

pub event_page-requires : goal.event_page-requires
event_page-requires c =
    let a = c.args in
    let used = sym c.in-Ok.ensures in
    let few = used_events a.block.now a.x.index c.in-Ok.used used c.if-x-eq0.false in
    let last = used_index a.block.now a.x.index c.in-Ok.used used in
    (rw c.used_part-part.ensures few, omega (arith, last))
