use Rattle.std.proofs.Common.{◌<◌, ◌^◌, refl, arith, rules}
use Rattle.numbers.proofs.Answered.{refusal_counts}
use Rattle.lines.proofs.Lengths.{first_short, setup_short}
use Rattle.pages.proofs.Printed.{page_line}
use Rattle.pages.proofs.printing.setup_page.Goals as goal

pub returns-in-Ok : goal.returns-in-Ok
returns-in-Ok c =
    let setup = c.in-Ok.state.setup in
    let start : setup.start < 2 ^ 32 = search rules in
    rw (← c.setup_from.ensures, ← c.in-Ok.ensures)
    (page_line _ _ c.counts_line-line.result refl (omega arith) c.unwrap_or-len.ensures c.counts_line-line.ensures (first_short setup.processors setup.tasks setup.start (omega arith) (omega arith) (omega (arith, start))))

pub returns-in-Err : goal.returns-in-Err
returns-in-Err c =
    rw (← c.setup_from.ensures, ← c.in-Err.ensures, refusal_counts c.in-Err.refusal)
    (page_line _ _ c.setup_line.result c.ended.ensures (omega arith) c.unwrap_or-len-in-Err.ensures (rw c.from.ensures at c.setup_line.ensures) (setup_short _ (omega arith)))
