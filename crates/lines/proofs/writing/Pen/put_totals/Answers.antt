use Rattle.std.proofs.Common.{refl, ◌∙◌, arith}
use Rattle.search.specs.Texts.{each_text}
use Rattle.lines.proofs.Lengths.{total_short}
use Rattle.lines.proofs.Pens.{wrote_none, wrote_more}
use Rattle.lines.proofs.writing.Pen.put_totals.Goals as goal

pub loop-total-init : goal.loop-total-init
unfolding each_text
loop-total-init c = record { same_buffer = refl; wrote = wrote_none _; within = omega arith }

pub put_numbered-requires : goal.put_numbered-requires
put_numbered-requires c = omega (arith, total_short c.from.result (omega arith))

pub loop-total-preserved : goal.loop-total-preserved
loop-total-preserved c =
    let o = c.loop-total in
    let put = rw c.from.ensures at c.put_numbered.ensures.wrote in
    record {
      same_buffer = c.put_numbered.ensures.same_buffer ∙ o.invariant.same_buffer;
      wrote = wrote_more _ o.total-index o.invariant.wrote put;
      within = omega (arith, total_short c.from.result (omega arith));
    }
