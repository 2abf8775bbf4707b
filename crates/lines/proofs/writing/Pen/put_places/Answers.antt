use Rattle.std.proofs.Common.{refl, ◌∙◌, arith}
use Rattle.search.specs.Texts.{each_text}
use Rattle.lines.proofs.Lengths.{place_short}
use Rattle.lines.proofs.Pens.{wrote_none, wrote_more}
use Rattle.lines.proofs.writing.Pen.put_places.Goals as goal

pub loop-k-init : goal.loop-k-init
unfolding each_text
loop-k-init c = record { same_buffer = refl; wrote = wrote_none _; within = omega arith }

pub put_place-requires : goal.put_place-requires
put_place-requires c = omega (arith, place_short c.byte_at.result c.byte_at-in-loop-k.result (omega arith) (omega arith))

pub loop-k-preserved : goal.loop-k-preserved
loop-k-preserved c =
    let o = c.loop-k in
    let put = rw (c.byte_at.ensures, c.byte_at-in-loop-k.ensures) at c.put_place.ensures.wrote in
    record {
      same_buffer = c.put_place.ensures.same_buffer ∙ o.invariant.same_buffer;
      wrote = wrote_more _ o.k o.invariant.wrote put;
      within = omega (arith, place_short c.byte_at.result c.byte_at-in-loop-k.result (omega arith) (omega arith));
    }
