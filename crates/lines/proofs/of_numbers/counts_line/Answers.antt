use Rattle.std.proofs.Common.{rules}
use Rattle.lines.specs.Texts.{first_text}
use Rattle.lines.proofs.Lines.{line_wrote}
use Rattle.lines.proofs.Pens.{wrote_then}
use Rattle.lines.proofs.of_numbers.counts_line.Goals as goal

pub returns : goal.returns
unfolding first_text
returns c =
    let start = c.new-pen.ensures in
    let third = rw c.from.ensures at c.put_numbered-3.ensures.wrote in
    line_wrote _ c.in_ok-judge_room.ensures.refused start.unwritten start.at_start
    (wrote_then (wrote_then (wrote_then c.put_numbered.ensures.wrote c.put_numbered-2.ensures.wrote) third) c.put_text.ensures.wrote) (search rules)
