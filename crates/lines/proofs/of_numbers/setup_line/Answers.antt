use Rattle.std.proofs.Common.{rules}
use Rattle.lines.specs.Texts.{setup_text}
use Rattle.lines.proofs.Lines.{line_wrote}
use Rattle.lines.proofs.Pens.{wrote_then}
use Rattle.lines.proofs.of_numbers.setup_line.Goals as goal

pub returns : goal.returns
unfolding setup_text
returns c =
    let start = c.new-pen.ensures in
    let answered = rw c.from.ensures at c.put_numbered.ensures.wrote in
    line_wrote _ c.in_ok-judge_room.ensures.refused start.unwritten start.at_start
    (wrote_then answered c.put_text.ensures.wrote) (search rules)
