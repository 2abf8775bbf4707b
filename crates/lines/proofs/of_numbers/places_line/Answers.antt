use Rattle.std.proofs.Common.{rules}
use Rattle.lines.specs.Buffers.{event_text}
use Rattle.lines.proofs.Lines.{line_wrote}
use Rattle.lines.proofs.Pens.{wrote_then}
use Rattle.lines.proofs.of_numbers.places_line.Goals as goal

pub returns : goal.returns
unfolding event_text
returns c =
    let start = c.new-pen.ensures in
    let answered = rw (c.from.ensures, c.byte_at.ensures) at c.put_numbered.ensures.wrote in
    let placed = rw c.min.ensures at c.put_places.ensures.wrote in
    line_wrote _ c.in_ok-judge_room.ensures.refused start.unwritten start.at_start
    (wrote_then (wrote_then (wrote_then c.put_number.ensures.wrote answered) placed) c.put_text.ensures.wrote) (search rules)
