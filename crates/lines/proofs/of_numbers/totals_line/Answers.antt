use Rattle.std.proofs.Common.{◌≡◌, rules}
use Rattle.lines.specs.Texts.{task_line_text}
use Rattle.std.proofs.Common.{length}
use Rattle.protocol.specs.Records.{total_count}
use Rattle.lines.proofs.Lines.{line_wrote}
use Rattle.lines.proofs.Pens.{wrote_then}
use Rattle.lines.proofs.of_numbers.totals_line.Goals as goal

pub returns : goal.returns
unfolding task_line_text
returns c =
    let start = c.new-pen.ensures in
    let named = rw c.from.ensures at c.put_numbered.ensures.wrote in
    let long : length c.args.totals ≡ total_count = search rules in
    rw long
    (line_wrote _ c.in_ok-judge_room.ensures.refused start.unwritten start.at_start
    (wrote_then (wrote_then named c.put_totals.ensures.wrote) c.put_text.ensures.wrote) (search rules))
