use Rattle.lines.proofs.Pens.{wrote_then}
use Rattle.lines.proofs.writing.Pen.put_place.Goals as goal

pub returns-clause-wrote : goal.returns-clause-wrote
returns-clause-wrote c = wrote_then (wrote_then (wrote_then c.put_text.ensures.wrote c.put_task.ensures.wrote) c.put_text-2.ensures.wrote) c.put_task-2.ensures.wrote
