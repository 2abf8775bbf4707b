use Rattle.std.proofs.Common.{refl, arith}
use Rattle.lines.proofs.Pens.{wrote_text}
use Rattle.states.proofs.Writing.{written_part}
use Rattle.lines.proofs.writing.Pen.put_text.Goals as goal

pub returns-clause-wrote : goal.returns-clause-wrote
returns-clause-wrote c =
    let a = c.args in
    wrote_text refl (written_part a.self.now.out.now a.self.now.at a.text.now _ (omega arith) c.copy_from_slice.ensures.after)
