use Rattle.std.proofs.Common.{refl}
use Rattle.states.specs.Writing.{written}
use Rattle.lines.proofs.Pens.{wrote_text}
use Rattle.lines.proofs.writing.Pen.put_digit.Goals as goal

pub returns-clause-wrote : goal.returns-clause-wrote
unfolding written
returns-clause-wrote c = wrote_text refl refl
