-- A number of four bytes that is smaller. Assumes nothing.
use Rattle.std.proofs.Common.{arith}
use Rattle.scenario.proofs.Words.{narrow_none, narrow_some}
use Rattle.scenario.proofs.reading.byte_in.Goals as goal

pub returns-in_err-number_in : goal.returns-in_err-number_in
returns-in_err-number_in c =
    rw c.from_residual.ensures (narrow_none 255 c.args.word.now (omega arith) c.in_err-number_in.ensures)

pub returns : goal.returns
returns c =
    rw c.ok.ensures.value
    (narrow_some 255 c.args.word.now (omega arith) c.try_from.result _ c.in_ok-number_in.ensures c.try_from.ensures)
