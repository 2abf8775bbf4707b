-- The digits before the last are written by the recursive call, and the last one behind them. Assumes nothing.
use mathlib.Core.Path.{ap}
use native.Mathlib.Omega.{arith}
use lib.ListN.{length}
use Rattle.lines.proofs.Pens.{wrote_none, wrote_then}
use Rattle.lines.proofs.Laws.{digits_none, digits_few, digits_many, digits_longer}
use Rattle.lines.proofs.writing.Pen.+put_digits.Goals as goal

pub returns-then-most-eq0-clause-wrote : goal.returns-then-most-eq0-clause-wrote
returns-then-most-eq0-clause-wrote t c = rw (digits_none _ _ c.if-most-eq0.true) (wrote_none _)

pub put_digit-requires : goal.put_digit-requires
put_digit-requires t c =
    omega (arith, ap length (digits_few c.args.most c.args.n c.if-most-eq0.false c.if-n-lt10.true))

pub returns-then-n-lt10-clause-wrote : goal.returns-then-n-lt10-clause-wrote
returns-then-n-lt10-clause-wrote t c = rw (digits_few _ _ c.if-most-eq0.false c.if-n-lt10.true) c.put_digit.ensures.wrote

pub put_digits-requires : goal.put_digits-requires
put_digits-requires t c = (
  omega (arith, c.decreases),
  omega (arith, digits_longer c.args.most c.args.n c.if-most-eq0.false c.if-n-lt10.false),
)

pub put_digit-requires-2 : goal.put_digit-requires-2
put_digit-requires-2 t c =
    omega (arith, digits_longer c.args.most c.args.n c.if-most-eq0.false c.if-n-lt10.false)

pub returns-clause-wrote : goal.returns-clause-wrote
returns-clause-wrote t c =
    let many = digits_many c.args.most c.args.n c.if-most-eq0.false c.if-n-lt10.false in
    rw many (wrote_then c.put_digits.ensures.wrote c.put_digit-2.ensures.wrote)
