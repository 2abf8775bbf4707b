-- A number of one digit, and of two. Assumes nothing.
use mathlib.Core.Path.{ap}
use native.Mathlib.Omega.{arith}
use lib.ListN.{length}
use Rattle.lines.proofs.Pens.{wrote_then}
use Rattle.lines.proofs.Laws.{decimal_one, decimal_two}
use Rattle.lines.proofs.writing.Pen.put_number.Goals as goal

pub put_digit-requires : goal.put_digit-requires
put_digit-requires c = omega (arith, ap length (decimal_one c.args.n c.if-n-lt10.true), c.requires)

pub returns-then-n-lt10-clause-wrote : goal.returns-then-n-lt10-clause-wrote
returns-then-n-lt10-clause-wrote c = rw (decimal_one c.args.n c.if-n-lt10.true) c.put_digit.ensures.wrote

pub put_digit-requires-then-n-lt100 : goal.put_digit-requires-then-n-lt100
put_digit-requires-then-n-lt100 c = omega (arith, ap length (decimal_two c.args.n c.if-n-lt10.false c.if-n-lt100.true))

pub put_digit-requires-then-n-lt100-2 : goal.put_digit-requires-then-n-lt100-2
put_digit-requires-then-n-lt100-2 c =
    omega (arith, ap length (decimal_two c.args.n c.if-n-lt10.false c.if-n-lt100.true))

pub returns-then-n-lt100-clause-wrote : goal.returns-then-n-lt100-clause-wrote
returns-then-n-lt100-clause-wrote c =
    rw (decimal_two c.args.n c.if-n-lt10.false c.if-n-lt100.true)
    (wrote_then c.put_digit-then-n-lt100.ensures.wrote c.put_digit-then-n-lt100-2.ensures.wrote)
