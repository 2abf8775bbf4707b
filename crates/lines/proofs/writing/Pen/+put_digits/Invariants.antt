-- The measure of the cycle of calls {put_digits}: how many digits are left. Assumes nothing.
use Rattle.lines.proofs.writing.Pen.+put_digits.Given as goal

abbrev pub decreases-put_digits : goal.decreases-put_digits
decreases-put_digits l = l.most
