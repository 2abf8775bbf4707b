-- What is left is part of the text, and each line shortens it.
use Rattle.std.proofs.Common.{◌≤◌, length}
use Rattle.make.proofs.Maker.take_lines.Given as goal

abbrev pub invariant-loop-at : goal.invariant-loop-at
invariant-loop-at g l = length l.rest ≤ length l.text

abbrev pub decreases-loop-at : goal.decreases-loop-at
decreases-loop-at g l = length l.rest
