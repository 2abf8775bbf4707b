-- The buffer keeps its length, and what is held fits it.
use Rattle.std.proofs.Common.{◌≡◌, ◌≤◌, length}
use Rattle.make.proofs.Maker.make_file.Given as goal

abbrev pub invariant-loop : goal.invariant-loop
invariant-loop g l = (length l.text ≡ 65536) × (l.held ≤ 65536)
