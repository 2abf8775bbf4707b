-- RULES.md, 'Writing blocks': the answer is the first refusal that applies, or 0. The block is written where the
-- answer is 0; else it stays as lent.
use Rattle.std.specs.Prelude.{ℕ, List, length, if◌then◌else◌}
use Rattle.search.specs.Words.{◌is◌, ◌isn't◌}
use Rattle.numbers.specs.Refusals.{room_wrong}
use Rattle.numbers.specs.Rows.{Row, ◌when◌, ◌otherwise◌, first_of}
use Rattle.blocks.specs.Sizes.{block_size}

-- the refusal by the lent block's size, before all others
abbrev pub lent_rows : List ℕ → List Row → List Row
lent_rows out later = room_wrong when length out isn't block_size otherwise later

-- the answer by these rows, and the lent block after
abbrev pub written_by : List Row → List ℕ → List ℕ → ℕ × List ℕ
written_by rows block out = (first_of rows, if first_of rows is 0 then block else out)
