-- What is read from the table of groups.
use Rattle.std.specs.Prelude.{ℕ, List, get_or}
use Rattle.protocol.specs.Records.{no_group}
use Rattle.protocol.specs.declared.Group.{Group}

-- the holder of a group, or nobody
abbrev pub holder_in : List Group → ℕ → ℕ
holder_in groups g = (get_or groups g no_group).holder
