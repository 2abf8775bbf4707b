-- The kinds of block as the code has them.
use Rattle.std.specs.Prelude.{Bool, true, false}
use Rattle.blocks.specs.declared.kinds.BlockKind.{BlockKind}
use Rattle.blocks.specs.declared.kinds.BlockKind.TheVariants.{Setup, Events}

-- the kind of the first block
abbrev pub is_setup : BlockKind → Bool
is_setup Setup = true
is_setup Events = false
