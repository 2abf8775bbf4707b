-- RULES.md, 'Blocks', of a whole file: what its blocks hold.
use Rattle.std.specs.Prelude.{ℕ, suc, ◌+◌, ◌-◌, ◌*◌, ◌/◌, List, [], ◌∷◌, ◌++◌, length, get_or, take, drop, if◌then◌else◌}
use Rattle.search.specs.Words.{◌is◌}
use Rattle.search.specs.Table.{table}
use Rattle.input.specs.Layout.{setup_in, events_in}
use Rattle.input.specs.declared.Setup.{Setup}
use Rattle.input.specs.declared.Event.{Event}
use Rattle.blocks.specs.Sizes.{block_size}
use Rattle.blocks.specs.Verdicts.{verdict, used_part, number_of}

-- the bytes of a file as they are read: blocks of 512, the last one shorter if the file ends within it
unfoldable pub blocks_of : List ℕ → List (List ℕ)
blocks_of bytes =
    table (λ i. take block_size (drop (block_size * i) bytes)) ((length bytes + block_size - 1) / block_size)

-- the refusal of a block at an index, or 0
abbrev pub refusal_of : List ℕ → ℕ → ℕ
refusal_of block index = number_of (verdict block index)

-- the used part of a block at an index; empty where it is refused
abbrev pub part_of : List ℕ → ℕ → List ℕ
part_of block index = used_part block (verdict block index)

-- the events of the blocks from an index on, up to the first that is refused
unfoldable pub events_from : ℕ → List (List ℕ) → List Event
events_from index [] = []
events_from index (block ∷ blocks) =
    if refusal_of block index is 0 then events_in (part_of block index) ++ events_from (suc index) blocks else []

module _ (blocks : List (List ℕ)) where
  -- block 0; an empty file has none, and the empty block in its place is refused, as it has not 512 bytes
  abbrev pub first_block : List ℕ
  first_block = get_or blocks 0 []

  -- the blocks from 1 on
  abbrev pub later_blocks : List (List ℕ)
  later_blocks = drop 1 blocks

  -- the set-up, that of block 0
  abbrev pub setup_of : Setup
  setup_of = setup_in (part_of first_block 0)

  -- the events, those of the blocks from 1 on, up to the first refused one
  abbrev pub events_of : List Event
  events_of = events_from 1 later_blocks
