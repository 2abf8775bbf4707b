-- RULES.md, 'Blocks': a block made of its head, its payload and the check.
use Rattle.std.specs.Prelude.{ℕ, ◌-◌, ◌%◌, List, [], ◌∷◌, ltb, get_or, if◌then◌else◌}
use Rattle.search.specs.Table.{table}
use Rattle.input.specs.Layout.{low, high}
use Rattle.blocks.specs.Sizes.{payload_at, check_at, block_size, numbers}
use Rattle.blocks.specs.Check.{check_of}
use Rattle.blocks.specs.declared.Check.{Check}

-- the head of a block: its number, its kind and its record count
abbrev pub head_of : ℕ → ℕ → ℕ → List ℕ
head_of index kind count = low (index % numbers) ∷ high (index % numbers) ∷ kind ∷ count ∷ []

-- the check as bytes: the first sum, then the second
abbrev pub check_bytes : Check → List ℕ
check_bytes c = low c.first ∷ high c.first ∷ low c.second ∷ high c.second ∷ []

module _ (head payload : List ℕ) where
  -- the byte at place i of the block, before the check: of the head or of the payload
  unfoldable pub body_byte : ℕ → ℕ
  body_byte i = if ltb i payload_at then get_or head i 0 else get_or payload (i - payload_at) 0

  -- the check of head and payload
  unfoldable pub check_behind : List ℕ
  check_behind = check_bytes (check_of (table body_byte check_at))

  -- the byte at place i of the block
  unfoldable pub sealed_byte : ℕ → ℕ
  sealed_byte i = if ltb i check_at then body_byte i else get_or check_behind (i - check_at) 0

  -- the whole block
  unfoldable pub sealed : List ℕ
  sealed = table sealed_byte block_size
