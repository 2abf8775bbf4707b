-- RULES.md, 'Blocks' and 'Writing blocks': the block that is written of a set-up.
use Rattle.std.specs.Prelude.{ℕ, ◌-◌, ◌/◌, ◌%◌, ◌≤◌, List, [], ◌∷◌, ltb, get_or, if◌then◌else◌}
use Rattle.search.specs.Words.{◌is◌}
use Rattle.search.specs.Table.{table}
use Rattle.numbers.specs.Limits.{most_processors, most_tasks, most_resources, most_pairs}
use Rattle.input.specs.Layout.{start_at, periods_at, kinds_at, pairs_at, setup_size, low, high}
use Rattle.input.specs.Words.{period, kind, outer_of, inner_of}
use Rattle.input.specs.declared.Setup.{Setup}
use Rattle.setups.specs.Clearing.{cleared}
use Rattle.setups.specs.Refusals.{setup_rows}
use Rattle.blocks.specs.Sizes.{payload_size, setup_block}
use Rattle.writer.specs.Sealed.{head_of, sealed}
use Rattle.writer.specs.Written.{lent_rows, written_by}

-- the counts are within their limits, so that each fits one byte
pub record Counted (c : Setup) : Type 0 where
  pub processors : c.processors ≤ most_processors
  pub tasks : c.tasks ≤ most_tasks
  pub resources : c.resources ≤ most_resources
  pub pairs : c.pairs ≤ most_pairs

module _ (c : Setup) where
  -- the four counts
  abbrev pub count_bytes : List ℕ
  count_bytes = c.processors ∷ c.tasks ∷ c.resources ∷ c.pairs ∷ []

  -- the starting clock: four bytes, little-endian
  abbrev pub start_bytes : List ℕ
  start_bytes = low (c.start % 65536) ∷ high (c.start % 65536) ∷ low (c.start / 65536) ∷ high (c.start / 65536) ∷ []

  -- the byte at place i of the periods, two bytes each, little-endian
  abbrev pub period_byte : ℕ → ℕ
  period_byte i = if i % 2 is 0 then low (period c (i / 2)) else high (period c (i / 2))

  -- the byte at place i of the pairs, each the outer and then the inner resource
  abbrev pub pair_byte : ℕ → ℕ
  pair_byte i = if i % 2 is 0 then outer_of c (i / 2) else inner_of c (i / 2)

  -- the byte at place i of the payload, 0 after the tables
  unfoldable pub setup_byte : ℕ → ℕ
  setup_byte i =
      if ltb i start_at then get_or count_bytes i 0 else
      if ltb i periods_at then get_or start_bytes (i - start_at) 0 else
      if ltb i kinds_at then period_byte (i - periods_at) else
      if ltb i pairs_at then kind c (i - kinds_at) else
      if ltb i setup_size then pair_byte (i - pairs_at) else 0

  -- the payload
  unfoldable pub setup_payload : List ℕ
  setup_payload = table setup_byte payload_size

-- the block: block 0, of kind 1 and count 1; places past a count are written 0
unfoldable pub block_of_setup : Setup → List ℕ
block_of_setup c = sealed (head_of 0 setup_block 1) (setup_payload (cleared c))

-- the answer, the first of 37 and 1 to 5 that applies or 0, and the lent block after
unfoldable pub setup_written : Setup → List ℕ → ℕ × List ℕ
setup_written c out = written_by (lent_rows out (setup_rows c)) (block_of_setup c) out
