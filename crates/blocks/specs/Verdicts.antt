-- RULES.md, 'Blocks' and 'Numbers handed back': the refusals 30 to 35 of a block, in the list's order, and its used
-- part.
use Rattle.std.specs.Prelude.{ℕ, ◌+◌, ◌-◌, ◌*◌, ◌%◌, Bool, not, ◌&&◌, ◌||◌, List, [], ltb, length, take, drop, if◌then◌else◌, Option, Some, None, Result, Ok, Err}
use Rattle.search.specs.Words.{◌is◌, ◌isn't◌}
use Rattle.search.specs.Below.{all_below}
use Rattle.numbers.specs.Refusals.{size_wrong, check_wrong, number_wrong, block_kind_wrong, record_count_wrong, filler_wrong}
use Rattle.numbers.specs.Rows.{Row, ◌when◌, ◌otherwise◌, first_of}
use Rattle.numbers.specs.Answers as answers
use Rattle.numbers.specs.declared.answers.Refusal.{Refusal}
use Rattle.input.specs.Layout.{byte, word, periods_at, kinds_at, pairs_at, setup_size, event_size}
use Rattle.input.specs.Words.{within}
use Rattle.blocks.specs.Sizes.{kind_at, count_at, payload_at, payload_size, block_size, last_index, numbers, setup_block, event_block, most_events}
use Rattle.blocks.specs.Check.{is_checked}

-- accepted, with the length of the used part; or refused, with its number
pub data Verdict : Type 0 where
  Used : ℕ → Verdict
  Refused : ℕ → Verdict

-- a verdict as the code has it: a refusal by its name
abbrev pub verdict_from : Result ℕ Refusal → Verdict
verdict_from (Ok n) = Used n
verdict_from (Err refusal) = Refused (answers.number_of refusal)

-- the kind that a block must have: the first is the set-up, all others are events
abbrev pub kind_for : Bool → ℕ
kind_for is_first = if is_first then setup_block else event_block

-- the most records that a block may count
abbrev pub most_for : Bool → ℕ
most_for is_first = if is_first then 1 else most_events

module _ (block : List ℕ) where
  -- the byte at place i of the payload
  abbrev pub payload : ℕ → ℕ
  payload i = byte block (payload_at + i)

  -- the payload's bytes from `from` up to but not at `to` are 0
  unfoldable pub is_blank : ℕ → ℕ → Bool
  is_blank from to = all_below (to - from) (λ i. payload (from + i) is 0)

  -- in a set-up block, table places past a count are filler, and so is all after the tables
  unfoldable pub is_setup_filled : Bool
  is_setup_filled =
      is_blank (periods_at + 2 * payload 1) kinds_at
      && is_blank (kinds_at + payload 2) pairs_at
      && is_blank (pairs_at + 2 * payload 3) setup_size
      && is_blank setup_size payload_size

  -- the record count
  abbrev pub count : ℕ
  count = byte block count_at

  -- in an event block, each record's fourth byte is reserve, and all after the records is filler
  unfoldable pub is_event_filled : Bool
  is_event_filled =
      all_below count (λ i. payload (event_size * i + 3) is 0) && is_blank (event_size * count) payload_size

  -- reserve and filler are 0
  abbrev pub is_filled : Bool → Bool
  is_filled is_first = if is_first then is_setup_filled else is_event_filled

  -- the length of the used part
  abbrev pub used_size : Bool → ℕ
  used_size is_first = if is_first then setup_size else event_size * count

  module _ (index : ℕ) where
    -- block 0 is the first
    abbrev pub is_first : Bool
    is_first = index is 0

    -- the list of 30 to 35
    unfoldable pub block_rows : List Row
    block_rows =
        size_wrong when length block isn't block_size otherwise
        check_wrong when not (is_checked block) otherwise
        number_wrong when (word block 0 isn't index % numbers || ltb last_index index) otherwise
        block_kind_wrong when byte block kind_at isn't kind_for is_first otherwise
        record_count_wrong when not (within 1 count (most_for is_first)) otherwise
        filler_wrong when not (is_filled is_first) otherwise
        []

    -- accepted, with the length of the used part, or refused, with its number
    unfoldable pub verdict : Verdict
    verdict = if first_of block_rows is 0 then Used (used_size is_first) else Refused (first_of block_rows)

  -- the used part, as a verdict has it; empty where the block is refused
  abbrev pub used_part : Verdict → List ℕ
  used_part (Used n) = take n (drop payload_at block)
  used_part (Refused number) = []

  -- the used part of a length, as the code has it; empty where there is none
  abbrev pub part_of_length : Option ℕ → List ℕ
  part_of_length (Some n) = take n (drop payload_at block)
  part_of_length None = []

-- a verdict's number of the list: 0 where the block is accepted
abbrev pub number_of : Verdict → ℕ
number_of (Used n) = 0
number_of (Refused number) = number

-- the length of a verdict's used part: 0 where the block is refused
abbrev pub length_of : Verdict → ℕ
length_of (Used n) = n
length_of (Refused number) = 0
