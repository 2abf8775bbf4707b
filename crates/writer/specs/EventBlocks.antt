-- RULES.md, 'Blocks' and 'Writing blocks': the block that is written of events, and the events of a block that was
-- read.
use Rattle.std.specs.Prelude.{ℕ, ◌/◌, ◌%◌, not, ◌||◌, List, [], ltb, get_or, if◌then◌else◌}
use Rattle.search.specs.Words.{◌is◌}
use Rattle.numbers.specs.Refusals.{number_wrong, record_count_wrong}
use Rattle.numbers.specs.Rows.{Row, ◌when◌, ◌otherwise◌}
use Rattle.search.specs.Table.{table}
use Rattle.input.specs.Kinds.{no_event}
use Rattle.input.specs.Layout.{event_size, event_bytes, event_in, event_count}
use Rattle.input.specs.Words.{within}
use Rattle.input.specs.declared.Event.{Event}
use Rattle.blocks.specs.Sizes.{payload_size, last_index, event_block, most_events}
use Rattle.writer.specs.Sealed.{head_of, sealed}
use Rattle.writer.specs.Written.{lent_rows, written_by}
use Rattle.writer.specs.declared.Events.{Events}

module _ (x : Events) where
  -- the i-th event; from the count on there is none
  unfoldable pub event_of : ℕ → Event
  event_of i = if ltb i x.count then get_or x.of i no_event else no_event

  -- the events with every place past the count empty
  unfoldable pub kept : Events
  kept = record { of = table event_of most_events; count = x.count }

  -- the byte at place i of the payload
  unfoldable pub events_byte : ℕ → ℕ
  events_byte i = get_or (event_bytes (event_of (i / event_size))) (i % event_size) 0

  -- the payload
  unfoldable pub events_payload : List ℕ
  events_payload = table events_byte payload_size

  module _ (index : ℕ) where
    -- the block, of kind 2, with the number of its index
    unfoldable pub block_of_events : List ℕ
    block_of_events = sealed (head_of index event_block x.count) events_payload

    -- the list of 34 and 32
    unfoldable pub event_rows : List Row
    event_rows =
        record_count_wrong when not (within 1 x.count most_events) otherwise
        number_wrong when (index is 0 || ltb last_index index) otherwise
        []

    -- the answer, the first of 37, 34 and 32 that applies or 0, and the lent block after
    unfoldable pub events_written : List ℕ → ℕ × List ℕ
    events_written out = written_by (lent_rows out event_rows) block_of_events out

-- the events of a part that was read; a byte past its end reads 0
unfoldable pub events_read : List ℕ → Events
events_read part = record { of = table (event_in part) most_events; count = event_count part }
