-- RULES.md, 'Blocks': a set-up and an event as bytes. A byte past the end reads 0.
use Rattle.std.specs.Prelude.{ℕ, ◌+◌, ◌*◌, ◌/◌, ◌%◌, List, [], ◌∷◌, length, get_or}
use Rattle.search.specs.Table.{table}
use Rattle.numbers.specs.Limits.{most_tasks, most_resources, most_pairs}
use Rattle.input.specs.declared.Setup.{Setup}
use Rattle.input.specs.declared.Event.{Event}

-- where the start begins: after the four counts
abbrev pub start_at : ℕ
start_at = 4

-- where the periods begin, two bytes each: after the four bytes of the start
abbrev pub periods_at : ℕ
periods_at = 8

-- where the kinds begin, one byte each
abbrev pub kinds_at : ℕ
kinds_at = periods_at + 2 * most_tasks

-- where the pairs begin, two bytes each
abbrev pub pairs_at : ℕ
pairs_at = kinds_at + most_resources

-- the bytes of a set-up
abbrev pub setup_size : ℕ
setup_size = pairs_at + 2 * most_pairs

-- the bytes of an event: kind, task, resource, reserve, and two bytes of tick
abbrev pub event_size : ℕ
event_size = 6

-- the low byte of a number of two bytes, which comes first
abbrev pub low : ℕ → ℕ
low n = n % 256

-- the high byte, which comes second
abbrev pub high : ℕ → ℕ
high n = n / 256

-- an event as bytes: kind, task, resource, reserve, tick
abbrev pub event_bytes : Event → List ℕ
event_bytes e = e.kind ∷ e.task ∷ e.resource ∷ 0 ∷ low e.tick ∷ high e.tick ∷ []

module _ (bytes : List ℕ) where
  -- the byte at place i
  abbrev pub byte : ℕ → ℕ
  byte i = get_or bytes i 0

  -- two bytes, little-endian
  abbrev pub word : ℕ → ℕ
  word i = byte i + 256 * byte (i + 1)

  -- the starting clock: four bytes, little-endian
  unfoldable pub start_in : ℕ
  start_in = word start_at + 65536 * word (start_at + 2)

  -- the period of each task
  unfoldable pub periods_in : List ℕ
  periods_in = table (λ t. word (periods_at + 2 * t)) most_tasks

  -- the kind of each resource
  unfoldable pub kinds_in : List ℕ
  kinds_in = table (λ r. byte (kinds_at + r)) most_resources

  -- one side of each pair: the outer resources, side 0, or the inner ones, side 1
  unfoldable pub side_in : ℕ → List ℕ
  side_in side = table (λ i. byte (pairs_at + 2 * i + side)) most_pairs

  -- the set-up
  unfoldable pub setup_in : Setup
  setup_in = record {
    processors = byte 0;
    tasks = byte 1;
    resources = byte 2;
    pairs = byte 3;
    start = start_in;
    periods = periods_in;
    kinds = kinds_in;
    outer = side_in 0;
    inner = side_in 1;
  }

  -- the i-th event; what is missing of it reads 0
  unfoldable pub event_in : ℕ → Event
  event_in i = record {
    kind = byte (event_size * i);
    task = byte (event_size * i + 1);
    resource = byte (event_size * i + 2);
    tick = word (event_size * i + 4);
  }

  -- how many whole events there are
  unfoldable pub event_count : ℕ
  event_count = length bytes / event_size

  -- all whole events, in order
  abbrev pub events_in : List Event
  events_in = table event_in event_count
