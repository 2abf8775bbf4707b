-- RULES.md, 'Scenarios': a file in the making. What each item does to it, and the block that it writes, if any.
use Rattle.std.specs.Prelude.{ℕ, suc, Bool, true, false, List, leb, set, replicate, if◌then◌else◌}
use Rattle.search.specs.Words.{◌is◌, ◌isn't◌}
use Rattle.numbers.specs.Limits.{most_tasks, most_resources, most_pairs}
use Rattle.input.specs.Kinds.{no_event}
use Rattle.input.specs.Words.{no_setup}
use Rattle.input.specs.declared.Setup.{Setup}
use Rattle.input.specs.declared.Event.{Event}
use Rattle.blocks.specs.Sizes.{most_events}
use Rattle.writer.specs.SetupBlocks.{setup_written}
use Rattle.writer.specs.EventBlocks.{events_written}
use Rattle.writer.specs.declared.Events.{Events}
use Rattle.scenario.specs.SetupItems.{with_processors, with_start, with_task, with_resource, with_pair}
use Rattle.scenario.specs.declared.Item.{Item}
use Rattle.scenario.specs.declared.Item.TheVariants.{Blank, Processors, Start, Task, Resource, Pair, Happens, Block, Wrong}
use Rattle.scenario.specs.declared.Draft.{Draft}
use Rattle.scenario.specs.Outcomes.{Kept, Written, Faulty, Refused}
use Rattle.scenario.specs.Outcomes.{Taken}

-- ---- what is wrong with an item in its place
-- the item comes after the set-up's end
abbrev pub late : ℕ
late = 8

-- the item comes a second time
abbrev pub twice : ℕ
twice = 9

-- its table is full
abbrev pub full : ℕ
full = 10

-- the processors are not given
abbrev pub missing : ℕ
missing = 11

-- ---- the events of a block
-- no events yet
abbrev pub no_events : Events
no_events = record { of = replicate most_events no_event; count = 0 }

-- the events, and e after them
abbrev pub adding : Event → Events → Events
adding e x = record { of = set x.of x.count e; count = suc x.count }

-- ---- a draft
-- its set-up so far; whether its processors and its start are given; the index of the block being filled, which is 0
-- while the set-up is open; and the events of that block
abbrev pub draft_by : Setup → Bool → Bool → ℕ → Events → Draft
draft_by c sized started index x = record { setup = c; sized = sized; started = started; index = index; events = x }

-- nothing is given yet
abbrev pub no_draft : Draft
no_draft = draft_by no_setup false false 0 no_events

module _ (d : Draft) where
  -- with its processors given
  abbrev pub sized_by : ℕ → Draft
  sized_by m = draft_by (with_processors d.setup m) true d.started d.index d.events

  -- with its start given
  abbrev pub started_at : ℕ → Draft
  started_at start = draft_by (with_start d.setup start) d.sized true d.index d.events

  -- with another set-up
  abbrev pub with_setup : Setup → Draft
  with_setup c = draft_by c d.sized d.started d.index d.events

  -- with block n begun, and these events in it
  abbrev pub filling : ℕ → Events → Draft
  filling n x = draft_by d.setup d.sized d.started n x

-- ---- what became of an item
-- it is kept, and nothing is written
abbrev pub kept : Draft → Taken
kept next = record { draft = next; outcome = Kept }

-- something is wrong with it, and the draft stays as it was
abbrev pub faulty : Draft → ℕ → Taken
faulty d reason = record { draft = d; outcome = Faulty reason }

-- the writer's answer to a block: it is written, or refused, and then the draft stays as it was
unfoldable pub answered : Draft → Draft → ℕ → Taken
answered d next number =
    if number is 0 then record { draft = next; outcome = Written } else record { draft = d; outcome = Refused number }

module _ (d : Draft) where
  -- an item of the set-up, after which the draft is `next`; it is faulty after the set-up's end, and, for `reason`,
  -- where `bars` holds
  unfoldable pub settled : ℕ → Bool → Draft → Taken
  settled reason bars next =
      if d.index isn't 0 then faulty d late else
      if bars then faulty d reason else
      kept next

  -- the set-up ends, and block 1 begins with these events
  unfoldable pub setup_ends : Events → List ℕ → Taken × List ℕ
  setup_ends x out =
      let w = setup_written d.setup out in
      if d.sized then (answered d (filling d 1 x) w.0, w.1) else (faulty d missing, out)

  -- a block of events ends, and the next one begins with these
  unfoldable pub block_ends : Events → List ℕ → Taken × List ℕ
  block_ends x out =
      let w = events_written d.events d.index out in
      (answered d (filling d (suc d.index) x) w.0, w.1)

  -- an event; the first one ends the set-up, and one that finds its block full ends that block
  unfoldable pub event_taken : Event → List ℕ → Taken × List ℕ
  event_taken e out =
      if d.index is 0 then setup_ends (adding e no_events) out else
      if leb most_events d.events.count then block_ends (adding e no_events) out else
      (kept (filling d d.index (adding e d.events)), out)

  -- the next block begins; one without events is not written
  unfoldable pub block_taken : List ℕ → Taken × List ℕ
  block_taken out =
      if d.index is 0 then setup_ends no_events out else
      if d.events.count is 0 then (kept d, out) else
      block_ends no_events out

  -- what an item does, and the lent buffer after it
  unfoldable pub taken : Item → List ℕ → Taken × List ℕ
  taken Blank out = (kept d, out)
  taken (Processors m) out = (settled twice d.sized (sized_by d m), out)
  taken (Start start) out = (settled twice d.started (started_at d start), out)
  taken (Task period) out =
      let c = d.setup in (settled full (leb most_tasks c.tasks) (with_setup d (with_task c period)), out)
  taken (Resource kind) out =
      let c = d.setup in (settled full (leb most_resources c.resources) (with_setup d (with_resource c kind)), out)
  taken (Pair outer inner) out =
      let c = d.setup in (settled full (leb most_pairs c.pairs) (with_setup d (with_pair c outer inner)), out)
  taken (Happens e) out = event_taken e out
  taken Block out = block_taken out
  taken (Wrong reason) out = (faulty d reason, out)
