-- RULES.md, 'Writing blocks': what is written the reader accepts and reads back equal, places past a count coming
-- back 0; and what the reader accepts, a set-up being free of 1 to 5 too, is written again byte for byte, whatever
-- block is lent.
use Rattle.std.specs.Prelude.{ℕ, ◌*◌, ◌<◌, ◌≡◌, List, ◌≢◌, length, get_or}
use Rattle.input.specs.Layout.{setup_size, event_size, setup_in, event_in}
use Rattle.input.specs.declared.Setup.{Setup}
use Rattle.setups.specs.Clearing.{cleared}
use Rattle.setups.specs.Refusals.{setup_refusal}
use Rattle.blocks.specs.Sizes.{block_size}
use Rattle.blocks.specs.OneByte.{AreBytes}
use Rattle.blocks.specs.Verdicts.{Used, verdict, used_part}
use Rattle.writer.specs.SetupBlocks.{setup_written}
use Rattle.input.specs.Kinds.{no_event}
use Rattle.writer.specs.EventBlocks.{kept, events_written, events_read}
use Rattle.writer.specs.declared.Events.{Events}

-- ---- a set-up
-- where the answer is 0, the reader accepts the block
abbrev pub SetupAccepted : Type 0
SetupAccepted =
    (c : Setup) (out : List ℕ)
    → (setup_written c out).0 ≡ 0
    → verdict (setup_written c out).1 0 ≡ Used setup_size

-- and the reader reads back the set-up, places past the counts being 0
abbrev pub SetupBack : Type 0
SetupBack =
    (c : Setup) (out : List ℕ)
    → (setup_written c out).0 ≡ 0
    → setup_in (used_part (setup_written c out).1 (verdict (setup_written c out).1 0)) ≡ cleared c

-- a block that the reader accepts, its set-up being free of 1 to 5, is written again byte for byte
abbrev pub SetupSame : Type 0
SetupSame =
    (block : List ℕ) (n : ℕ)
    → AreBytes block
    → verdict block 0 ≡ Used n
    → setup_refusal (setup_in (used_part block (Used n))) ≡ 0
    → (out : List ℕ)
    → length out ≡ block_size
    → setup_written (setup_in (used_part block (Used n))) out ≡ (0, block)

-- ---- events, of any content
-- where the answer is 0, the reader accepts the block
abbrev pub EventsAccepted : Type 0
EventsAccepted =
    (x : Events) (index : ℕ) (out : List ℕ)
    → (events_written x index out).0 ≡ 0
    → verdict (events_written x index out).1 index ≡ Used (event_size * x.count)

-- and the reader reads back the events, as many as were given, places past the count being empty
abbrev pub EventsBack : Type 0
EventsBack =
    (x : Events) (index : ℕ) (out : List ℕ)
    → (events_written x index out).0 ≡ 0
    → events_read (used_part (events_written x index out).1 (verdict (events_written x index out).1 index)) ≡ kept x

-- so each event that is read back is the one that was given
abbrev pub EachEventBack : Type 0
EachEventBack =
    (x : Events) (index : ℕ) (out : List ℕ)
    → (events_written x index out).0 ≡ 0
    → (i : ℕ)
    → i < x.count
    → event_in (used_part (events_written x index out).1 (verdict (events_written x index out).1 index)) i
    ≡ get_or x.of i no_event

-- a block that the reader accepts as events is written again byte for byte
abbrev pub EventsSame : Type 0
EventsSame =
    (block : List ℕ) (index n : ℕ)
    → AreBytes block
    → index ≢ 0
    → verdict block index ≡ Used n
    → (out : List ℕ)
    → length out ≡ block_size
    → events_written (events_read (used_part block (Used n))) index out ≡ (0, block)
