-- RULES.md, 'Scenarios': a whole scenario. What its items say, the blocks that they write, and the theorem that these
-- say the same.
use Rattle.std.specs.Prelude.{ℕ, ◌<◌, ◌≡◌, Bool, true, false, List, [], ◌∷◌, ◌++◌, map, length, get_or, replicate}
use Rattle.input.specs.Words.{no_setup}
use Rattle.input.specs.declared.Setup.{Setup}
use Rattle.input.specs.declared.Event.{Event}
use Rattle.setups.specs.Clearing.{cleared}
use Rattle.setups.specs.Refusals.{setup_refusal}
use Rattle.blocks.specs.Sizes.{block_size}
use Rattle.blocks.specs.Files.{refusal_of, setup_of, events_of}
use Rattle.scenario.specs.SetupItems.{with_processors, with_start, with_task, with_resource, with_pair}
use Rattle.scenario.specs.Items.{item_of}
use Rattle.scenario.specs.Drafts.{no_draft, taken}
use Rattle.scenario.specs.declared.Item.{Item}
use Rattle.scenario.specs.declared.Item.TheVariants.{Blank, Processors, Start, Task, Resource, Pair, Happens, Block, Wrong}
use Rattle.scenario.specs.declared.Draft.{Draft}
use Rattle.scenario.specs.Outcomes.{Outcome}
use Rattle.scenario.specs.Outcomes.{Kept, Written, Faulty, Refused}

-- ---- what items say, in order: a set-up, and events
-- the set-up after an item
unfoldable pub setup_with : Item → Setup → Setup
setup_with Blank c = c
setup_with (Processors n) c = with_processors c n
setup_with (Start n) c = with_start c n
setup_with (Task period) c = with_task c period
setup_with (Resource kind) c = with_resource c kind
setup_with (Pair outer inner) c = with_pair c outer inner
setup_with (Happens e) c = c
setup_with Block c = c
setup_with (Wrong reason) c = c

-- the set-up after some items
unfoldable pub setup_said : Setup → List Item → Setup
setup_said c [] = c
setup_said c (item ∷ items) = setup_said (setup_with item c) items

-- the events of an item, and those of the items after it
unfoldable pub events_with : Item → List Event → List Event
events_with Blank es = es
events_with (Processors n) es = es
events_with (Start n) es = es
events_with (Task period) es = es
events_with (Resource kind) es = es
events_with (Pair outer inner) es = es
events_with (Happens e) es = e ∷ es
events_with Block es = es
events_with (Wrong reason) es = es

-- the events of some items
unfoldable pub events_said : List Item → List Event
events_said [] = []
events_said (item ∷ items) = events_with item (events_said items)

-- ---- the blocks that items write
-- the blocks up to the first item that is faulty or refused, and whether there is no such item
pub record Blocks : Type 0 where
  pub all : Bool
  pub blocks : List (List ℕ)

-- the blocks of an item, by what became of it and the block that it wrote, and those of the items after it
unfoldable pub before : Outcome → List ℕ → Blocks → Blocks
before Kept block rest = rest
before Written block rest = record { all = rest.all; blocks = block ∷ rest.blocks }
before (Faulty reason) block rest = record { all = false; blocks = [] }
before (Refused number) block rest = record { all = false; blocks = [] }

-- the block that is lent to each item
abbrev pub lent : List ℕ
lent = replicate block_size 0

-- the blocks that items write, from a draft on
unfoldable pub blocks_from : Draft → List Item → Blocks
blocks_from d [] = record { all = true; blocks = [] }
blocks_from d (item ∷ items) =
    let t = taken d item lent in
    before t.0.outcome t.1 (blocks_from t.0.draft items)

-- the items of a scenario's lines
abbrev pub items_of : List (List ℕ) → List Item
items_of lines = map item_of lines

-- the blocks of a scenario's lines; the end of the text acts as the item `block`
abbrev pub blocks_made : List (List ℕ) → Blocks
blocks_made lines = blocks_from no_draft (items_of lines ++ (Block ∷ []))

-- ---- the theorem
-- the reader accepts each block, and reads the set-up and the events that the lines say, places past the counts being
-- 0
pub record IsMade (lines : List (List ℕ)) : Type 0 where
  pub accepted : (i : ℕ) → i < length (blocks_made lines).blocks
      → refusal_of (get_or (blocks_made lines).blocks i []) i ≡ 0
  pub setup : setup_of (blocks_made lines).blocks ≡ cleared (setup_said no_setup (items_of lines))
  pub free : setup_refusal (setup_said no_setup (items_of lines)) ≡ 0
  pub events : events_of (blocks_made lines).blocks ≡ events_said (items_of lines)

-- that holds of every scenario with no line that is faulty or refused
abbrev pub MadeReadsBack : Type 0
MadeReadsBack = (lines : List (List ℕ)) → (blocks_made lines).all ≡ true → IsMade lines
