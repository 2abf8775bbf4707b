-- What became of an item.
use Rattle.std.specs.Prelude.{ℕ}
use Rattle.scenario.specs.declared.Draft.{Draft}

-- the draft keeps it, or has written a block into the lent buffer; it is faulty, with the reason; or the writer refused
-- the block, with its number
pub data Outcome : Type 0 where
  Kept : Outcome
  Written : Outcome
  Faulty : ℕ → Outcome
  Refused : ℕ → Outcome

-- the draft after an item, and what became of the item
pub record Taken : Type 0 where
  pub draft : Draft
  pub outcome : Outcome
