-- RULES.md, 'Numbers handed back': each number of a block is given exactly when its row is the first that applies,
-- and 0 when none does.
use Rattle.std.specs.Prelude.{ℕ, ◌≡◌, List, ◌↔◌}
use Rattle.numbers.specs.Refusals.{size_wrong, check_wrong, number_wrong, block_kind_wrong, record_count_wrong, filler_wrong}
use Rattle.numbers.specs.Numbered.{FirstAt, NoneApplies}
use Rattle.blocks.specs.Verdicts.{block_rows, verdict, number_of}

pub record BlockNumbers (block : List ℕ) (index : ℕ) : Type 0 where
  pub accepted : (number_of (verdict block index) ≡ 0) ↔ NoneApplies (block_rows block index)
  pub for_size_wrong : (number_of (verdict block index) ≡ size_wrong) ↔ FirstAt (block_rows block index) 0
  pub for_check_wrong : (number_of (verdict block index) ≡ check_wrong) ↔ FirstAt (block_rows block index) 1
  pub for_number_wrong : (number_of (verdict block index) ≡ number_wrong) ↔ FirstAt (block_rows block index) 2
  pub kind_wrong : (number_of (verdict block index) ≡ block_kind_wrong) ↔ FirstAt (block_rows block index) 3
  pub count_wrong : (number_of (verdict block index) ≡ record_count_wrong) ↔ FirstAt (block_rows block index) 4
  pub for_filler_wrong : (number_of (verdict block index) ≡ filler_wrong) ↔ FirstAt (block_rows block index) 5
