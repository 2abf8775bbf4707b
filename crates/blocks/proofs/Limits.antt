-- The limits that an accepted block keeps: its index, and how many events its used part has. Assumes nothing.
use Prim.Native.Nat.{ℕ, ◌*◌, ◌≤◌}
use mathlib.Core.Path.{◌≡◌, refl, sym, ap}
use mathlib.Core.List.{List}
use mathlib.Core.Logic.{◌≢◌}
use native.Mathlib.Omega.{arith}
use lib.ListN.{length}
use borrow.Author.Tests.{ne_eqb}
use Rattle.numbers.specs.Rows.{first_of}
use Rattle.numbers.specs.Numbered.{NoneApplies}
use Rattle.search.proofs.Tests.{tests}
use Rattle.numbers.proofs.Refusals.{none_iff}
use Rattle.input.specs.Layout.{event_size, event_count}
use Rattle.blocks.specs.Sizes.{last_index, most_events}
use Rattle.blocks.specs.Verdicts.{Used, count, most_for, used_size, is_first, block_rows, verdict, used_part, number_of, length_of}
use Rattle.blocks.proofs.Numbers.{judge_none, used_length}

module _ (block : List ℕ) (index n : ℕ) (used : verdict block index ≡ Used n) where
  none : NoneApplies (block_rows block index)
  none = (judge_none block index).0 (ap number_of used)

  pub used_index : index ≤ last_index
  unfolding block_rows
  used_index = (simp tests at (none 2 (omega arith))).1

  used_count : count block ≤ most_for (is_first block index)
  unfolding block_rows
  used_count = (simp tests at (none 4 (omega arith))).1

  pub used_size_lem : n ≡ used_size block (is_first block index)
  unfolding block_rows verdict
  used_size_lem =
      let zero : first_of (block_rows block index) ≡ 0 = (none_iff (block_rows block index) refl).1 none in
      ap length_of (rw zero at (sym used))

  pub used_events : index ≢ 0 → event_count (used_part block (Used n)) ≤ most_events
  unfolding event_count
  used_events later =
      let many : count block ≤ most_events = rw (ne_eqb index 0 later) at used_count in
      let size : n ≡ event_size * count block = rw (ne_eqb index 0 later) at used_size_lem in
      let long : length (used_part block (Used n)) ≡ n = rw used at (used_length block index) in
      omega (arith, many, size, long)
