-- Each number of the writer is given exactly when its row is the first that applies, and 0 when none does; on refusal
-- the block stays as lent. Assumes nothing.
use Prim.Native.Nat.{ℕ}
use mathlib.Core.Path.{refl}
use mathlib.Core.List.{List}
use native.Mathlib.Omega.{arith}
use Rattle.numbers.proofs.Refusals.{none_iff, number_iff}
use Rattle.input.specs.declared.Setup.{Setup}
use Rattle.setups.specs.Refusals.{setup_rows}
use Rattle.writer.specs.EventBlocks.{block_of_events, event_rows, events_written}
use Rattle.writer.specs.Numbers.{SetupWriteNumbers, EventsWriteNumbers}
use Rattle.writer.specs.SetupBlocks.{block_of_setup, setup_written}
use Rattle.writer.specs.Written.{lent_rows}
use Rattle.writer.specs.declared.Events.{Events}
use Rattle.writer.proofs.Answers.{written_kept}

pub setup_write_numbers : (c : Setup) (out : List ℕ) → SetupWriteNumbers c out
unfolding setup_written setup_rows
setup_write_numbers c out = record {
  written = none_iff (lent_rows out (setup_rows c)) refl;
  for_size_wrong = number_iff (lent_rows out (setup_rows c)) 37 0 (λ e. omega arith) refl;
  for_count_outside = number_iff (lent_rows out (setup_rows c)) 1 1 (λ e. omega arith) refl;
  for_period_zero = number_iff (lent_rows out (setup_rows c)) 2 2 (λ e. omega arith) refl;
  for_kind_unknown = number_iff (lent_rows out (setup_rows c)) 3 3 (λ e. omega arith) refl;
  for_pair_stray = number_iff (lent_rows out (setup_rows c)) 4 4 (λ e. omega arith) refl;
  for_long_in_short = number_iff (lent_rows out (setup_rows c)) 5 5 (λ e. omega arith) refl;
  kept = written_kept (lent_rows out (setup_rows c)) (block_of_setup c) out;
}

pub events_write_numbers : (x : Events) (index : ℕ) (out : List ℕ) → EventsWriteNumbers x index out
unfolding events_written event_rows
events_write_numbers x index out = record {
  written = none_iff (lent_rows out (event_rows x index)) refl;
  for_size_wrong = number_iff (lent_rows out (event_rows x index)) 37 0 (λ e. omega arith) refl;
  count_wrong = number_iff (lent_rows out (event_rows x index)) 34 1 (λ e. omega arith) refl;
  index_wrong = number_iff (lent_rows out (event_rows x index)) 32 2 (λ e. omega arith) refl;
  kept = written_kept (lent_rows out (event_rows x index)) (block_of_events x index) out;
}
