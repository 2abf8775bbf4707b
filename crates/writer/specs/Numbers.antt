-- RULES.md, 'Writing blocks' and 'Numbers handed back': each number of the writer is given exactly when its row is
-- the first that applies, and 0 when none does. Row 0 is that of the lent block's size. On refusal that block stays
-- as lent.
use Rattle.std.specs.Prelude.{ℕ, ◌≡◌, List, ◌≢◌, ◌↔◌}
use Rattle.numbers.specs.Refusals.{count_outside, period_zero, kind_unknown, pair_stray, long_in_short, number_wrong, record_count_wrong, room_wrong}
use Rattle.numbers.specs.Numbered.{FirstAt, NoneApplies}
use Rattle.input.specs.declared.Setup.{Setup}
use Rattle.setups.specs.Refusals.{setup_rows}
use Rattle.writer.specs.EventBlocks.{event_rows, events_written}
use Rattle.writer.specs.SetupBlocks.{setup_written}
use Rattle.writer.specs.Written.{lent_rows}
use Rattle.writer.specs.declared.Events.{Events}

-- of a set-up to be written
pub record SetupWriteNumbers (c : Setup) (out : List ℕ) : Type 0 where
  pub written : ((setup_written c out).0 ≡ 0) ↔ NoneApplies (lent_rows out (setup_rows c))
  pub for_size_wrong : ((setup_written c out).0 ≡ room_wrong) ↔ FirstAt (lent_rows out (setup_rows c)) 0
  pub for_count_outside : ((setup_written c out).0 ≡ count_outside) ↔ FirstAt (lent_rows out (setup_rows c)) 1
  pub for_period_zero : ((setup_written c out).0 ≡ period_zero) ↔ FirstAt (lent_rows out (setup_rows c)) 2
  pub for_kind_unknown : ((setup_written c out).0 ≡ kind_unknown) ↔ FirstAt (lent_rows out (setup_rows c)) 3
  pub for_pair_stray : ((setup_written c out).0 ≡ pair_stray) ↔ FirstAt (lent_rows out (setup_rows c)) 4
  pub for_long_in_short : ((setup_written c out).0 ≡ long_in_short) ↔ FirstAt (lent_rows out (setup_rows c)) 5
  pub kept : (setup_written c out).0 ≢ 0 → (setup_written c out).1 ≡ out

-- of events to be written
pub record EventsWriteNumbers (x : Events) (index : ℕ) (out : List ℕ) : Type 0 where
  pub written : ((events_written x index out).0 ≡ 0) ↔ NoneApplies (lent_rows out (event_rows x index))
  pub for_size_wrong : ((events_written x index out).0 ≡ room_wrong) ↔ FirstAt (lent_rows out (event_rows x index)) 0
  pub count_wrong : ((events_written x index out).0 ≡ record_count_wrong)
      ↔ FirstAt (lent_rows out (event_rows x index)) 1
  pub index_wrong : ((events_written x index out).0 ≡ number_wrong) ↔ FirstAt (lent_rows out (event_rows x index)) 2
  pub kept : (events_written x index out).0 ≢ 0 → (events_written x index out).1 ≡ out
