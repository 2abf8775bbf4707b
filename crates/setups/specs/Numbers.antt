-- RULES.md, 'Numbers handed back': each number of a set-up is given exactly when its row is the first that applies,
-- and 0 when none does.
use Rattle.std.specs.Prelude.{◌≡◌, ◌↔◌}
use Rattle.numbers.specs.Refusals.{count_outside, period_zero, kind_unknown, pair_stray, long_in_short}
use Rattle.numbers.specs.Numbered.{FirstAt, NoneApplies}
use Rattle.setups.specs.Refusals.{setup_rows, setup_refusal}
use Rattle.input.specs.declared.Setup.{Setup}

pub record SetupNumbers (c : Setup) : Type 0 where
  pub accepted : (setup_refusal c ≡ 0) ↔ NoneApplies (setup_rows c)
  pub for_count_outside : (setup_refusal c ≡ count_outside) ↔ FirstAt (setup_rows c) 0
  pub for_period_zero : (setup_refusal c ≡ period_zero) ↔ FirstAt (setup_rows c) 1
  pub for_kind_unknown : (setup_refusal c ≡ kind_unknown) ↔ FirstAt (setup_rows c) 2
  pub for_pair_stray : (setup_refusal c ≡ pair_stray) ↔ FirstAt (setup_rows c) 3
  pub for_long_in_short : (setup_refusal c ≡ long_in_short) ↔ FirstAt (setup_rows c) 4
