-- Each number of a set-up is given exactly when its row is the first that applies, and 0 when none does. Assumes nothing.
use Prim.Native.Nat.{ℕ}
use mathlib.Core.Path.{◌≡◌, refl}
use mathlib.Core.Bool.{true}
use mathlib.Core.Logic.{◌≢◌, ◌↔◌}
use native.Mathlib.Omega.{arith}
use Rattle.numbers.specs.Numbered.{is_at_row, FirstAt}
use Rattle.numbers.proofs.Refusals.{none_iff, number_iff}
use Rattle.setups.specs.Refusals.{setup_rows, setup_refusal}
use Rattle.setups.specs.Numbers.{SetupNumbers}
use Rattle.input.specs.declared.Setup.{Setup}

given_at : (c : Setup) (n i : ℕ) → n ≢ 0 → is_at_row (setup_rows c) n i ≡ true → (setup_refusal c ≡ n) ↔ FirstAt (setup_rows c) i
unfolding setup_refusal
given_at c n i d m = number_iff (setup_rows c) n i d m

pub setup_numbers : (c : Setup) → SetupNumbers c
unfolding setup_rows setup_refusal
setup_numbers c = record {
  accepted = none_iff (setup_rows c) refl;
  for_count_outside = given_at c 1 0 (λ e. omega arith) refl;
  for_period_zero = given_at c 2 1 (λ e. omega arith) refl;
  for_kind_unknown = given_at c 3 2 (λ e. omega arith) refl;
  for_pair_stray = given_at c 4 3 (λ e. omega arith) refl;
  for_long_in_short = given_at c 5 4 (λ e. omega arith) refl;
}
