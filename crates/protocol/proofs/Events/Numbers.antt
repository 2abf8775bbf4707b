-- Each number of an event is given exactly when its row is the first that applies, and 0 when none does. Assumes nothing.
use Prim.Native.Nat.{ℕ}
use mathlib.Core.Path.{◌≡◌, refl}
use mathlib.Core.Bool.{true}
use mathlib.Core.Logic.{◌≢◌, ◌↔◌}
use native.Mathlib.Omega.{arith}
use Rattle.numbers.specs.Numbered.{is_at_row, FirstAt}
use Rattle.numbers.proofs.Refusals.{none_iff, number_iff}
use Rattle.input.specs.declared.Event.{Event}
use Rattle.protocol.specs.Refusals.{event_rows, judge}
use Rattle.protocol.specs.Numbers.{EventNumbers}
use Rattle.protocol.specs.declared.State.{State}

given_at : (s : State) (e : Event) (n i : ℕ) → n ≢ 0 → is_at_row (event_rows s e) n i ≡ true → (judge s e ≡ n) ↔ FirstAt (event_rows s e) i
unfolding judge
given_at s e n i d m = number_iff (event_rows s e) n i d m

pub event_numbers : (s : State) (e : Event) → EventNumbers s e
unfolding event_rows judge
event_numbers s e = record {
  accepted = none_iff (event_rows s e) refl;
  for_not_sound = given_at s e 9 0 (λ e. omega arith) refl;
  for_kind_unknown = given_at s e 10 1 (λ e. omega arith) refl;
  for_task_unknown = given_at s e 11 2 (λ e. omega arith) refl;
  for_resource_unknown = given_at s e 12 3 (λ e. omega arith) refl;
  for_field_unused = given_at s e 13 4 (λ e. omega arith) refl;
  for_step_backward = given_at s e 14 5 (λ e. omega arith) refl;
  clock_past = given_at s e 15 6 (λ e. omega arith) refl;
  arrives_pending = given_at s e 16 7 (λ e. omega arith) refl;
  for_arrives_early = given_at s e 17 8 (λ e. omega arith) refl;
  no_job = given_at s e 18 9 (λ e. omega arith) refl;
  job_suspended = given_at s e 26 10 (λ e. omega arith) refl;
  for_on_no_processor = given_at s e 19 11 (λ e. omega arith) refl;
  job_spins = given_at s e 20 12 (λ e. omega arith) refl;
  for_finishes_open = given_at s e 21 13 (λ e. omega arith) refl;
  asks_again = given_at s e 22 14 (λ e. omega arith) refl;
  asks_misplaced = given_at s e 23 15 (λ e. omega arith) refl;
  asks_ninth = given_at s e 24 16 (λ e. omega arith) refl;
  for_not_newest = given_at s e 25 17 (λ e. omega arith) refl;
}
