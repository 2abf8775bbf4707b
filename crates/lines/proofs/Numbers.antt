-- Each number of a line is given exactly when its row is the first that applies, and 0 when none does. Assumes nothing.
use Prim.Native.Nat.{ℕ, ◌<◌}
use native.Mathlib.Nat.{not-suc-le-zero}
use mathlib.Core.Path.{◌≡◌, refl}
use mathlib.Core.Bool.{true}
use mathlib.Core.List.{List}
use mathlib.Core.Logic.{◌≢◌, ◌↔◌}
use native.Mathlib.Omega.{arith}
use native.Mathlib.Decide.{ℕ_discrete}
use lib.ListN.{length}
use borrow.Author.Tests.{ne_eqb, lt-ltb, ltb-true}
use Rattle.numbers.specs.Rows.{Row, first_of}
use Rattle.numbers.specs.Numbered.{is_numbered, is_at_row, FirstAt, NoneApplies}
use Rattle.numbers.proofs.Refusals.{none_iff, number_iff}
use Rattle.protocol.specs.declared.State.{State}
use Rattle.lines.specs.Buffers.{line_limit, line_into, narrow}
use Rattle.lines.specs.StateLines.{state_rows, task_rows}
use Rattle.lines.specs.Numbers.{LineNumbers}

number_first : (rows : List Row) (text out : List ℕ) → (line_into rows text out).0.number ≡ first_of rows
unfolding line_into
number_first rows text out = elim (ℕ_discrete (first_of rows) 0) [ yes e ↦ rw e | no d ↦ rw (ne_eqb _ _ d) ]

given_none : (rows : List Row) (text out : List ℕ) → is_numbered rows ≡ true → ((line_into rows text out).0.number ≡ 0) ↔ NoneApplies rows
given_none rows text out t = rw (number_first rows text out) (none_iff rows t)

given_at : (rows : List Row) (text out : List ℕ) (n i : ℕ) → n ≢ 0 → is_at_row rows n i ≡ true → ((line_into rows text out).0.number ≡ n) ↔ FirstAt rows i
given_at rows text out n i d m = rw (number_first rows text out) (number_iff rows n i d m)

narrow_iff : (text out : List ℕ) → ((line_into (narrow out) text out).0.number ≡ 36) ↔ (length out < line_limit)
narrow_iff text out =
    let at = given_at (narrow out) text out 36 0 (λ e. omega arith) refl in (
      (λ e. ltb-true _ _ (at.0 e).applies),
      λ l. at.1 (record { applies = lt-ltb _ _ l; earlier = λ k m. absurd (not-suc-le-zero m) }),
    )

pub line_numbers : (s : State) (out : List ℕ) → LineNumbers s out
line_numbers s out = record {
  first_accepted = given_none (state_rows s out) _ out refl;
  first_unsound = given_at (state_rows s out) _ out 9 0 (λ e. omega arith) refl;
  first_narrow = given_at (state_rows s out) _ out 36 1 (λ e. omega arith) refl;
  event_accepted = λ number answer. given_none (state_rows s out) _ out refl;
  event_unsound = λ number answer. given_at (state_rows s out) _ out 9 0 (λ e. omega arith) refl;
  event_narrow = λ number answer. given_at (state_rows s out) _ out 36 1 (λ e. omega arith) refl;
  task_accepted = λ t. given_none (task_rows s t out) _ out refl;
  task_unsound = λ t. given_at (task_rows s t out) _ out 9 0 (λ e. omega arith) refl;
  for_task_unknown = λ t. given_at (task_rows s t out) _ out 11 1 (λ e. omega arith) refl;
  task_narrow = λ t. given_at (task_rows s t out) _ out 36 2 (λ e. omega arith) refl;
  narrow_alone = λ text. narrow_iff text out;
}
