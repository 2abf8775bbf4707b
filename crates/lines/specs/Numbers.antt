-- RULES.md, 'Printing': each number of a line is given exactly when its row is the first that applies, and 0 when
-- none does.
use Rattle.std.specs.Prelude.{ℕ, ◌<◌, ◌≡◌, List, ◌↔◌, length}
use Rattle.numbers.specs.Refusals.{not_sound, task_unknown, buffer_short}
use Rattle.numbers.specs.Numbered.{FirstAt, NoneApplies}
use Rattle.protocol.specs.declared.State.{State}
use Rattle.lines.specs.Buffers.{line_limit, line_into, narrow}
use Rattle.lines.specs.StateLines.{state_rows, task_rows, first_line, event_line, task_line}

pub record LineNumbers (s : State) (out : List ℕ) : Type 0 where
  pub first_accepted : ((first_line out s).0.number ≡ 0) ↔ NoneApplies (state_rows s out)
  pub first_unsound : ((first_line out s).0.number ≡ not_sound) ↔ FirstAt (state_rows s out) 0
  pub first_narrow : ((first_line out s).0.number ≡ buffer_short) ↔ FirstAt (state_rows s out) 1
  pub event_accepted : (number answer : ℕ)
      → ((event_line out s number answer).0.number ≡ 0) ↔ NoneApplies (state_rows s out)
  pub event_unsound : (number answer : ℕ)
      → ((event_line out s number answer).0.number ≡ not_sound) ↔ FirstAt (state_rows s out) 0
  pub event_narrow : (number answer : ℕ)
      → ((event_line out s number answer).0.number ≡ buffer_short) ↔ FirstAt (state_rows s out) 1
  pub task_accepted : (t : ℕ) → ((task_line out s t).0.number ≡ 0) ↔ NoneApplies (task_rows s t out)
  pub task_unsound : (t : ℕ) → ((task_line out s t).0.number ≡ not_sound) ↔ FirstAt (task_rows s t out) 0
  pub for_task_unknown : (t : ℕ) → ((task_line out s t).0.number ≡ task_unknown) ↔ FirstAt (task_rows s t out) 1
  pub task_narrow : (t : ℕ) → ((task_line out s t).0.number ≡ buffer_short) ↔ FirstAt (task_rows s t out) 2
  -- and for any line that needs no state
  pub narrow_alone : (text : List ℕ)
      → ((line_into (narrow out) text out).0.number ≡ buffer_short) ↔ (length out < line_limit)
