-- RULES.md, 'Numbers handed back': each number of an event is given exactly when its row is the first that applies,
-- and 0 when none does.
use Rattle.std.specs.Prelude.{◌≡◌, ◌↔◌}
use Rattle.numbers.specs.Refusals.{not_sound, event_unknown, task_unknown, resource_unknown, field_unused, step_backward, clock_past_end, already_pending, arrives_early, not_pending, is_suspended, on_no_processor, is_spinning, finishes_open, already_open, wrongly_nested, too_many_open, not_newest}
use Rattle.numbers.specs.Numbered.{FirstAt, NoneApplies}
use Rattle.input.specs.declared.Event.{Event}
use Rattle.protocol.specs.Refusals.{event_rows, judge}
use Rattle.protocol.specs.declared.State.{State}

pub record EventNumbers (s : State) (e : Event) : Type 0 where
  pub accepted : (judge s e ≡ 0) ↔ NoneApplies (event_rows s e)
  pub for_not_sound : (judge s e ≡ not_sound) ↔ FirstAt (event_rows s e) 0
  pub for_kind_unknown : (judge s e ≡ event_unknown) ↔ FirstAt (event_rows s e) 1
  pub for_task_unknown : (judge s e ≡ task_unknown) ↔ FirstAt (event_rows s e) 2
  pub for_resource_unknown : (judge s e ≡ resource_unknown) ↔ FirstAt (event_rows s e) 3
  pub for_field_unused : (judge s e ≡ field_unused) ↔ FirstAt (event_rows s e) 4
  pub for_step_backward : (judge s e ≡ step_backward) ↔ FirstAt (event_rows s e) 5
  pub clock_past : (judge s e ≡ clock_past_end) ↔ FirstAt (event_rows s e) 6
  pub arrives_pending : (judge s e ≡ already_pending) ↔ FirstAt (event_rows s e) 7
  pub for_arrives_early : (judge s e ≡ arrives_early) ↔ FirstAt (event_rows s e) 8
  pub no_job : (judge s e ≡ not_pending) ↔ FirstAt (event_rows s e) 9
  pub job_suspended : (judge s e ≡ is_suspended) ↔ FirstAt (event_rows s e) 10
  pub for_on_no_processor : (judge s e ≡ on_no_processor) ↔ FirstAt (event_rows s e) 11
  pub job_spins : (judge s e ≡ is_spinning) ↔ FirstAt (event_rows s e) 12
  pub for_finishes_open : (judge s e ≡ finishes_open) ↔ FirstAt (event_rows s e) 13
  pub asks_again : (judge s e ≡ already_open) ↔ FirstAt (event_rows s e) 14
  pub asks_misplaced : (judge s e ≡ wrongly_nested) ↔ FirstAt (event_rows s e) 15
  pub asks_ninth : (judge s e ≡ too_many_open) ↔ FirstAt (event_rows s e) 16
  pub for_not_newest : (judge s e ≡ not_newest) ↔ FirstAt (event_rows s e) 17
