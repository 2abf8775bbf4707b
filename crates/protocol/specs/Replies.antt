-- What is handed back for a set-up or an event: a number of the list and a state.
use Rattle.std.specs.Prelude.{ℕ, Result, Ok, Err}
use Rattle.numbers.specs.Answers.{number_of}
use Rattle.numbers.specs.declared.answers.Refusal.{Refusal}
use Rattle.protocol.specs.declared.State.{State}

-- the answer to a set-up or an event, and the state after it
pub record Reply : Type 0 where
  pub answer : ℕ
  pub state : State

-- what the code returns as a reply; where it refuses, the state is `kept`
abbrev pub reply_from : State → Result State Refusal → Reply
reply_from kept (Ok after) = record { answer = 0; state = after }
reply_from kept (Err refusal) = record { answer = number_of refusal; state = kept }
