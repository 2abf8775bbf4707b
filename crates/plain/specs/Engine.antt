-- The plain engine answers as the rules do, and keeps the order of its state.
use Rattle.std.specs.Prelude.{ℕ, List, [], ◌∷◌, Result, Ok, Err, if◌then◌else◌}
use Rattle.numbers.specs.Answers.{number_of}
use Rattle.numbers.specs.Refusals.{not_sound}
use Rattle.numbers.specs.declared.answers.Refusal.{Refusal}
use Rattle.input.specs.declared.Setup.{Setup}
use Rattle.input.specs.declared.Event.{Event}
use Rattle.protocol.specs.Events.{begin, step}
use Rattle.protocol.specs.Replies.{Reply}
use Rattle.plain.specs.Orders.{ordered, is_ordered}
use Rattle.plain.specs.declared.Plain.{Plain}

-- the answer to a set-up or an event, and the session after it
pub record PlainReply : Type 0 where
  pub answer : ℕ
  pub session : Plain

-- what the code returns as a reply; where it refuses, the session is `kept`
abbrev pub plain_reply_from : Plain → Result Plain Refusal → PlainReply
plain_reply_from kept (Ok after) = record { answer = 0; session = after }
plain_reply_from kept (Err refusal) = record { answer = number_of refusal; session = kept }

-- a reply of the rules, with the order of its state
abbrev pub plain_reply : Reply → PlainReply
plain_reply r = record { answer = r.answer; session = ordered r.state }

-- the answer to a set-up, and the session that it begins with
unfoldable pub plain_begin : Setup → PlainReply
plain_begin c = plain_reply (begin c)

-- the answer to an event, and the session after it; a session that is not in the order of its state is not sound
unfoldable pub plain_step : Plain → Event → PlainReply
plain_step x e =
    if is_ordered x then plain_reply (step x.state e) else record { answer = not_sound; session = x }

-- the session after some events
unfoldable pub plain_run : Plain → List Event → Plain
plain_run x [] = x
plain_run x (e ∷ es) = plain_run (plain_step x e).session es
