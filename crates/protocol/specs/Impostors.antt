-- RULES.md, 'The worked cases': four impostors. Each differs from `step` at a step of the printed case. An impostor
-- is given the state and the event, and its own first reply.
use Rattle.std.specs.Prelude.{ℕ, ◌≢◌}
use Rattle.input.specs.declared.Event.{Event}
use Rattle.protocol.specs.Events.{step}
use Rattle.protocol.specs.declared.State.{State}
use Rattle.protocol.specs.Replies.{Reply}
use Rattle.protocol.specs.Cases.{opening, event₁, event₂, reply₁, reply₂}

-- refuses everything, with whichever number
abbrev pub refusing : ℕ → Reply → State → Event → Reply
refusing n earlier s e = record { answer = n; state = s }

-- answers as it should, and hands the state back untouched
abbrev pub idling : Reply → State → Event → Reply
idling earlier s e = record { answer = (step s e).answer; state = s }

-- answers the same always: what it answered first
abbrev pub repeating : Reply → State → Event → Reply
repeating earlier s e = earlier

-- handles the first event, and then only claims to
abbrev pub claiming : Reply → State → Event → Reply
claiming earlier s e = record { answer = (step s e).answer; state = earlier.state }

-- at step 1
abbrev pub RefusingDiffers : Type 0
RefusingDiffers = (n : ℕ) → n ≢ 0 → refusing n reply₁ opening event₁ ≢ reply₁

-- at step 1
abbrev pub IdlingDiffers : Type 0
IdlingDiffers = idling reply₁ opening event₁ ≢ reply₁

-- at step 2
abbrev pub RepeatingDiffers : Type 0
RepeatingDiffers = repeating reply₁ reply₁.state event₂ ≢ reply₂

-- at step 2
abbrev pub ClaimingDiffers : Type 0
ClaimingDiffers = claiming reply₁ reply₁.state event₂ ≢ reply₂
