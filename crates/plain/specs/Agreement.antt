-- The two engines agree: from any set-up, a refused one too, over any events, refused ones among them, the plain engine
-- gives the answers of the rules and has their states; and these are what `locking::step` gives, by its contract. What
-- is printed of an event is its answer and the processors of the state after it; a task's totals are in the state.
use Rattle.std.specs.Prelude.{ℕ, ◌≡◌, List, get_or, take}
use Rattle.input.specs.Kinds.{no_event}
use Rattle.input.specs.declared.Setup.{Setup}
use Rattle.input.specs.declared.Event.{Event}
use Rattle.protocol.specs.Words.{task}
use Rattle.protocol.specs.Events.{begin, run, reply_at}
use Rattle.states.specs.Writing.{snapshot_of}
use Rattle.plain.specs.Engine.{PlainReply, plain_begin, plain_step, plain_run}

-- the plain engine's answer to event n of a list, and the session after it
abbrev pub plain_reply_at : Setup → List Event → ℕ → PlainReply
plain_reply_at c es n = plain_step (plain_run (plain_begin c).session (take n es)) (get_or es n no_event)

-- the set-up's answer; each event's answer, and the snapshot that its line is made of; each task's totals
pub record EnginesAgree (c : Setup) (es : List Event) : Type 0 where
  pub setup : (plain_begin c).answer ≡ (begin c).answer
  pub answers : (n : ℕ) → (plain_reply_at c es n).answer ≡ (reply_at (begin c).state es n).answer
  pub lines : (n : ℕ) → let r = plain_reply_at c es n in let r' = reply_at (begin c).state es n in
      snapshot_of r.answer r.session.state.processors ≡ snapshot_of r'.answer r'.state.processors
  pub totals : (t : ℕ) → (task (plain_run (plain_begin c).session es).state t).totals
      ≡ (task (run (begin c).state es) t).totals
  -- and all else that a state holds
  pub states : (plain_run (plain_begin c).session es).state ≡ run (begin c).state es

-- that holds of every set-up and all events
abbrev pub EnginesAlwaysAgree : Type 0
EnginesAlwaysAgree = (c : Setup) (es : List Event) → EnginesAgree c es
