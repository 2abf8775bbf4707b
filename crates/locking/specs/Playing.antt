-- A part of events played: the state after each, and what is written of each into a lent buffer.
use Rattle.std.specs.Prelude.{ℕ, zero, suc, ◌*◌, ◌/◌, min, List, length}
use Rattle.input.specs.Layout.{event_in, event_count}
use Rattle.protocol.specs.Events.{step}
use Rattle.protocol.specs.declared.State.{State}
use Rattle.protocol.specs.Replies.{Reply}
use Rattle.locking.specs.declared.Played.{Played}
use Rattle.states.specs.Writing.{snapshot_size, snapshot_of, written}

-- as many events as the part has whole and the buffer has room for
unfoldable pub playable : List ℕ → List ℕ → ℕ
playable part out = min (event_count part) (length out / snapshot_size)

-- the answer to event n of a part, and the state after it, from the state before it
abbrev reply_from : List ℕ → ℕ → State → Reply
reply_from part n s = step s (event_in part n)

module _ (s : State) (part : List ℕ) where
  -- the state after the first n events
  unfoldable pub played_to : ℕ → State
  played_to zero = s
  played_to (suc n) = (reply_from part n (played_to n)).state

  -- the answer to event n, and the state after it
  abbrev pub reply_to : ℕ → Reply
  reply_to n = reply_from part n (played_to n)

  -- the snapshot of event n
  abbrev pub snapshot_at : ℕ → List ℕ
  snapshot_at n = snapshot_of (reply_to n).answer (reply_to n).state.processors

module _ (s : State) (part out : List ℕ) where
  -- the buffer after the first n events
  unfoldable pub written_to : ℕ → List ℕ
  written_to zero = out
  written_to (suc n) = written (written_to n) (snapshot_size * n) (snapshot_at s part n)

  -- the state after all events that are played, how many they are, and the buffer
  unfoldable pub played : Played × List ℕ
  played =
      let n = playable part out in
      (record { state = played_to s part n; count = n }, written_to n)
