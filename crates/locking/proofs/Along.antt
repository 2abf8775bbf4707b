-- A part of events, event by event: what stays, and what one more does. Assumes nothing.
use Rattle.std.proofs.Common.{◌≡◌, ℕ, zero, suc, ◌+◌, ◌*◌, ◌<◌, ◌≤◌, List, [], ◌∷◌, length, get_or, set, refl, ap, ◌∙◌, add-one, arith, get_or-set_other, get_or-set_same}
use Rattle.input.specs.Layout.{event_in, event_count, event_bytes}
use Rattle.input.proofs.Bytes.{event_read}
use Rattle.input.specs.declared.Event.{Event}
use Rattle.numbers.specs.Limits.{most_processors}
use Rattle.protocol.specs.Events.{step}
use Rattle.protocol.specs.declared.State.{State}
use Rattle.states.specs.Writing.{snapshot_size, places, snapshot_of, written}
use Rattle.locking.specs.Playing.{playable, played_to, reply_to, written_to, played}
use Rattle.states.proofs.Writing.{written_long}

-- ---- the state
module _ (s : State) (part : List ℕ) where
  -- one event more
  pub played_turn : (n : ℕ) (x : State) → x ≡ (reply_to s part n).state → x ≡ played_to s part (n + 1)
  unfolding played_to
  played_turn n x h = rw (add-one n) h

-- ---- the buffer
module _ (s : State) (part out : List ℕ) where
  pub long_along : (n : ℕ) → length (written_to s part out n) ≡ length out
  unfolding written_to
  long_along zero = refl
  long_along (suc n) = written_long (written_to s part out n) _ _ ∙ long_along n

  -- there is room for the line of a playable event
  pub room_along : (n : ℕ) → n < playable part out → snapshot_size * n + snapshot_size ≤ length (written_to s part out n)
  unfolding playable
  room_along n l = omega (arith, long_along n)

  -- one event more
  pub buffer_turn : (n answer : ℕ) (x : State) (line : List ℕ) → answer ≡ (reply_to s part n).answer → x ≡ (reply_to s part n).state → line ≡ snapshot_of answer x.processors
      → written (written_to s part out n) (snapshot_size * n) line ≡ written_to s part out (n + 1)
  unfolding written_to
  buffer_turn n answer x line a h l = rw (add-one n, l, a, h)

-- ---- a part of one event, as its six bytes, is that event by call
written_kept : (bytes : List ℕ) (at : ℕ) (text : List ℕ) (i : ℕ) → i < at → get_or (written bytes at text) i 0 ≡ get_or bytes i 0
unfolding written
written_kept bytes at [] i l = refl
written_kept bytes at (x ∷ text) i l = written_kept (set bytes at x) (suc at) text i (omega arith) ∙ get_or-set_other bytes at i x 0 (λ q. omega (arith, q))

module _ (s : State) (e : Event) (out : List ℕ) (long : length out ≡ snapshot_size) where
  one_event : playable (event_bytes e) out ≡ 1
  unfolding playable event_count
  one_event = rw long

  pub one_state : (played s (event_bytes e) out).0.state ≡ (step s e).state
  unfolding played played_to
  one_state = ap (λ (n : ℕ). played_to s (event_bytes e) n) one_event ∙ ap (λ (x : Event). (step s x).state) (event_read e)

  pub one_answer : get_or (played s (event_bytes e) out).1 0 0 ≡ (step s e).answer
  unfolding played written_to played_to snapshot_of written
  one_answer =
      let r = step s (event_in (event_bytes e) 0) in
      ap (λ (n : ℕ). get_or (written_to s (event_bytes e) out n) 0 0) one_event
      ∙ written_kept (set out 0 r.answer) 1 (places r.state.processors most_processors) 0 (omega arith) ∙ get_or-set_same out 0 r.answer 0 (omega (arith, long)) ∙ ap (λ (x : Event). (step s x).answer) (event_read e)
