-- The bytes of the events' payload: those of an event, and 0 where there is none. Assumes nothing.
use Prim.Native.Nat.{ℕ, ◌+◌, ◌*◌, ◌/◌, ◌%◌, ◌<◌, ◌≤◌}
use mathlib.Core.Path.{◌≡◌}
use native.Mathlib.Omega.{arith}
use lib.ListN.{get_or}
use borrow.Author.Tests.{lt-ltb, le-ltb}
use Rattle.search.proofs.Tables.{table_at, replicate_at}
use Rattle.input.specs.Layout.{event_size, event_bytes}
use Rattle.blocks.specs.Sizes.{payload_size}
use Rattle.input.specs.Kinds.{no_event}
use Rattle.writer.specs.EventBlocks.{event_of, events_byte, events_payload}
use Rattle.writer.specs.declared.Events.{Events}

module _ (x : Events) where
  pub events_at : (i : ℕ) → i < payload_size → get_or (events_payload x) i 0 ≡ events_byte x i
  unfolding events_payload
  events_at i h = table_at (events_byte x) payload_size i 0 h

  -- byte k of event j
  pub event_byte : (i j k : ℕ) → i ≡ event_size * j + k → k < event_size
      → events_byte x i ≡ get_or (event_bytes (event_of x j)) k 0
  unfolding events_byte
  event_byte i j k e h =
      let place : i / event_size ≡ j = omega arith in
      let field : i % event_size ≡ k = omega arith in
      rw (place, field)

  pub event_kept : (j : ℕ) → j < x.count → event_of x j ≡ get_or x.of j no_event
  unfolding event_of
  event_kept j h = rw (lt-ltb j x.count h)

  event_none : (j : ℕ) → x.count ≤ j → event_of x j ≡ no_event
  unfolding event_of
  event_none j h = rw (le-ltb j x.count h)

  -- from the count on all is 0
  pub events_none : (i : ℕ) → event_size * x.count ≤ i → events_byte x i ≡ 0
  unfolding events_byte
  events_none i h = rw (event_none (i / event_size) (omega arith)) (replicate_at 6 (i % event_size) 0)
