-- What is written of events the reader accepts and reads back, all of them, places past the count being empty. Assumes
-- nothing.
use Prim.Native.Nat.{ℕ, ◌+◌, ◌*◌, ◌/◌, ◌%◌, ◌<◌}
use mathlib.Core.Path.{◌≡◌, refl, sym, ◌∙◌}
use mathlib.Core.Bool.{true}
use mathlib.Core.List.{List}
use native.Mathlib.Omega.{arith}
use native.Mathlib.Decide.{dec_lt}
use lib.ListN.{length, get_or, get_or-eq_default}
use borrow.Author.Tests.{ne_eqb}
use Rattle.search.specs.Below.{all_below}
use Rattle.search.specs.Words.{◌is◌}
use Rattle.search.proofs.Tables.{table_same}
use Rattle.search.proofs.Tests.{tests}
use Rattle.input.specs.Layout.{byte, event_size, event_in, event_count, low, high, event_bytes}
use Rattle.input.proofs.Bytes.{event_of_bytes}
use Rattle.blocks.specs.Sizes.{payload_size, event_block, most_events}
use Rattle.blocks.specs.Verdicts.{Used, payload, count, is_blank, is_event_filled, verdict, used_part}
use Rattle.blocks.proofs.Numbers.{used_length}
use Rattle.writer.specs.Sealed.{head_of, sealed}
use Rattle.writer.specs.EventBlocks.{event_of, kept, events_byte, events_payload, block_of_events, event_rows, events_written, events_read}
use Rattle.writer.specs.declared.Events.{Events}
use Rattle.writer.specs.RoundTrip.{EventsAccepted, EventsBack, EachEventBack}
use Rattle.writer.proofs.Answers.{lent_free, EventsFree, events_free}
use Rattle.writer.proofs.Checked.{sealed_length, sealed_head, sealed_payload, sealed_checked}
use Rattle.writer.proofs.Reading.{Right, right_accepted, blank_of, part_at}
use Rattle.writer.proofs.EventPlaces.{events_at, event_byte, event_kept, events_none}

module _ (x : Events) (index : ℕ) (free : EventsFree x index) where
  abbrev head : List ℕ
  head = head_of index event_block x.count

  abbrev block : List ℕ
  block = sealed head (events_payload x)

  load_at : (i : ℕ) → i < payload_size → payload block i ≡ events_byte x i
  load_at i h = sealed_payload head (events_payload x) i h ∙ events_at x i h

  count_at : count block ≡ x.count
  count_at = sealed_head head (events_payload x) 3 (omega arith)

  filled : is_event_filled block ≡ true
  unfolding is_event_filled
  filled =
      let few = free.few in
      let n = count_at in
      let reserve : all_below (count block) (λ i. payload block (event_size * i + 3) is 0) ≡ true =
      simp tests
      (λ i l. load_at (event_size * i + 3) (omega arith) ∙ event_byte x (event_size * i + 3) i 3 refl (omega arith)) in
      let rest : is_blank block (event_size * count block) payload_size ≡ true =
      blank_of block _ _ (λ i l h. load_at i h ∙ events_none x i (omega arith)) in
      rw (reserve, rest)

  right : Right block index
  right =
      let first = ne_eqb index 0 free.later in
      let a : byte block 0 ≡ low (index % 65536) = sealed_head head (events_payload x) 0 (omega arith) in
      let b : byte block 1 ≡ high (index % 65536) = sealed_head head (events_payload x) 1 (omega arith) in
      let few = free.few in
      let some = free.some in
      record {
        size = sealed_length head (events_payload x);
        checked = sealed_checked head (events_payload x);
        number = omega (arith, a, b);
        inside = free.inside;
        kind = rw first (sealed_head head (events_payload x) 2 (omega arith));
        counted = rw first (omega (arith, count_at), omega (arith, count_at));
        filled = rw first filled;
      }

  block_accepted : verdict block index ≡ Used (event_size * x.count)
  block_accepted =
      let first = ne_eqb index 0 free.later in
      right_accepted block index right ∙ rw (first, count_at)

  -- ---- what is read of it
  abbrev part : List ℕ
  part = used_part block (Used (event_size * x.count))

  length_back : length part ≡ event_size * x.count
  length_back = rw block_accepted at (used_length block index)

  read_at : (i : ℕ) → i < payload_size → byte part i ≡ events_byte x i
  read_at i h = elim (dec_lt i (event_size * x.count)) [
    | yes l ↦ part_at block (event_size * x.count) i l ∙ load_at i h
    | no d ↦ get_or-eq_default part 0 (omega (arith, length_back)) ∙ sym (events_none x i (omega arith))
  ]

  field_at : (j k : ℕ) → j < most_events → k < event_size
      → byte part (event_size * j + k) ≡ get_or (event_bytes (event_of x j)) k 0
  field_at j k l h = read_at (event_size * j + k) (omega arith) ∙ event_byte x (event_size * j + k) j k refl h

  event_back : (j : ℕ) → j < most_events → event_in part j ≡ event_of x j
  event_back j h = event_of_bytes part j (event_of x j) (λ k l. field_at j k h l)

  block_back : events_read part ≡ kept x
  unfolding events_read kept event_count
  block_back =
      let n : length part / event_size ≡ x.count = omega (arith, length_back) in
      rw (n, table_same (event_in part) (event_of x) most_events event_back)

module _ (x : Events) (index : ℕ) (out : List ℕ) (h : (events_written x index out).0 ≡ 0) where
  free : EventsFree x index
  unfolding events_written
  free = events_free x index (lent_free out (event_rows x index) h).1

  written : (events_written x index out).1 ≡ block_of_events x index
  unfolding events_written
  written = rw h

pub events_accepted : EventsAccepted
unfolding block_of_events
events_accepted x index out h = rw (written x index out h) (block_accepted x index (free x index out h))

pub events_back : EventsBack
unfolding block_of_events
events_back x index out h =
    rw (written x index out h, block_accepted x index (free x index out h)) (block_back x index (free x index out h))

pub each_event_back : EachEventBack
unfolding block_of_events
each_event_back x index out h i l =
    let f = free x index out h in
    rw (written x index out h, block_accepted x index f)
    (event_back x index f i (omega (arith, f.few)) ∙ event_kept x i l)
