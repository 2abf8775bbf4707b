-- A block of bytes that the reader accepts as events is written again to the byte. Assumes nothing.
use Prim.Native.Nat.{ℕ, ◌+◌, ◌*◌, ◌/◌, ◌%◌, ◌<◌, ◌≤◌}
use mathlib.Core.Path.{◌≡◌, sym, ap, ◌∙◌}
use mathlib.Core.Bool.{true}
use mathlib.Core.List.{List}
use mathlib.Core.Logic.{◌≢◌}
use native.Mathlib.Omega.{arith}
use native.Mathlib.Decide.{dec_lt}
use lib.ListN.{length, get_or}
use borrow.Author.Tests.{ne_eqb}
use Rattle.search.specs.Below.{all_below}
use Rattle.search.specs.Words.{◌is◌}
use Rattle.search.proofs.Tables.{table_at}
use Rattle.search.proofs.Tests.{tests, and_iff}
use Rattle.input.specs.Layout.{byte, word, event_size, event_in, event_count, low, high, event_bytes}
use Rattle.input.specs.declared.Event.{Event}
use Rattle.blocks.specs.Sizes.{payload_at, payload_size, event_block, most_events}
use Rattle.blocks.specs.OneByte.{AreBytes}
use Rattle.blocks.specs.Verdicts.{Used, payload, count, is_blank, is_event_filled, verdict, used_part}
use Rattle.blocks.proofs.Limits.{used_size_lem}
use Rattle.blocks.proofs.Numbers.{used_length}
use Rattle.writer.specs.Sealed.{head_of}
use Rattle.writer.specs.Written.{lent_rows}
use Rattle.input.specs.Kinds.{no_event}
use Rattle.writer.specs.EventBlocks.{event_of, events_byte, events_payload, block_of_events, event_rows, events_written, events_read}
use Rattle.writer.specs.declared.Events.{Events}
use Rattle.writer.specs.RoundTrip.{EventsSame}
use Rattle.writer.proofs.Answers.{lent_zero, written_zero, EventsFree, free_events}
use Rattle.writer.proofs.Few.{below_six}
use Rattle.writer.proofs.Checked.{sealed_same}
use Rattle.writer.proofs.Reading.{Right, accepted_right, head_same, blank_at, part_at}
use Rattle.writer.proofs.EventPlaces.{events_at, event_byte, event_kept, events_none}

module _ (b : List ℕ) (index n : ℕ) (bytes : AreBytes b) (later : index ≢ 0) (used : verdict b index ≡ Used n) where
  abbrev read : List ℕ
  read = used_part b (Used n)

  abbrev x : Events
  x = events_read read

  well : Right b index
  well = accepted_right b index n used

  counted : (1 ≤ count b) × (count b ≤ most_events)
  counted = rw (ne_eqb index 0 later) at well.counted

  size : n ≡ event_size * count b
  size = rw (ne_eqb index 0 later) at (used_size_lem b index n used)

  count_same : x.count ≡ count b
  unfolding events_read event_count
  count_same =
      let long : length read ≡ n = rw used at (used_length b index) in
      omega (arith, long, size)

  filled : (all_below (count b) (λ i. payload b (event_size * i + 3) is 0) ≡ true)
      × (is_blank b (event_size * count b) payload_size ≡ true)
  unfolding is_event_filled
  filled = let z : is_event_filled b ≡ true = rw (ne_eqb index 0 later) at well.filled in simp and_iff at z

  at : (i : ℕ) → i < event_size * count b → byte read i ≡ payload b i
  at i h = part_at b n i (omega (arith, size))

  -- the bytes of the j-th event
  field_same : (j : ℕ) → j < count b → (k : ℕ) → k < event_size
      → get_or (event_bytes (event_in read j)) k 0 ≡ payload b (event_size * j + k)
  unfolding event_in
  field_same j h =
      let z : event_size * j + 0 ≡ event_size * j = omega arith in
      let five : event_size * j + 4 + 1 ≡ event_size * j + 5 = omega arith in
      let e0 : byte read (event_size * j) ≡ payload b (event_size * j + 0) = rw z (at (event_size * j) (omega arith)) in
      let e1 : byte read (event_size * j + 1) ≡ payload b (event_size * j + 1) = at (event_size * j + 1) (omega arith) in
      let e2 : byte read (event_size * j + 2) ≡ payload b (event_size * j + 2) = at (event_size * j + 2) (omega arith) in
      let e3 : 0 ≡ payload b (event_size * j + 3) = sym ((simp tests at filled.0) j h) in
      let r4 : byte read (event_size * j + 4) ≡ payload b (event_size * j + 4) = at (event_size * j + 4) (omega arith) in
      let r5 : byte read (event_size * j + 4 + 1) ≡ payload b (event_size * j + 5) =
      rw five (at (event_size * j + 5) (omega arith)) in
      let small : payload b (event_size * j + 4) < 256 = bytes (payload_at + (event_size * j + 4)) in
      let e4 : low (word read (event_size * j + 4)) ≡ payload b (event_size * j + 4) = omega (arith, r4, r5, small) in
      let e5 : high (word read (event_size * j + 4)) ≡ payload b (event_size * j + 5) = omega (arith, r4, r5, small) in
      below_six (λ k. get_or (event_bytes (event_in read j)) k 0 ≡ payload b (event_size * j + k)) e0 e1 e2 e3 e4 e5

  listed : (j : ℕ) → j < most_events → get_or x.of j no_event ≡ event_in read j
  unfolding events_read
  listed j l = table_at (event_in read) most_events j no_event l

  event_same : (j : ℕ) → j < count b → event_of x j ≡ event_in read j
  event_same j h = event_kept x j (omega (arith, count_same)) ∙ listed j (omega (arith, counted.1))

  byte_same : (i : ℕ) → i < payload_size → events_byte x i ≡ payload b i
  byte_same i h = elim (dec_lt (i / event_size) (count b)) [
    | yes l ↦
        let e : event_size * (i / event_size) + i % event_size ≡ i = omega arith in
        event_byte x i (i / event_size) (i % event_size) (sym e) (omega arith)
        ∙ ap (λ (y : Event). get_or (event_bytes y) (i % event_size) 0) (event_same (i / event_size) l)
        ∙ rw e at (field_same (i / event_size) l (i % event_size) (omega arith))
    | no d ↦ events_none x i (omega (arith, count_same)) ∙ sym (blank_at b _ _ filled.1 i (omega arith) h)
  ]

  again : block_of_events x index ≡ b
  unfolding block_of_events
  again =
      sealed_same (head_of index event_block x.count) (events_payload x) b bytes well.size well.checked
      (head_same b index bytes well event_block x.count (rw (ne_eqb index 0 later)) (sym count_same))
      (λ i h. sym (events_at x i h ∙ byte_same i h))

  nothing_refused : EventsFree x index
  nothing_refused = record {
    some = omega (arith, count_same, counted);
    few = omega (arith, count_same, counted);
    later = later;
    inside = well.inside;
  }

pub events_same : EventsSame
unfolding events_written
events_same b index n bytes later used out size =
    let x = events_read (used_part b (Used n)) in
    let free = free_events x index (nothing_refused b index n bytes later used) in
    written_zero (lent_rows out (event_rows x index)) (block_of_events x index) out
    (lent_zero out (event_rows x index) size free)
    ∙ rw (again b index n bytes later used)
