-- A draft whose set-up has ended: where all items are taken, the reader accepts each block from it on, and reads the
-- events that it holds and those that the items say. By the items, forward. Assumes nothing.
use Prim.Native.Nat.{ℕ, zero, suc, ◌+◌, ◌<◌, ◌≤◌}
use mathlib.Core.Path.{◌≡◌, refl, sym, ap, subst, ◌∙◌}
use mathlib.Core.Bool.{Bool, true, false}
use mathlib.Core.List.{List, [], ◌∷◌, ◌++◌}
use mathlib.Core.Logic.{◌≢◌}
use native.Mathlib.Omega.{arith}
use lib.Dec.{eqb, leb}
use lib.ListN.{length, get_or, take, length-set, length-replicate}
use lib.Seq.{length-take-le, get_or-take, take-suc-set, append_snoc}
use borrow.Author.Tests.{eq-eqb, eqb-true, leb-false}
use Rattle.search.proofs.Tables.{table_of}
use Rattle.search.proofs.Tests.{never}
use Rattle.input.specs.Kinds.{no_event}
use Rattle.input.specs.Layout.{event_in, event_count, events_in}
use Rattle.input.specs.declared.Setup.{Setup}
use Rattle.input.specs.declared.Event.{Event}
use Rattle.blocks.specs.Sizes.{most_events}
use Rattle.blocks.specs.Verdicts.{number_of}
use Rattle.blocks.specs.Files.{refusal_of, part_of, events_from}
use Rattle.writer.specs.EventBlocks.{event_rows, events_written, events_read, kept}
use Rattle.writer.specs.declared.Events.{Events}
use Rattle.writer.proofs.Answers.{lent_free, events_free}
use Rattle.writer.proofs.EventsBack.{events_accepted, events_back, each_event_back}
use Rattle.scenario.specs.Drafts.{no_events, adding, filling, block_ends, event_taken, block_taken, taken}
use Rattle.scenario.specs.Made.{setup_with, setup_said, events_with, events_said, Blocks, before, lent, blocks_from}
use Rattle.scenario.specs.declared.Item.{Item}
use Rattle.scenario.specs.declared.Item.TheVariants.{Blank, Processors, Start, Task, Resource, Pair, Happens, Block, Wrong}
use Rattle.scenario.specs.declared.Draft.{Draft}
use Rattle.scenario.proofs.Taking.{event_full, event_more, block_none, block_some, onward, led, settled_late, block_zero, block_led}

-- ---- a block of events that was written
module _ (x : Events) (index : ℕ) (out : List ℕ) (z : (events_written x index out).0 ≡ 0) where
  abbrev block : List ℕ
  block = (events_written x index out).1

  block_accepted : refusal_of block index ≡ 0
  block_accepted = ap number_of (events_accepted x index out z)

  few : x.count ≤ most_events
  unfolding events_written
  few = (events_free x index (lent_free out (event_rows x index) z).1).few

  count_back : event_count (part_of block index) ≡ x.count
  unfolding events_read kept
  count_back = ap (λ (y : Events). y.count) (events_back x index out z)

  -- its events are those before the count
  block_events : length x.of ≡ most_events → events_in (part_of block index) ≡ take x.count x.of
  block_events l =
      let n = length-take-le x.count x.of (omega (arith, few)) in
      let at : (i : ℕ) → i < x.count → get_or (take x.count x.of) i no_event ≡ event_in (part_of block index) i =
      λ i h. get_or-take x.count x.of i no_event h ∙ sym (each_event_back x index out z i h) in
      rw count_back (sym (table_of (event_in (part_of block index)) (take x.count x.of) x.count no_event n at))

-- ---- blocks from an index on that the reader accepts, and the events that it reads there
pub record Reads (index : ℕ) (blocks : List (List ℕ)) (said : List Event) : Type 0 where
  pub accepted : (i : ℕ) → i < length blocks → refusal_of (get_or blocks i []) (index + i) ≡ 0
  pub events : events_from index blocks ≡ said

pub reads_none : (index : ℕ) → Reads index [] []
unfolding events_from
reads_none index = record { accepted = λ i h. absurd (omega arith); events = refl }

-- one block before others
reads_more : (index : ℕ) (block : List ℕ) (blocks : List (List ℕ)) (front said : List Event)
    → refusal_of block index ≡ 0 → events_in (part_of block index) ≡ front → Reads (suc index) blocks said
    → Reads index (block ∷ blocks) (front ++ said)
unfolding events_from
reads_more index block blocks front said a e r =
    record { accepted = accepted; events = rw (eq-eqb (refusal_of block index) 0 a, e, r.events) }
  where
    accepted : (i : ℕ) → i < length (block ∷ blocks) → refusal_of (get_or (block ∷ blocks) i []) (index + i) ≡ 0
    accepted zero h = let s : index + 0 ≡ index = omega arith in rw s a
    accepted (suc i) h = let s : index + suc i ≡ suc index + i = omega arith in rw s (r.accepted i (omega arith))

-- ---- a draft whose set-up has ended, and the events that it holds
pub record IsFilling (d : Draft) : Type 0 where
  pub later : d.index ≢ 0
  pub sized : length d.events.of ≡ most_events

abbrev pub held : Draft → List Event
held d = take d.events.count d.events.of

held_none : (d : Draft) → d.events.count ≡ 0 → held d ≡ []
held_none d z = ap (λ n. take n d.events.of) z

-- with a block begun; with an event more; with both
pub begun : (d : Draft) (n : ℕ) → IsFilling (filling d (suc n) no_events)
begun d n = record { later = omega arith; sized = length-replicate most_events no_event }

added : (d : Draft) (e : Event) (n : ℕ) (x : Events) → n ≢ 0 → length x.of ≡ most_events
    → IsFilling (filling d n (adding e x))
added d e n x later sized = record { later = later; sized = length-set x.of x.count e ∙ sized }

pub begun_with : (d : Draft) (e : Event) (n : ℕ) → IsFilling (filling d (suc n) (adding e no_events))
begun_with d e n = added d e (suc n) no_events (omega arith) (length-replicate most_events no_event)

-- ---- an item, before later ones of which `quiet` is known too
module _ (later : Draft → Blocks) (quiet : Type 0) (d : Draft) (f : IsFilling d) (out : List ℕ) where
  -- the block ends, and the next one begins with x
  abbrev next : Events → Draft
  next x = filling d (suc d.index) x

  block_ends_lem : (x : Events) (said : List Event)
      → ((later (next x)).all ≡ true → Reads (suc d.index) (later (next x)).blocks said × quiet)
      → (onward later (block_ends d x out)).all ≡ true
      → Reads d.index (onward later (block_ends d x out)).blocks (held d ++ said) × quiet
  block_ends_lem x said known h =
      let z = block_zero later d x out h in
      let e = block_led later d x out z in
      let a = block_accepted d.events d.index out z in
      let b = block_events d.events d.index out z f.sized in
      let g : (led later (events_written d.events d.index out).1 (next x)).all ≡ true = rw e at h in
      (rw e (reads_more d.index _ _ (held d) said a b (known g).0), (known g).1)

  -- `block`, behind which the draft holds no event
  block_reads : (said : List Event)
      → ((n : Draft) → IsFilling n → n.events.count ≡ 0 → (later n).all ≡ true
      → Reads n.index (later n).blocks said × quiet)
      → (onward later (block_taken d out)).all ≡ true
      → Reads d.index (onward later (block_taken d out)).blocks (held d ++ said) × quiet
  unfolding before
  block_reads said known h = go (eqb d.events.count 0) refl
    where
      go : (b : Bool) → eqb d.events.count 0 ≡ b
          → Reads d.index (onward later (block_taken d out)).blocks (held d ++ said) × quiet
      go true e =
          let t = block_none d out f.later e in
          let z = eqb-true d.events.count 0 e in
          rw (t, held_none d z) (known d f z (rw t at h))
      go false e =
          let t = block_some d out f.later e in
          rw t (block_ends_lem no_events said (known (next no_events) (begun d d.index) refl) (rw t at h))

  -- an event
  event_reads : (e : Event) (said : List Event)
      → ((n : Draft) → IsFilling n → (later n).all ≡ true → Reads n.index (later n).blocks (held n ++ said) × quiet)
      → (onward later (event_taken d e out)).all ≡ true
      → Reads d.index (onward later (event_taken d e out)).blocks (held d ++ (e ∷ said)) × quiet
  unfolding before
  event_reads e said known h = go (leb most_events d.events.count) refl
    where
      go : (b : Bool) → leb most_events d.events.count ≡ b
          → Reads d.index (onward later (event_taken d e out)).blocks (held d ++ (e ∷ said)) × quiet
      go true l =
          let t = event_full d out e f.later l in
          let x = adding e no_events in
          rw t (block_ends_lem x (e ∷ said) (known (next x) (begun_with d e d.index)) (rw t at h))
      go false l =
          let t = event_more d out e f.later l in
          let n = filling d d.index (adding e d.events) in
          let room = leb-false most_events d.events.count l in
          let more = take-suc-set d.events.of d.events.count e (omega (arith, room, f.sized)) in
          let same : held n ++ said ≡ held d ++ (e ∷ said) = rw more (append_snoc (held d) e said) in
          let r = known n (added d e d.index d.events f.later f.sized) (rw t at h) in
          rw t (subst (λ es. Reads d.index (later n).blocks es) same r.0, r.1)

-- ---- the blocks from a draft on hold its events and those that the items say, and the items say nothing of the set-up
pub record Filled (d : Draft) (items : List Item) (blocks : List (List ℕ)) : Type 0 where
  pub reads : Reads d.index blocks (held d ++ events_said items)
  pub quiet : (c : Setup) → setup_said c items ≡ c

-- one item before others
module _ (later : Draft → Blocks) (items : List Item) where
  abbrev pub AllFilled : Type 0
  AllFilled = (n : Draft) → IsFilling n → (later n).all ≡ true → Filled n items (later n).blocks

  abbrev quietly : Type 0
  quietly = (c : Setup) → setup_said c items ≡ c

  -- its two parts, and those of a draft that holds no event
  both : {d : Draft} {blocks : List (List ℕ)} → Filled d items blocks
      → Reads d.index blocks (held d ++ events_said items) × quietly
  both r = (r.reads, r.quiet)

  none : (d : Draft) {blocks : List (List ℕ)} → d.events.count ≡ 0 → Filled d items blocks
      → Reads d.index blocks (events_said items) × quietly
  none d z r = (rw (held_none d z) at r.reads, r.quiet)

  -- any item
  filled_item : AllFilled → (item : Item) (d : Draft) (out : List ℕ) → IsFilling d
      → (onward later (taken d item out)).all ≡ true → Filled d (item ∷ items) (onward later (taken d item out)).blocks
  unfolding taken before setup_said setup_with events_said events_with
  filled_item known Blank d out f h = record { reads = (known d f h).reads; quiet = (known d f h).quiet }
  filled_item known (Processors n) d out f h = absurd (settled_late later d _ _ _ out f.later h)
  filled_item known (Start n) d out f h = absurd (settled_late later d _ _ _ out f.later h)
  filled_item known (Task period) d out f h = absurd (settled_late later d _ _ _ out f.later h)
  filled_item known (Resource kind) d out f h = absurd (settled_late later d _ _ _ out f.later h)
  filled_item known (Pair outer inner) d out f h = absurd (settled_late later d _ _ _ out f.later h)
  filled_item known (Happens e) d out f h =
      let r = event_reads later quietly d f out e (events_said items) (λ n g a. both (known n g a)) h in
      record { reads = r.0; quiet = r.1 }
  filled_item known Block d out f h =
      let r = block_reads later quietly d f out (events_said items) (λ n g z a. none n z (known n g a)) h in
      record { reads = r.0; quiet = r.1 }
  filled_item known (Wrong reason) d out f h = never refl h

-- all items, and `block` at the end
pub filled_all : (items : List Item) → AllFilled (λ d. blocks_from d (items ++ (Block ∷ []))) items
unfolding blocks_from setup_said events_said taken
filled_all [] d f h =
    let r = block_reads (λ n. blocks_from n []) Unit d f lent [] (λ n g z a. (reads_none n.index, tt)) h in
    record { reads = r.0; quiet = λ c. refl }
filled_all (item ∷ items) d f h =
    filled_item (λ n. blocks_from n (items ++ (Block ∷ []))) items (filled_all items) item d lent f h
