-- A scenario of which every line is taken reads back: the reader accepts each of its blocks, and reads the set-up and
-- the events that its items say. By the items, forward, from a draft whose set-up is open. Assumes nothing.
use Prim.Native.Nat.{ℕ, zero, suc, ◌+◌, ◌<◌}
use mathlib.Core.Path.{◌≡◌, refl, ap, subst⁻¹}
use mathlib.Core.Bool.{Bool, true}
use mathlib.Core.List.{List, [], ◌∷◌, ◌++◌}
use native.Mathlib.Omega.{arith}
use lib.ListN.{length, get_or}
use Rattle.search.proofs.Tests.{never}
use Rattle.input.specs.declared.Setup.{Setup}
use Rattle.input.specs.declared.Event.{Event}
use Rattle.setups.specs.Clearing.{cleared}
use Rattle.setups.specs.Refusals.{setup_rows, setup_refusal}
use Rattle.blocks.specs.Verdicts.{number_of}
use Rattle.blocks.specs.Files.{refusal_of, setup_of, events_of}
use Rattle.writer.specs.SetupBlocks.{setup_written}
use Rattle.writer.specs.declared.Events.{Events}
use Rattle.writer.proofs.Answers.{lent_free}
use Rattle.writer.proofs.SetupBack.{setup_accepted, setup_back}
use Rattle.scenario.specs.Drafts.{no_events, adding, no_draft, filling, settled, setup_ends, taken}
use Rattle.scenario.specs.Made.{setup_with, setup_said, events_with, events_said, Blocks, before, lent, blocks_from, items_of, MadeReadsBack}
use Rattle.scenario.specs.declared.Item.{Item}
use Rattle.scenario.specs.declared.Item.TheVariants.{Blank, Processors, Start, Task, Resource, Pair, Happens, Block, Wrong}
use Rattle.scenario.specs.declared.Draft.{Draft}
use Rattle.scenario.proofs.Taking.{event_first, block_first, onward, led, settled_kept, setup_zero, setup_led}
use Rattle.scenario.proofs.Filling.{Reads, reads_none, begun, begun_with, held, Filled, AllFilled, filled_all}

-- ---- blocks of which the reader accepts each, and the set-up and the events that it reads there
pub record Opens (c : Setup) (said : List Event) (blocks : List (List ℕ)) : Type 0 where
  pub accepted : (i : ℕ) → i < length blocks → refusal_of (get_or blocks i []) i ≡ 0
  pub setup : setup_of blocks ≡ cleared c
  pub free : setup_refusal c ≡ 0
  pub events : events_of blocks ≡ said

-- a set-up that is written has no refusal
written_free : (c : Setup) (out : List ℕ) → (setup_written c out).0 ≡ 0 → setup_refusal c ≡ 0
unfolding setup_written setup_refusal
written_free c out z = (lent_free out (setup_rows c) z).1

-- the set-up's block before those of events
opens_with : (c : Setup) (out : List ℕ) (said : List Event) (blocks : List (List ℕ))
    → (setup_written c out).0 ≡ 0 → Reads 1 blocks said → Opens c said ((setup_written c out).1 ∷ blocks)
opens_with c out said blocks z r =
    record { accepted = accepted; setup = setup_back c out z; free = written_free c out z; events = r.events }
  where
    all : List (List ℕ)
    all = (setup_written c out).1 ∷ blocks

    accepted : (i : ℕ) → i < length all → refusal_of (get_or all i []) i ≡ 0
    accepted zero h = ap number_of (setup_accepted c out z)
    accepted (suc i) h = let s : 1 + i ≡ suc i = omega arith in rw s at (r.accepted i (omega arith))

-- ---- an item, before later ones: the set-up ends, and block 1 begins with x
opens_ends : (later : Draft → Blocks) (d : Draft) (out : List ℕ) (x : Events) (c : Setup) (said : List Event)
    → ((later (filling d 1 x)).all ≡ true → Reads 1 (later (filling d 1 x)).blocks said × (c ≡ d.setup))
    → (onward later (setup_ends d x out)).all ≡ true → Opens c said (onward later (setup_ends d x out)).blocks
opens_ends later d out x c said known h =
    let s = setup_zero later d x out h in
    let e = setup_led later d x out s.0 s.1 in
    let ends = led later (setup_written d.setup out).1 (filling d 1 x) in
    let g : ends.all ≡ true = rw e at h in
    let o = opens_with d.setup out said (later (filling d 1 x)).blocks s.1 (known g).0 in
    rw e (subst⁻¹ (λ k. Opens k said ends.blocks) (known g).1 o)

module _ (later : Draft → Blocks) (items : List Item) where
  abbrev AllOpen : Type 0
  AllOpen =
      (n : Draft) → n.index ≡ 0 → (later n).all ≡ true
      → Opens (setup_said n.setup items) (events_said items) (later n).blocks

  -- what is known behind the end of a set-up, which the items leave as it is
  both : {n : Draft} {blocks : List (List ℕ)} (d : Draft) → Filled n items blocks
      → Reads n.index blocks (held n ++ events_said items) × (setup_said d.setup items ≡ d.setup)
  both d r = (r.reads, r.quiet d.setup)

  module _ (known : AllOpen) where
    -- an item of the set-up
    opens_kept : (d next : Draft) (reason : ℕ) (bars : Bool) (out : List ℕ) → d.index ≡ 0 → next.index ≡ 0
        → (onward later (settled d reason bars next, out)).all ≡ true
        → Opens (setup_said next.setup items) (events_said items)
        (onward later (settled d reason bars next, out)).blocks
    unfolding before
    opens_kept d next reason bars out z y h =
        let t = settled_kept later d next reason bars out z h in rw t (known next y (rw t at h))

    -- any item
    opens_item : AllFilled later items → (item : Item) (d : Draft) (out : List ℕ) → d.index ≡ 0
        → (onward later (taken d item out)).all ≡ true
        → Opens (setup_said d.setup (item ∷ items)) (events_said (item ∷ items))
        (onward later (taken d item out)).blocks
    unfolding taken before setup_said setup_with events_said events_with
    opens_item filled Blank d out z h = known d z h
    opens_item filled (Processors n) d out z h = opens_kept d _ _ _ out z z h
    opens_item filled (Start n) d out z h = opens_kept d _ _ _ out z z h
    opens_item filled (Task period) d out z h = opens_kept d _ _ _ out z z h
    opens_item filled (Resource kind) d out z h = opens_kept d _ _ _ out z z h
    opens_item filled (Pair outer inner) d out z h = opens_kept d _ _ _ out z z h
    opens_item filled (Happens e) d out z h =
        let t = event_first d out e z in
        let x = adding e no_events in
        let r = filled (filling d 1 x) (begun_with d e 0) in
        let c = setup_said d.setup items in
        rw t (opens_ends later d out x c (e ∷ events_said items) (λ a. both d (r a)) (rw t at h))
    opens_item filled Block d out z h =
        let t = block_first d out z in
        let r = filled (filling d 1 no_events) (begun d 0) in
        let c = setup_said d.setup items in
        rw t (opens_ends later d out no_events c (events_said items) (λ a. both d (r a)) (rw t at h))
    opens_item filled (Wrong reason) d out z h = never refl h

-- all items, and `block` at the end
opens_all : (items : List Item) → AllOpen (λ d. blocks_from d (items ++ (Block ∷ []))) items
unfolding blocks_from setup_said events_said taken
opens_all [] d z h =
    let t = block_first d lent z in
    rw t (opens_ends (λ n. blocks_from n []) d lent no_events d.setup [] (λ a. (reads_none 1, refl)) (rw t at h))
opens_all (item ∷ items) d z h =
    opens_item (λ n. blocks_from n (items ++ (Block ∷ []))) items (opens_all items) (filled_all items) item d lent z h

-- a scenario begins with no draft
pub made_reads_back : MadeReadsBack
made_reads_back lines h =
    let o = opens_all (items_of lines) no_draft refl h in
    record { accepted = o.accepted; setup = o.setup; free = o.free; events = o.events }
