-- What an item does to a draft, by its cases: what each rule comes to where its tests are known, and what is known
-- where all items are taken. Assumes nothing.
use Prim.Native.Nat.{ℕ, suc}
use mathlib.Core.Path.{◌≡◌, refl, subst⁻¹}
use mathlib.Core.Bool.{Bool, true, false}
use mathlib.Core.List.{List, ◌∷◌}
use mathlib.Core.Logic.{◌≢◌}
use lib.Dec.{eqb, leb}
use borrow.Author.Tests.{eqb-true, eq-eqb, ne_eqb}
use Rattle.std.specs.Prelude.{if◌then◌else◌}
use Rattle.search.proofs.Tests.{never}
use Rattle.input.specs.declared.Event.{Event}
use Rattle.blocks.specs.Sizes.{most_events}
use Rattle.writer.specs.SetupBlocks.{setup_written}
use Rattle.writer.specs.EventBlocks.{events_written}
use Rattle.writer.specs.declared.Events.{Events}
use Rattle.scenario.specs.Drafts.{no_events, adding, filling, kept, faulty, missing, answered, settled, setup_ends, block_ends, event_taken, block_taken}
use Rattle.scenario.specs.Made.{Blocks, before}
use Rattle.scenario.specs.declared.Draft.{Draft}
use Rattle.scenario.specs.Outcomes.{Written, Refused}
use Rattle.scenario.specs.Outcomes.{Taken}

-- ---- an event and `block`, where the tests are known
module _ (d : Draft) (out : List ℕ) where
  -- the first event ends the set-up
  pub event_first : (e : Event) → d.index ≡ 0 → event_taken d e out ≡ setup_ends d (adding e no_events) out
  unfolding event_taken
  event_first e z = rw (eq-eqb d.index 0 z)

  -- one that finds the block full ends that
  pub event_full : (e : Event) → d.index ≢ 0 → leb most_events d.events.count ≡ true
      → event_taken d e out ≡ block_ends d (adding e no_events) out
  unfolding event_taken
  event_full e n f = rw (ne_eqb d.index 0 n, f)

  -- any other is kept
  pub event_more : (e : Event) → d.index ≢ 0 → leb most_events d.events.count ≡ false
      → event_taken d e out ≡ (kept (filling d d.index (adding e d.events)), out)
  unfolding event_taken
  event_more e n f = rw (ne_eqb d.index 0 n, f)

  -- `block` ends the set-up, and else a block that has events
  pub block_first : d.index ≡ 0 → block_taken d out ≡ setup_ends d no_events out
  unfolding block_taken
  block_first z = rw (eq-eqb d.index 0 z)

  pub block_none : d.index ≢ 0 → eqb d.events.count 0 ≡ true → block_taken d out ≡ (kept d, out)
  unfolding block_taken
  block_none n f = rw (ne_eqb d.index 0 n, f)

  pub block_some : d.index ≢ 0 → eqb d.events.count 0 ≡ false → block_taken d out ≡ block_ends d no_events out
  unfolding block_taken
  block_some n f = rw (ne_eqb d.index 0 n, f)

-- ---- what is known where all items are taken, `later` being the blocks from a draft on
module _ (later : Draft → Blocks) where
  -- the blocks from an item on that did this
  abbrev pub onward : Taken × List ℕ → Blocks
  onward t = before t.0.outcome t.1 (later t.0.draft)

  -- the blocks from one that was written on
  abbrev pub led : List ℕ → Draft → Blocks
  led block next = record { all = (later next).all; blocks = block ∷ (later next).blocks }

  -- an item of the set-up is kept, before its end
  pub settled_kept : (d next : Draft) (reason : ℕ) (bars : Bool) (out : List ℕ) → d.index ≡ 0
      → (onward (settled d reason bars next, out)).all ≡ true → settled d reason bars next ≡ kept next
  unfolding settled before
  settled_kept d next reason true out z h = never refl (rw (eq-eqb d.index 0 z) at h)
  settled_kept d next reason false out z h = rw (eq-eqb d.index 0 z)

  -- and there is none behind it
  pub settled_late : (d next : Draft) (reason : ℕ) (bars : Bool) (out : List ℕ) → d.index ≢ 0
      → (onward (settled d reason bars next, out)).all ≡ true → ⊥
  unfolding settled before
  settled_late d next reason bars out n h = never refl (rw (ne_eqb d.index 0 n) at h)

  -- the number that a block was answered with is 0, and the block is written
  answered_zero : (d next : Draft) (number : ℕ) (block : List ℕ)
      → (onward (answered d next number, block)).all ≡ true → number ≡ 0
  unfolding answered before
  answered_zero d next number block h = go (eqb number 0) refl h
    where
      answer : Bool → Taken
      answer b =
          if b then record { draft = next; outcome = Written } else
          record { draft = d; outcome = Refused number }

      go : (b : Bool) → eqb number 0 ≡ b → (onward (answer b, block)).all ≡ true → number ≡ 0
      go true e h = eqb-true number 0 e
      go false e h = never refl h

  answered_led : (d next : Draft) (number : ℕ) (block : List ℕ) → number ≡ 0
      → onward (answered d next number, block) ≡ led block next
  unfolding answered before
  answered_led d next number block z = rw (eq-eqb number 0 z)

  -- ---- a draft d, behind which x is begun
  module _ (d : Draft) (x : Events) (out : List ℕ) where
    -- where a block of events ends, it is written
    pub block_zero : (onward (block_ends d x out)).all ≡ true → (events_written d.events d.index out).0 ≡ 0
    unfolding block_ends
    block_zero h = answered_zero d (filling d (suc d.index) x) _ (events_written d.events d.index out).1 h

    -- and the next one is filled
    pub block_led : (events_written d.events d.index out).0 ≡ 0
        → onward (block_ends d x out) ≡ led (events_written d.events d.index out).1 (filling d (suc d.index) x)
    unfolding block_ends
    block_led z = answered_led d (filling d (suc d.index) x) _ (events_written d.events d.index out).1 z

    -- where the set-up ends, by whether its processors are given
    abbrev ending : Bool → Taken × List ℕ
    ending sized =
        if sized then (answered d (filling d 1 x) (setup_written d.setup out).0, (setup_written d.setup out).1) else
        (faulty d missing, out)

    ending_sized : (sized : Bool) → (onward (ending sized)).all ≡ true
        → (sized ≡ true) × ((setup_written d.setup out).0 ≡ 0)
    unfolding before
    ending_sized true h = (refl, answered_zero d (filling d 1 x) _ (setup_written d.setup out).1 h)
    ending_sized false h = never refl h

    -- they are, and it is written
    pub setup_zero : (onward (setup_ends d x out)).all ≡ true → (d.sized ≡ true) × ((setup_written d.setup out).0 ≡ 0)
    unfolding setup_ends
    setup_zero h = ending_sized d.sized h

    -- and block 1 is filled
    pub setup_led : d.sized ≡ true → (setup_written d.setup out).0 ≡ 0
        → onward (setup_ends d x out) ≡ led (setup_written d.setup out).1 (filling d 1 x)
    unfolding setup_ends
    setup_led s z =
        subst⁻¹ (λ b. onward (ending b) ≡ led (setup_written d.setup out).1 (filling d 1 x)) s
        (answered_led d (filling d 1 x) _ (setup_written d.setup out).1 z)
