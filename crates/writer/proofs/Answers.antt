-- The answer and the lent block: what the rows say of both. Assumes nothing.
use Prim.Native.Nat.{ℕ, ◌≤◌}
use mathlib.Core.Path.{◌≡◌, refl}
use mathlib.Core.Bool.{Bool, true, false, not, ◌||◌}
use mathlib.Core.List.{List}
use mathlib.Core.Logic.{◌≢◌}
use native.Mathlib.Omega.{arith}
use lib.Dec.{eqb, ltb}
use lib.ListN.{length}
use borrow.Author.Tests.{eqb-true, eq-eqb, ne_eqb}
use Rattle.std.specs.Prelude.{if◌then◌else◌}
use Rattle.search.specs.Words.{◌is◌}
use Rattle.numbers.specs.Rows.{Row, first_of}
use Rattle.numbers.proofs.Refusals.{none_iff}
use Rattle.search.proofs.Tests.{tests}
use Rattle.input.specs.Words.{within}
use Rattle.input.specs.declared.Setup.{Setup}
use Rattle.setups.specs.Accepted.{Accepted}
use Rattle.setups.specs.Clearing.{cleared}
use Rattle.setups.specs.Refusals.{setup_rows, setup_refusal}
use Rattle.setups.proofs.Accepted.{accepted_iff}
use Rattle.blocks.specs.Sizes.{block_size, most_events, last_index}
use Rattle.writer.specs.Written.{lent_rows, written_by}
use Rattle.writer.specs.SetupBlocks.{Counted}
use Rattle.writer.specs.EventBlocks.{event_rows}
use Rattle.writer.specs.declared.Events.{Events}

-- where nothing is refused, the lent block has its size, and no later row applies
pub lent_free : (out : List ℕ) (later : List Row) → first_of (lent_rows out later) ≡ 0
    → (length out ≡ block_size) × (first_of later ≡ 0)
lent_free out later h = go (eqb (length out) block_size) refl h
  where
    go : (b : Bool) → eqb (length out) block_size ≡ b → (if not b then 37 else first_of later) ≡ 0
        → (length out ≡ block_size) × (first_of later ≡ 0)
    go true e h = (eqb-true (length out) block_size e, h)
    go false e h = absurd (omega arith)

pub lent_zero : (out : List ℕ) (later : List Row) → length out ≡ block_size → first_of later ≡ 0
    → first_of (lent_rows out later) ≡ 0
lent_zero out later s h = rw (eq-eqb (length out) block_size s) h

pub written_zero : (rows : List Row) (block out : List ℕ) → first_of rows ≡ 0 → written_by rows block out ≡ (0, block)
written_zero rows block out z = rw z

pub written_kept : (rows : List Row) (block out : List ℕ) → first_of rows ≢ 0 → (written_by rows block out).1 ≡ out
written_kept rows block out d = rw (ne_eqb (first_of rows) 0 d)

-- the counts of a set-up that nothing refuses are of one byte, cleared too
pub cleared_counted : (c : Setup) → first_of (setup_rows c) ≡ 0 → Counted (cleared c)
unfolding cleared setup_refusal
cleared_counted c free =
    let a : Accepted c = (accepted_iff c).0 free in
    record { processors = a.processors.1; tasks = a.tasks.1; resources = a.resources; pairs = a.pairs }

-- events that nothing refuses
pub record EventsFree (x : Events) (index : ℕ) : Type 0 where
  pub some : 1 ≤ x.count
  pub few : x.count ≤ most_events
  pub later : index ≢ 0
  pub inside : index ≤ last_index

pub events_free : (x : Events) (index : ℕ) → first_of (event_rows x index) ≡ 0 → EventsFree x index
unfolding event_rows
events_free x index h =
    let none = (none_iff (event_rows x index) refl).0 h in
    let counted = simp tests at (none 0 (omega arith)) in
    let placed = simp tests at (none 1 (omega arith)) in
    record { some = counted.0; few = counted.1; later = placed.0; inside = placed.1 }

pub free_events : (x : Events) (index : ℕ) → EventsFree x index → first_of (event_rows x index) ≡ 0
unfolding event_rows
free_events x index f =
    let counted : not (within 1 x.count most_events) ≡ false = simp tests (f.some, f.few) in
    let placed : (index is 0 || ltb last_index index) ≡ false = simp tests (f.later, f.inside) in
    rw (counted, placed)
