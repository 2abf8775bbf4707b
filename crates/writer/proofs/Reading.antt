-- What the reader asks of a block, as statements: such a block is accepted, and an accepted block is such; and the
-- bytes of its used part. Assumes nothing.
use Prim.Native.Nat.{ℕ, ◌+◌, ◌-◌, ◌%◌, ◌<◌, ◌≤◌}
use mathlib.Core.Path.{◌≡◌, ap, ◌∙◌}
use mathlib.Core.Bool.{true, false, not, ◌||◌}
use mathlib.Core.List.{List}
use native.Mathlib.Omega.{arith}
use lib.Dec.{ltb}
use lib.ListN.{length, get_or}
use lib.Seq.{get_or-drop, get_or-take}
use Rattle.search.specs.Words.{◌isn't◌}
use Rattle.search.proofs.Tests.{tests}
use Rattle.numbers.specs.Numbered.{NoneApplies}
use Rattle.input.specs.Layout.{byte, word, low, high}
use Rattle.input.specs.Words.{within}
use Rattle.blocks.specs.Sizes.{kind_at, payload_at, block_size, last_index, numbers}
use Rattle.blocks.specs.Check.{is_checked}
use Rattle.blocks.specs.Verdicts.{Used, kind_for, most_for, payload, count, is_filled, used_size, is_first, is_blank, block_rows, verdict, used_part, number_of}
use Rattle.blocks.specs.OneByte.{AreBytes}
use Rattle.blocks.proofs.Numbers.{judge_none}
use Rattle.writer.specs.Sealed.{head_of}
use Rattle.writer.proofs.Few.{below_four}

pub record Right (block : List ℕ) (index : ℕ) : Type 0 where
  pub size : length block ≡ block_size
  pub checked : is_checked block ≡ true
  pub number : word block 0 ≡ index % numbers
  pub inside : index ≤ last_index
  pub kind : byte block kind_at ≡ kind_for (is_first block index)
  pub counted : (1 ≤ count block) × (count block ≤ most_for (is_first block index))
  pub filled : is_filled block (is_first block index) ≡ true

module _ (block : List ℕ) (index : ℕ) where
  pub right_accepted : Right block index → verdict block index ≡ Used (used_size block (is_first block index))
  unfolding verdict block_rows
  right_accepted r =
      let r30 : (length block isn't block_size) ≡ false = simp tests r.size in
      let r31 : not (is_checked block) ≡ false = rw r.checked in
      let r32 : (word block 0 isn't index % numbers || ltb last_index index) ≡ false =
      simp tests (r.number, r.inside) in
      let r33 : (byte block kind_at isn't kind_for (is_first block index)) ≡ false = simp tests r.kind in
      let r34 : not (within 1 (count block) (most_for (is_first block index))) ≡ false = simp tests r.counted in
      let r35 : not (is_filled block (is_first block index)) ≡ false = rw r.filled in
      rw (r30, r31, r32, r33, r34, r35)

  module _ (n : ℕ) (used : verdict block index ≡ Used n) where
    none : NoneApplies (block_rows block index)
    none = (judge_none block index).0 (ap number_of used)

    pub accepted_right : Right block index
    unfolding block_rows
    accepted_right =
        let r32 = simp tests at (none 2 (omega arith)) in
        record {
          size = simp tests at (none 0 (omega arith));
          checked = simp tests at (none 1 (omega arith));
          number = r32.0;
          inside = r32.1;
          kind = simp tests at (none 3 (omega arith));
          counted = simp tests at (none 4 (omega arith));
          filled = simp tests at (none 5 (omega arith));
        }

-- its head is the one that is written
pub head_same : (block : List ℕ) (index : ℕ) → AreBytes block → Right block index → (k n : ℕ)
    → kind_for (is_first block index) ≡ k → count block ≡ n
    → (i : ℕ) → i < payload_at → byte block i ≡ get_or (head_of index k n) i 0
head_same block index bytes r k n kind counts =
    let low_byte : byte block 0 < 256 = bytes 0 in
    let e0 : byte block 0 ≡ low (index % numbers) = omega (arith, r.number) in
    let e1 : byte block 1 ≡ high (index % numbers) = omega (arith, r.number) in
    below_four (λ i. byte block i ≡ get_or (head_of index k n) i 0) e0 e1 (r.kind ∙ kind) counts

-- ---- a part that is blank
module _ (block : List ℕ) (from to : ℕ) where
  pub blank_at : is_blank block from to ≡ true → (i : ℕ) → from ≤ i → i < to → payload block i ≡ 0
  unfolding is_blank
  blank_at h i l m =
      let e : from + (i - from) ≡ i = omega arith in
      let at : (k : ℕ) → k < to - from → payload block (from + k) ≡ 0 = simp tests at h in
      rw e at (at (i - from) (omega arith))

  pub blank_of : ((i : ℕ) → from ≤ i → i < to → payload block i ≡ 0) → is_blank block from to ≡ true
  unfolding is_blank
  blank_of f = simp tests (λ i l. f (from + i) (omega arith) (omega arith))

-- ---- the used part
pub part_at : (block : List ℕ) (n i : ℕ) → i < n → byte (used_part block (Used n)) i ≡ payload block i
part_at block n i h = rw (get_or-take, get_or-drop)
