-- RULES.md, 'Blocks': a change of any one byte of the 508 before the check is caught.
use Rattle.std.specs.Prelude.{ℕ, ◌<◌, ◌≡◌, true, List, ◌≢◌, length, set}
use Rattle.numbers.specs.Refusals.{check_wrong}
use Rattle.input.specs.Layout.{byte}
use Rattle.blocks.specs.Sizes.{check_at, block_size}
use Rattle.blocks.specs.Check.{is_checked}
use Rattle.blocks.specs.Verdicts.{Used, verdict, number_of}

-- every number of the list is a byte
abbrev pub AreBytes : List ℕ → Type 0
AreBytes block = (i : ℕ) → byte block i < 256

-- one byte before the check is another, and all others are as they were
pub record OneChanged (a b : List ℕ) : Type 0 where
  pub place : ℕ
  pub inside : place < check_at
  pub changed : byte a place ≢ byte b place
  pub others : (i : ℕ) → i ≢ place → byte a i ≡ byte b i

-- of two such blocks at most one is accepted, at whatever indices
abbrev pub OneByteIsCaught : Type 0
OneByteIsCaught = (a b : List ℕ) → AreBytes a → AreBytes b → OneChanged a b
    → (k l m n : ℕ) → verdict a k ≡ Used m → verdict b l ≡ Used n → ⊥

-- a block of 512 bytes whose check is right, with one of the first 508 bytes changed, is refused with 31, at whatever
-- index
abbrev pub OneByteIsRefused : Type 0
OneByteIsRefused = (block : List ℕ) (place value index : ℕ) → AreBytes block → length block ≡ block_size
    → is_checked block ≡ true → place < check_at → value < 256 → value ≢ byte block place
    → number_of (verdict (set block place value) index) ≡ check_wrong
