-- RULES.md, 'Blocks': the check of four blocks, worked out by hand and computed.
use Rattle.std.specs.Prelude.{ℕ, ◌≡◌, refl, [], ◌∷◌, replicate}
use Rattle.blocks.specs.Sizes.{check_at}
use Rattle.blocks.specs.Check.{sums, check_of}
use Rattle.blocks.specs.declared.Check.{Check}

abbrev check : ℕ → ℕ → Check
check a b = record { first = a; second = b }

-- The words 1, 2, 3, then 251 times 0: the first sums are 1, 3 and 252 times 6.
pub small_words : check_of (1 ∷ 0 ∷ 2 ∷ 0 ∷ 3 ∷ 0 ∷ []) ≡ check 6 1516
unfolding sums
small_words = refl

-- The words 65,534, 2, then 252 times 0: the first sums are 65,534 and 253 times 1, and these add up to 65,787.
pub large_word : check_of (254 ∷ 255 ∷ 2 ∷ 0 ∷ []) ≡ check 1 252
unfolding sums
large_word = refl

-- All words are 65,535: all sums are 0.
pub largest_words : check_of (replicate check_at 255) ≡ check 0 0
unfolding sums
largest_words = refl

-- All words are 0: all sums are 0.
pub zero_words : check_of (replicate check_at 0) ≡ check 0 0
unfolding sums
zero_words = refl
