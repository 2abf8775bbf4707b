-- RULES.md, 'Blocks': the check, two sums over the words before it.
use Rattle.std.specs.Prelude.{ℕ, zero, suc, ◌+◌, ◌*◌, ◌%◌, Bool, ◌&&◌, List}
use Rattle.search.specs.Words.{◌is◌}
use Rattle.input.specs.Layout.{word}
use Rattle.blocks.specs.Sizes.{check_at}
use Rattle.blocks.specs.declared.Check.{Check}

-- how many words are before the check, of two bytes each
abbrev pub words : ℕ
words = 254

-- what each sum is taken modulo
abbrev pub modulus : ℕ
modulus = 65535

-- one word more: the first sum adds the word, the second adds the new first
abbrev pub adding : Check → ℕ → Check
adding c w = record { first = (c.first + w) % modulus; second = (c.second + (c.first + w) % modulus) % modulus }

-- the sums over the first n words
unfoldable pub sums : List ℕ → ℕ → Check
sums block zero = record { first = 0; second = 0 }
sums block (suc n) = adding (sums block n) (word block (2 * n))

-- the check that a block should have
abbrev pub check_of : List ℕ → Check
check_of block = sums block words

-- the block has that check
unfoldable pub is_checked : List ℕ → Bool
is_checked block = word block check_at is (check_of block).first && word block (check_at + 2) is (check_of block).second
