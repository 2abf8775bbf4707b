-- The sums of a check added up with no remainder on the way: over the words of a block both stay below 2 to the 32, and
-- their remainders are the check's sums. Assumes nothing.
use Prim.Native.Nat.{ℕ, zero, suc, ◌+◌, ◌*◌, ◌%◌, ◌≤◌, ◌<◌}
use mathlib.Core.Path.{◌≡◌, refl}
use mathlib.Core.List.{List}
use native.Mathlib.Omega.{arith}
use native.Mathlib.Decide.{ℕ_discrete}
use lib.ListN.{replicate}
use Rattle.input.specs.Layout.{word}
use Rattle.blocks.specs.Sizes.{check_at}
use Rattle.blocks.specs.Check.{words, modulus, sums}
use Rattle.blocks.specs.declared.Check.{Check}

-- the largest word, and the largest number of 32 bits
abbrev most_word : ℕ
most_word = 65535

abbrev most32 : ℕ
most32 = 4294967295

-- the first n words are of 16 bits
abbrev pub AreWords : List ℕ → ℕ → Type 0
AreWords block n = (i : ℕ) → i < n → word block (2 * i) ≤ most_word

-- one word more: the first sum adds the word, the second adds the new first
abbrev plain_adding : Check → ℕ → Check
plain_adding c w = record { first = c.first + w; second = c.second + (c.first + w) }

-- the plain sums over the first n words
unfoldable pub plain_sums : List ℕ → ℕ → Check
plain_sums block zero = record { first = 0; second = 0 }
plain_sums block (suc n) = plain_adding (plain_sums block n) (word block (2 * n))

-- bounds that grow by the same at each word: the largest word, and the largest first sum
plain_sums_bounds : (block : List ℕ) (n : ℕ) → n ≤ words → AreWords block n
    → ((plain_sums block n).first ≤ most_word * n) × ((plain_sums block n).second ≤ most_word * words * n)
unfolding plain_sums
plain_sums_bounds block zero small all = (omega arith, omega arith)
plain_sums_bounds block (suc n) small all =
    let before = plain_sums_bounds block n (omega arith) (λ i l. all i (omega arith)) in
    let last : word block (2 * n) ≤ most_word = all n (omega arith) in
    (omega arith, omega arith)

-- so both sums over the words of a block fit in 32 bits
pub plain_sums_fit : (block : List ℕ) (n : ℕ) → n ≤ words → AreWords block n
    → ((plain_sums block n).first ≤ most32) × ((plain_sums block n).second ≤ most32)
plain_sums_fit block n small all =
    let bounds = plain_sums_bounds block n small all in
    (omega arith, omega arith)

-- what they are where every word is 65,535, the largest
pub plain_sums_largest : plain_sums (replicate check_at 255) words ≡ record { first = 16645890; second = 2122350975 }
unfolding plain_sums
plain_sums_largest = refl

-- the word behind the first n is of 16 bits, too
module _ (block : List ℕ) (n w : ℕ) (all : AreWords block n) (next : w ≡ word block (2 * n)) (low : w ≤ most_word) where
  pub words_more : AreWords block (suc n)
  words_more i l = elim (ℕ_discrete i n) [ yes e ↦ rw (e, ← next) low | no d ↦ all i (omega arith) ]

  -- so the sums with it fit
  pub next_fits : n < words
      → ((plain_sums block n).first + w ≤ most32) × ((plain_sums block n).second + ((plain_sums block n).first + w) ≤ most32)
  unfolding plain_sums
  next_fits small = rw next (plain_sums_fit block (suc n) (omega arith) words_more)

-- for a loop over the words
pub ruleset next_word = (words_more, next_fits)

-- one remainder of each, at the end, gives the check's sums
pub plain_sums_rest : (block : List ℕ) (n : ℕ)
    → ((plain_sums block n).first % modulus ≡ (sums block n).first)
    × ((plain_sums block n).second % modulus ≡ (sums block n).second)
unfolding plain_sums sums
plain_sums_rest block zero = (refl, refl)
plain_sums_rest block (suc n) = let before = plain_sums_rest block n in (omega arith, omega arith)

-- a check is known by its sums
pub check_by : (c : Check) (first second : ℕ) → first ≡ c.first → second ≡ c.second
    → record { first = first; second = second } ≡ c
check_by c first second p q = rw (p, q)
