-- The sums of a check are below its modulus, and hang on the bytes before it alone. Assumes nothing.
use Prim.Native.Nat.{ℕ, zero, suc, ◌+◌, ◌*◌, ◌<◌}
use mathlib.Core.Path.{◌≡◌, refl}
use mathlib.Core.List.{List}
use native.Mathlib.Omega.{arith}
use Rattle.input.specs.Layout.{byte}
use Rattle.blocks.specs.Check.{modulus, sums}

pub sums_below : (block : List ℕ) (n : ℕ) → ((sums block n).first < modulus) × ((sums block n).second < modulus)
unfolding sums
sums_below block zero = (omega arith, omega arith)
sums_below block (suc n) = (omega arith, omega arith)

-- blocks that agree on the first n words have the same sums over these
pub sums_same : (a b : List ℕ) (n : ℕ) → ((i : ℕ) → i < 2 * n → byte a i ≡ byte b i) → sums a n ≡ sums b n
unfolding sums
sums_same a b zero h = refl
sums_same a b (suc n) h = rw (sums_same a b n (λ i l. h i (omega arith)), h (2 * n) (omega arith), h (2 * n + 1) (omega arith))
