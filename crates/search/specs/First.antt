-- The first number that passes a test, and the mask of those that pass.
use Rattle.std.specs.Prelude.{ℕ, zero, suc, ◌+◌, ◌*◌, Bool, if◌then◌else◌}

-- the first of the n numbers from k on that passes; k + n where none does
unfoldable pub first : (ℕ → Bool) → ℕ → ℕ → ℕ
first ok k zero = k
first ok k (suc n) = if ok k then k else first ok (suc k) n

-- a truth value as one bit of a mask
abbrev pub bit : Bool → ℕ
bit b = if b then 1 else 0

-- the n numbers from k on as bits, low bit first: bit i is set where k + i passes
unfoldable pub mask : (ℕ → Bool) → ℕ → ℕ → ℕ
mask ok k zero = 0
mask ok k (suc n) = mask ok (suc k) n * 2 + bit (ok k)
