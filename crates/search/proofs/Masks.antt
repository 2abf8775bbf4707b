-- A mask has no bit set exactly where none passes; else its trailing zeros are the first that passes. Assumes nothing.
use Prim.Native.Nat.{ℕ, zero, suc, ◌+◌, ◌*◌, ◌/◌, ◌%◌, ◌^◌, ◌≤◌, ◌<◌}
use mathlib.Core.Path.{◌≡◌, refl, ap₂, ◌∙◌}
use mathlib.Core.Bool.{Bool, true, false}
use native.Mathlib.Omega.{arith}
use native.Mathlib.Nat.{pow-suc, not-suc-le-zero, lt_of_lt_of_le}
use native.Mathlib.Numerals.{add-one}
use lib.Count.{ones, ones_step, count_trailing_zeros, under}
use lib.Pow.{pow_mono}
use mir.Val.{bool_byte}
use Rattle.std.specs.Prelude.{if◌then◌else◌}
use Rattle.search.specs.First.{first, bit, mask}

pub bit_small : (b : Bool) → bit b ≤ 1
bit_small true = omega arith
bit_small false = omega arith

-- what `u32::from` gives of a truth value
pub byte_bit : (b : Bool) → bool_byte b ≡ bit b
byte_bit true = refl
byte_bit false = refl

mask_lt : (ok : ℕ → Bool) (k n : ℕ) → mask ok k n < 2 ^ n
unfolding mask
mask_lt ok k zero = omega arith
mask_lt ok k (suc n) = omega (arith, pow-suc 2 n, mask_lt ok (suc k) n, bit_small (ok k))

-- a mask of at most m numbers has at most m bits
pub mask_small : (m : ℕ) (ok : ℕ → Bool) (k n : ℕ) → n ≤ m → mask ok k n < 2 ^ m
mask_small m ok k n h = lt_of_lt_of_le (mask_lt ok k n) (pow_mono h)

-- one turn of a loop that takes the tests from the last to the first
pub mask_turn : (ok : ℕ → Bool) (k n : ℕ) → mask ok k (n + 1) ≡ mask ok (k + 1) n * 2 + bit (ok k)
unfolding mask
mask_turn ok k n = rw (add-one n, add-one k)

low_bit : (m : ℕ) (b : Bool) → ((m * 2 + bit b) % 2 ≡ bit b) × ((m * 2 + bit b) / 2 ≡ m)
low_bit m true = omega arith
low_bit m false = omega arith

ones_bit : (m : ℕ) (b : Bool) → ones (m * 2 + bit b) ≡ bit b + ones m
ones_bit m b = ones_step (m * 2 + bit b) ∙ ap₂ (λ (x y : ℕ). x + ones y) (low_bit m b).0 (low_bit m b).1

under_bit : (b : Bool) (t : ℕ) → under (bit b) t ≡ (if b then 0 else suc t)
under_bit true t = refl
under_bit false t = refl

trailing_bit : (w m : ℕ) (b : Bool) → count_trailing_zeros (suc w) (m * 2 + bit b) ≡ (if b then 0 else suc (count_trailing_zeros w m))
unfolding count_trailing_zeros
trailing_bit w m b = ap₂ (λ (x y : ℕ). under x (count_trailing_zeros w y)) (low_bit m b).0 (low_bit m b).1 ∙ under_bit b (count_trailing_zeros w m)

-- no bit is set: the first is the range's end; some bit is set: it is within the range
ones_first : (ok : ℕ → Bool) (k n : ℕ) → (ones (mask ok k n) ≡ 0 → first ok k n ≡ k + n) × (0 < ones (mask ok k n) → first ok k n < k + n)
unfolding first mask ones
ones_first ok k zero = ((λ _. omega arith), λ h. absurd (not-suc-le-zero h))
ones_first ok k (suc n) = rw (ones_bit (mask ok (suc k) n) (ok k)) (go (ok k) (ones_first ok (suc k) n))
  where
    go : (b : Bool)
        → (ones (mask ok (suc k) n) ≡ 0 → first ok (suc k) n ≡ suc k + n) × (0 < ones (mask ok (suc k) n) → first ok (suc k) n < suc k + n)
        → (bit b + ones (mask ok (suc k) n) ≡ 0 → (if b then k else first ok (suc k) n) ≡ k + suc n)
        × (0 < bit b + ones (mask ok (suc k) n) → (if b then k else first ok (suc k) n) < k + suc n)
    go true r = ((λ h. absurd (omega arith)), λ h. omega arith)
    go false r = ((λ h. omega (arith, r.0 (omega arith))), λ h. omega (arith, r.1 (omega arith)))

trailing_first : (ok : ℕ → Bool) (w k n : ℕ) → n ≤ w → first ok k n < k + n → k + count_trailing_zeros w (mask ok k n) ≡ first ok k n
unfolding first mask
trailing_first ok w k zero l h = absurd (omega arith)
trailing_first ok zero k (suc n) l h = absurd (omega arith)
trailing_first ok (suc w) k (suc n) l h = rw (trailing_bit w (mask ok (suc k) n) (ok k)) (go (ok k) (trailing_first ok w (suc k) n (omega arith)) h)
  where
    go : (b : Bool) → (first ok (suc k) n < suc k + n → suc k + count_trailing_zeros w (mask ok (suc k) n) ≡ first ok (suc k) n)
        → (if b then k else first ok (suc k) n) < k + suc n → k + (if b then 0 else suc (count_trailing_zeros w (mask ok (suc k) n))) ≡ (if b then k else first ok (suc k) n)
    go true r h = omega arith
    go false r h = omega (arith, r (omega arith))

-- as a caller of count_ones and trailing_zeros wants them, with w bits in the number
pub mask_some : (ok : ℕ → Bool) (w n m : ℕ) → n ≤ w → m ≡ mask ok 0 n → 0 < ones m → (first ok 0 n < n) × (count_trailing_zeros w m ≡ first ok 0 n)
mask_some ok w n m l e h =
    let t : first ok 0 n < 0 + n = (ones_first ok 0 n).1 (rw e at h) in
    (omega arith, rw e (omega (arith, trailing_first ok w 0 n l t)))

pub mask_none : (ok : ℕ → Bool) (n m : ℕ) → m ≡ mask ok 0 n → ones m ≤ 0 → first ok 0 n ≡ n
mask_none ok n m e h =
    let z : ones (mask ok 0 n) ≡ 0 = omega (arith, rw e at h) in
    omega (arith, (ones_first ok 0 n).0 z)
