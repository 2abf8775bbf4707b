-- The digits printed of a number read back as the number, without a leading zero. Assumes nothing.
use Prim.Native.Nat.{ℕ, zero, suc, ◌+◌, ◌-◌, ◌*◌, ◌/◌, ◌%◌, ◌<◌, ◌^◌}
use mathlib.Core.Path.{◌≡◌, refl, ◌∙◌}
use mathlib.Core.List.{List, [], ◌∷◌, ◌++◌}
use mathlib.Core.Logic.{◌≢◌}
use native.Mathlib.Nat.{pow-suc}
use native.Mathlib.Decide.{dec_le}
use native.Mathlib.Omega.{arith}
use lib.ListN.{length, get_or, length-append, get_or-append}
use lib.Dec.{ltb}
use borrow.Author.Tests.{lt-ltb, le-ltb}
use Rattle.std.specs.Prelude.{if◌then◌else◌}
use Rattle.search.specs.Texts.{digit, digits, most_digits, value_behind}
use Rattle.lines.specs.Values.{DigitsReadBack}

value_last : (before : ℕ) (l : List ℕ) (d : ℕ) → value_behind before (l ++ (d ∷ [])) ≡ 10 * value_behind before l + (d - 48)
value_last before [] d = refl
value_last before (x ∷ l) d = value_last (10 * before + (x - 48)) l d

value_back : (k n : ℕ) → n < 10 ^ k → value_behind 0 (digits k n) ≡ n
unfolding digits
value_back zero n h = omega arith
value_back (suc k) n h = elim (dec_le 10 n) [
  | yes many ↦
      let front : n / 10 < 10 ^ k = omega (arith, pow-suc 10 k) in
      rw (le-ltb n 10 many) (value_last 0 (digits k (n / 10)) (48 + n % 10) ∙ omega (arith, value_back k (n / 10) front))
  | no few ↦ rw (lt-ltb n 10 (omega arith)) (omega arith)
]

some_digit : (k n : ℕ) → 0 < length (digits (suc k) n)
unfolding digits
some_digit k n = omega (arith, length-append (if ltb n 10 then [] else digits k (n / 10)) (digit n))

no_zero : (k n : ℕ) → n < 10 ^ suc k → n ≢ 0 → get_or (digits (suc k) n) 0 0 ≢ 48
unfolding digits
no_zero zero n h d e =
    let few : n < 10 = omega (arith, pow-suc 10 0) in
    d (omega (arith, rw (lt-ltb n 10 few) at e))
no_zero (suc k) n h d e = elim (dec_le 10 n) [
  | yes many ↦
      let front : n / 10 < 10 ^ suc k = omega (arith, pow-suc 10 (suc k)) in
      let first = get_or-append (digits (suc k) (n / 10)) (digit n) 0 0 (some_digit k (n / 10)) in
      no_zero k (n / 10) front (λ z. omega arith) (rw (le-ltb n 10 many, first) at e)
  | no few ↦ d (omega (arith, rw (lt-ltb n 10 (omega arith)) at e))
]

pub digits_read_back : DigitsReadBack
digits_read_back n h = record { value = value_back most_digits n (omega arith); leading = λ d e. no_zero 19 n (omega arith) d e }
