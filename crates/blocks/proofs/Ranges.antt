-- A test of every number of a range, one after the other, is one of every number below its length. Assumes nothing.
use Prim.Native.Nat.{ℕ, zero, suc, ◌+◌}
use mathlib.Core.Path.{◌≡◌, refl, sym}
use mathlib.Core.Bool.{Bool, true, false, ◌&&◌}
use native.Mathlib.Omega.{arith}
use Rattle.std.specs.List.{fold, range_with_len}
use Rattle.search.specs.Below.{all_below}

with_none : (b : Bool) → b ≡ (b && true)
with_none true = refl
with_none false = refl

and_assoc : (a b c : Bool) → (a && (b && c)) ≡ ((a && b) && c)
and_assoc true b c = refl
and_assoc false b c = refl

-- the first number ahead
all_ahead : (n : ℕ) (ok : ℕ → Bool) → all_below (suc n) ok ≡ (ok 0 && all_below n (λ i. ok (suc i)))
unfolding all_below
all_ahead zero ok = with_none (ok 0)
all_ahead (suc n) ok = rw (all_ahead n ok) (sym (and_assoc (ok 0) (all_below n (λ i. ok (suc i))) (ok (suc n))))

-- with what was tested before them, b
pub fold_range : (ok : ℕ → Bool) (a n : ℕ) (f : ℕ → Bool) (b : Bool) → ((i : ℕ) → ok (a + i) ≡ f i)
    → fold (λ b i. b && ok i) b (range_with_len a n) ≡ (b && all_below n f)
unfolding all_below
fold_range ok a zero f b h = with_none b
fold_range ok a (suc n) f b h =
    let first : a + 0 ≡ a = omega arith in
    let later : (i : ℕ) → a + 1 + i ≡ a + suc i = λ i. omega arith in
    rw (fold_range ok (a + 1) n (λ i. f (suc i)) (b && ok a) (λ i. rw (later i) (h (suc i))), all_ahead n f, rw first at (h 0))
    (sym (and_assoc b (f 0) (all_below n (λ i. f (suc i)))))
