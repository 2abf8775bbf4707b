-- Facts of lists. Assumes nothing.
use Prim.Native.Nat.{ℕ, zero, suc, ◌≤◌, ◌<◌}
use mathlib.Core.Path.{◌≡◌, refl, ap}
use mathlib.Core.List.{List, [], ◌∷◌, ◌++◌}
use mathlib.Core.Logic.{◌≢◌}
use native.Mathlib.Nat.{not-suc-le-zero, le_of_suc-le-suc}
use native.Mathlib.Omega.{arith}
use lib.ListN.{length, get_or, set, take, drop, length-append, length-take, get_or-eq_default}
use lib.Seq.{take-append-le}

-- the first n hold nothing from n on
pub take_past {ℓ} : {A : Type ℓ} (n : ℕ) (l : List A) (i : ℕ) (d : A) → n ≤ i → get_or (take n l) i d ≡ d
take_past n l i d h = get_or-eq_default (take n l) d (simp length-take (omega arith))

-- the first place filled with d, and then turned to the end: the places moved up, the last one filled with d
pub turned {ℓ} : {A : Type ℓ} (l : List A) (d : A) → 0 < length l → drop 1 (set l 0 d) ++ take 1 (set l 0 d) ≡ drop 1 l ++ (d ∷ [])
turned [] d h = absurd (not-suc-le-zero h)
turned (x ∷ l) d h = refl

-- one more at the end leaves the other places as they were
pub snoc_other {ℓ} : {A : Type ℓ} (l : List A) (a : A) (i : ℕ) (d : A) → i ≢ length l → get_or (l ++ (a ∷ [])) i d ≡ get_or l i d
snoc_other [] a zero d h = absurd (h refl)
snoc_other [] a (suc i) d h = refl
snoc_other (x ∷ l) a zero d h = refl
snoc_other (x ∷ l) a (suc i) d h = snoc_other l a i d (λ e. h (ap suc e))

-- the places moved up, the last one filled with d: what place i holds, how many there are, and the first of them
pub moved_at {ℓ} : {A : Type ℓ} (l : List A) (i : ℕ) (d : A) → get_or (drop 1 l ++ (d ∷ [])) i d ≡ get_or l (suc i) d
moved_at [] zero d = refl
moved_at [] (suc i) d = refl
moved_at (x ∷ []) zero d = refl
moved_at (x ∷ []) (suc i) d = refl
moved_at (x ∷ y ∷ l) zero d = refl
moved_at (x ∷ y ∷ l) (suc i) d = moved_at (y ∷ l) i d

pub moved_length {ℓ} : {A : Type ℓ} (l : List A) (d : A) → 0 < length l → length (drop 1 l ++ (d ∷ [])) ≡ length l
moved_length [] d h = absurd (not-suc-le-zero h)
moved_length (x ∷ l) d h = simp length-append (omega arith)

pub moved_taken {ℓ} : {A : Type ℓ} (n : ℕ) (l : List A) (d : A) → n < length l → take n (drop 1 l ++ (d ∷ [])) ≡ drop 1 (take (suc n) l)
moved_taken n [] d h = absurd (not-suc-le-zero h)
moved_taken n (x ∷ l) d h = take-append-le n l (d ∷ []) (le_of_suc-le-suc h)
