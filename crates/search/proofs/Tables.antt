-- A list by its places has those places, and is built by a loop that sets one place a turn. Assumes nothing.
use Prim.Native.Nat.{ℕ, zero, suc, ◌+◌, ◌<◌, ◌≤◌}
use native.Mathlib.Nat.{not-suc-le-zero}
use native.Mathlib.Numerals.{add-one}
use native.Mathlib.Omega.{arith}
use native.Mathlib.Decide.{ℕ_discrete, dec_lt}
use mathlib.Core.Path.{◌≡◌, refl, sym, ◌∙◌}
use mathlib.Core.List.{List, [], ◌∷◌, ◌++◌, append_assoc, append-nil}
use lib.ListN.{length, get_or, set, take, drop, replicate, length-append, get_or-append, get_or-eq_default, drop_of_length-le}
use lib.Seq.{get_or_at, set_at, drop-cons, ext_get_or, take_all, take-append-le}
use Rattle.search.specs.Table.{table}

-- an element that is there is read with any default
pub get_d_any {ℓ} : {A : Type ℓ} (l : List A) (k : ℕ) (a b : A) → k < length l → get_or l k a ≡ get_or l k b
get_d_any l k a b h =
    let x = drop-cons l k a h in
    let y = drop-cons l k b h in
    cc

-- a list of one value, whatever the place
pub replicate_at {ℓ} : {A : Type ℓ} (n i : ℕ) (d : A) → get_or (replicate n d) i d ≡ d
replicate_at zero i d = refl
replicate_at (suc n) zero d = refl
replicate_at (suc n) (suc i) d = replicate_at n i d

module _ {ℓ} {A : Type ℓ} (f : ℕ → A) where
  pub table_length : (n : ℕ) → length (table f n) ≡ n
  unfolding table
  table_length zero = refl
  table_length (suc n) = simp length-append (omega (arith, table_length n))

  pub table_at : (n i : ℕ) (d : A) → i < n → get_or (table f n) i d ≡ f i
  unfolding table
  table_at zero i d h = absurd (not-suc-le-zero h)
  table_at (suc n) i d h = elim (ℕ_discrete i n) [
    | yes e ↦ rw e (get_or_at (table f n) (f n) [] d n (table_length n))
    | no e ↦ get_or-append (table f n) (f n ∷ []) d i (omega (arith, table_length n)) ∙ table_at n i d (omega arith)
  ]

  pub table_past : (n i : ℕ) (d : A) → n ≤ i → get_or (table f n) i d ≡ d
  table_past n i d h = get_or-eq_default (table f n) d (omega (arith, table_length n))

  -- the first places of a table are a table
  pub table_front : (n m : ℕ) → n ≤ m → take n (table f m) ≡ table f n
  unfolding table
  table_front n zero h = let e : n ≡ 0 = omega arith in rw e
  table_front n (suc m) h = elim (dec_lt m n) [
    | yes l ↦ let e : n ≡ suc m = omega arith in rw e (take_all (suc m) (table f (suc m)) (omega (arith, table_length (suc m))))
    | no l ↦ take-append-le n (table f m) (f m ∷ []) (omega (arith, table_length m)) ∙ table_front n m (omega arith)
  ]

  -- a list of n places with f i at each place is the table
  pub table_of : (l : List A) (n : ℕ) (d : A) → length l ≡ n → ((i : ℕ) → i < n → get_or l i d ≡ f i) → l ≡ table f n
  table_of l n d h at = ext_get_or d l (table f n) (h ∙ sym (table_length n)) (λ i g. at i (omega arith) ∙ sym (table_at n i d (omega arith)))

  -- a loop that has set the places below i of l, at its start, after one turn, and at its end
  pub table_none : (l : List A) → l ≡ table f 0 ++ drop 0 l
  unfolding table
  table_none l = refl

  pub table_turn : (l : List A) (i : ℕ) → i < length l → set (table f i ++ drop i l) i (f i) ≡ table f (i + 1) ++ drop (i + 1) l
  unfolding table
  table_turn l i h =
      rw (add-one i, drop-cons l i (f i) h, set_at (table f i) (get_or l i (f i)) (drop (suc i) l) (f i) i (table_length i)) (sym (append_assoc (table f i) (f i ∷ []) (drop (suc i) l)))

  pub table_all : (l : List A) (n : ℕ) → length l ≡ n → table f n ++ drop n l ≡ table f n
  table_all l n h = rw (drop_of_length-le l {i = n} (omega arith)) (append-nil (table f n))

-- tables of functions that agree below the bound
pub table_same {ℓ} : {A : Type ℓ} (f g : ℕ → A) (n : ℕ) → ((i : ℕ) → i < n → f i ≡ g i) → table f n ≡ table g n
unfolding table
table_same f g zero h = refl
table_same f g (suc n) h = rw (table_same f g n (λ i l. h i (omega arith)), h n (omega arith))
