-- As many places as distinct numbers below a bound, and how many pass a test. Assumes nothing.
use Prim.Native.Nat.{ℕ, zero, suc, ◌+◌, ◌<◌, ◌≤◌}
use mathlib.Core.Path.{◌≡◌, refl, ◌∙◌}
use mathlib.Core.Bool.{Bool, true, false}
use mathlib.Core.List.{List}
use mathlib.Core.Logic.{◌≢◌, ◌⊎◌, inl, inr, ⊎_elim}
use native.Mathlib.Omega.{arith}
use native.Mathlib.Numerals.{add-one}
use native.Mathlib.Decide.{ℕ_discrete, dec_lt}
use lib.ListN.{length, get_or}
use borrow.Author.Tests.{eq-eqb, ne_eqb}
use Rattle.std.specs.Prelude.{if◌then◌else◌}
use Rattle.search.specs.Words.{◌is◌}
use Rattle.search.specs.Below.{how_many}

-- ---- one number in another's stead
abbrev instead : ℕ → ℕ → ℕ → ℕ
instead a b x = if x is a then b else x

instead_is : (a b x : ℕ) → ((x ≡ a) × (instead a b x ≡ b)) ⊎ ((x ≢ a) × (instead a b x ≡ x))
instead_is a b x = elim (ℕ_discrete x a) [ yes e ↦ inl (e, rw (eq-eqb _ _ e)) | no d ↦ inr (d, rw (ne_eqb _ _ d)) ]

-- numbers other than b stay distinct with b in a's stead, and those below suc m get below m with b in m's stead
instead_apart : (a b x y : ℕ) → x ≢ b → y ≢ b → instead a b x ≡ instead a b y → x ≡ y
instead_apart a b x y dx dy e =
    ⊎_elim
    (λ i. ⊎_elim (λ k. omega arith) (λ k. absurd (dy (omega arith))) (instead_is a b y))
    (λ i. ⊎_elim (λ k. absurd (dx (omega arith))) (λ k. omega arith) (instead_is a b y)) (instead_is a b x)

instead_below : (m b x : ℕ) → b < suc m → x < suc m → x ≢ b → instead m b x < m
instead_below m b x l h d = ⊎_elim (λ i. omega arith) (λ i. omega arith) (instead_is m b x)

-- ---- those below n that pass go to distinct numbers below m: there are at most m
pub count_into : (ok : ℕ → Bool) (n m : ℕ) (f : ℕ → ℕ) → ((i : ℕ) → i < n → ok i ≡ true → f i < m)
    → ((i k : ℕ) → i < n → k < n → ok i ≡ true → ok k ≡ true → f i ≡ f k → i ≡ k) → how_many ok n ≤ m
unfolding how_many
count_into ok zero m f low apart = omega arith
count_into ok (suc n) m f low apart = go (ok n) refl m low (λ g k l a. count_into ok n k g l a)
  where
    go : (b : Bool) → ok n ≡ b → (m : ℕ) → ((i : ℕ) → i < suc n → ok i ≡ true → f i < m)
        → ((g : ℕ → ℕ) (k : ℕ) → ((i : ℕ) → i < n → ok i ≡ true → g i < k) → ((i j : ℕ) → i < n → j < n → ok i ≡ true → ok j ≡ true → g i ≡ g j → i ≡ j) → how_many ok n ≤ k)
        → how_many ok n + (if ok n then 1 else 0) ≤ m
    go false e m low rest = rw e (omega (arith, rest f m (λ i h. low i (omega arith)) (λ i k h l. apart i k (omega arith) (omega arith))))
    go true e zero low rest = absurd (omega (arith, low n (omega arith) e))
    go true e (suc m) low rest =
        let other : (i : ℕ) → i < n → ok i ≡ true → f i ≢ f n = λ i h q z. omega (arith, apart i n (omega arith) (omega arith) q e z) in
        let r = rest (λ i. instead m (f n) (f i)) m
        (λ i h q. instead_below m (f n) (f i) (low n (omega arith) e) (low i (omega arith) q) (other i h q))
        (λ i k h l q w z. apart i k (omega arith) (omega arith) q w (instead_apart m (f n) (f i) (f k) (other i h q) (other k l w) z)) in
        rw e (omega arith)

-- and where none of those numbers is b, there are fewer than m
pub count_avoiding : (ok : ℕ → Bool) (n m b : ℕ) (f : ℕ → ℕ) → b < m → ((i : ℕ) → i < n → ok i ≡ true → (f i < m) × (f i ≢ b))
    → ((i k : ℕ) → i < n → k < n → ok i ≡ true → ok k ≡ true → f i ≡ f k → i ≡ k) → how_many ok n < m
count_avoiding ok n zero b f l low apart = absurd (omega arith)
count_avoiding ok n (suc m) b f l low apart =
    let r = count_into ok n m (λ i. instead m b (f i)) (λ i h q. instead_below m b (f i) l (low i h q).0 (low i h q).1)
    (λ i k h g q w z. apart i k h g q w (instead_apart m b (f i) (f k) (low i h q).1 (low k g w).1 z)) in
    omega arith

all_pass : (n : ℕ) → how_many (λ _. true) n ≡ n
unfolding how_many
all_pass zero = refl
all_pass (suc n) = omega (arith, all_pass n)

-- the pigeonhole: n distinct numbers below m are at most m
pub pigeons : (m n : ℕ) (f : ℕ → ℕ) → ((i : ℕ) → i < n → f i < m) → ((i k : ℕ) → i < n → k < n → f i ≡ f k → i ≡ k) → n ≤ m
pigeons m n f low apart = omega (arith, all_pass n, count_into (λ _. true) n m f (λ i h _. low i h) (λ i k h l _ _ e. apart i k h l e))

-- and fewer, where none of them is b
pub fewer : (n m b : ℕ) (f : ℕ → ℕ) → b < m → ((i : ℕ) → i < n → (f i < m) × (f i ≢ b)) → ((i k : ℕ) → i < n → k < n → f i ≡ f k → i ≡ k) → n < m
fewer n m b f l low apart = omega (arith, all_pass n, count_avoiding (λ _. true) n m b f l (λ i h _. low i h) (λ i k h g _ _ e. apart i k h g e))

-- the same of a list: distinct numbers below m are at most m
pub distinct_few : (m : ℕ) (l : List ℕ) → ((i : ℕ) → i < length l → get_or l i 0 < m)
    → ((i k : ℕ) → i < length l → k < length l → get_or l i 0 ≡ get_or l k 0 → i ≡ k) → length l ≤ m
distinct_few m l low apart = pigeons m (length l) (λ i. get_or l i 0) low apart

-- ---- a loop that counts, at its start and after one turn
pub how_many_none : (ok : ℕ → Bool) → how_many ok 0 ≡ 0
unfolding how_many
how_many_none ok = refl

pub how_many_turn : (ok : ℕ → Bool) (n : ℕ) → how_many ok (n + 1) ≡ how_many ok n + (if ok n then 1 else 0)
unfolding how_many
how_many_turn ok n = rw (add-one n)

-- ---- how many pass grows with the bound
how_many_up : (ok : ℕ → Bool) (i n : ℕ) → i ≤ n → how_many ok i ≤ how_many ok n
unfolding how_many
how_many_up ok i zero h = rw (let z : i ≡ 0 = omega arith in z) (omega arith)
how_many_up ok i (suc n) h = elim (ℕ_discrete i (suc n)) [ yes e ↦ rw e (omega arith) | no d ↦ omega (arith, how_many_up ok i n (omega arith)) ]

-- two tests that agree below n are passed by as many
pub how_many_same : (ok ok' : ℕ → Bool) (n : ℕ) → ((i : ℕ) → i < n → ok i ≡ ok' i) → how_many ok n ≡ how_many ok' n
unfolding how_many
how_many_same ok ok' zero same = refl
how_many_same ok ok' (suc n) same = rw (how_many_same ok ok' n (λ i h. same i (omega arith)), same n (omega arith))

-- none of those from i on passes: they do not count
pub how_many_past : (ok : ℕ → Bool) (i n : ℕ) → i ≤ n → ((k : ℕ) → i ≤ k → k < n → ok k ≡ false) → how_many ok i ≡ how_many ok n
unfolding how_many
how_many_past ok i zero h none = rw (let z : i ≡ 0 = omega arith in z)
how_many_past ok i (suc n) h none = elim (ℕ_discrete i (suc n)) [
  | yes e ↦ rw e
  | no d ↦ rw (none n (omega arith) (omega arith)) (how_many_past ok i n (omega arith) (λ k f g. none k f (omega arith)) ∙ (let z : how_many ok n ≡ how_many ok n + 0 = omega arith in z))
]

-- two tests that agree below n but at t: the counts differ by what they say of t
pub how_many_change : (ok ok' : ℕ → Bool) (t n : ℕ) → t < n → ((i : ℕ) → i < n → i ≢ t → ok i ≡ ok' i)
    → how_many ok n + (if ok' t then 1 else 0) ≡ how_many ok' n + (if ok t then 1 else 0)
unfolding how_many
how_many_change ok ok' t zero h same = absurd (omega arith)
how_many_change ok ok' t (suc n) h same = elim (ℕ_discrete t n) [
  | yes e ↦ rw e (omega (arith, how_many_same ok ok' n (λ i l. same i (omega arith) (omega arith))))
  | no d ↦ rw (same n (omega arith) (λ e. d (omega arith))) (omega (arith, how_many_change ok ok' t n (omega arith) (λ i l. same i (omega arith))))
]

-- at most all of them pass
pub how_many_most : (ok : ℕ → Bool) (n : ℕ) → how_many ok n ≤ n
how_many_most ok n = count_into ok n n (λ i. i) (λ i h q. h) (λ i k h l q w e. e)

how_many_at : (ok : ℕ → Bool) (i n : ℕ) → i < n → ok i ≡ true → how_many ok i < how_many ok n
unfolding how_many
how_many_at ok i n h e =
    let u = how_many_up ok (suc i) n h in
    omega (arith, rw e at u)

-- one passes: some do
pub how_many_some : (ok : ℕ → Bool) (i n : ℕ) → i < n → ok i ≡ true → 0 < how_many ok n
how_many_some ok i n h e = omega (arith, how_many_at ok i n h e)

-- those below n that pass one test go to distinct numbers below m that pass another: there are at most as many
pub count_onto : (ok ok' : ℕ → Bool) (n m : ℕ) (f : ℕ → ℕ) → ((i : ℕ) → i < n → ok i ≡ true → (f i < m) × (ok' (f i) ≡ true))
    → ((i k : ℕ) → i < n → k < n → ok i ≡ true → ok k ≡ true → f i ≡ f k → i ≡ k) → how_many ok n ≤ how_many ok' m
count_onto ok ok' n m f good apart =
    count_into ok n (how_many ok' m) (λ i. how_many ok' (f i)) (λ i h q. how_many_at ok' (f i) m (good i h q).0 (good i h q).1)
    (λ i k h l q w e. apart i k h l q w (elim (dec_lt (f i) (f k)) [
      | yes y ↦ absurd (omega (arith, how_many_at ok' (f i) (f k) y (good i h q).1))
      | no y ↦ elim (dec_lt (f k) (f i)) [ yes z ↦ absurd (omega (arith, how_many_at ok' (f k) (f i) z (good k l w).1)) | no z ↦ omega arith ]
    ]))

-- m distinct numbers below n pass: at least m do
pub count_from : (ok : ℕ → Bool) (n m : ℕ) (f : ℕ → ℕ) → ((k : ℕ) → k < m → (f k < n) × (ok (f k) ≡ true)) → ((i k : ℕ) → i < m → k < m → f i ≡ f k → i ≡ k) → m ≤ how_many ok n
count_from ok n m f good apart = omega (arith, all_pass m, count_onto (λ _. true) ok m n f (λ k h _. good k h) (λ i k h l _ _ e. apart i k h l e))
