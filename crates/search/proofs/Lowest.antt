-- Numbers that pass a test, with distinct ranks: those with fewer than m lower ones are the m lowest. Assumes nothing.
use Prim.Native.Nat.{ℕ, zero, suc, ◌+◌, ◌-◌, ◌<◌, ◌≤◌, min}
use mathlib.Core.Path.{◌≡◌, refl}
use mathlib.Core.Bool.{Bool, true, false, not, ◌&&◌}
use native.Mathlib.Omega.{arith}
use native.Mathlib.Decide.{ℕ_discrete, dec_lt}
use lib.Dec.{ltb}
use borrow.Author.Tests.{not-true, ltb-false, eq-eqb, ne_eqb, le-ltb}
use Rattle.std.specs.Prelude.{if◌then◌else◌}
use Rattle.search.specs.Words.{◌is◌}
use Rattle.search.specs.Below.{how_many}
use Rattle.search.proofs.Pigeons.{count_into, count_onto, how_many_change}
use Rattle.search.proofs.Tests.{tests}

-- those that pass are those that pass one more test, and those that do not
how_many_split : (ok more : ℕ → Bool) (n : ℕ)
    → how_many (λ i. ok i && more i) n + how_many (λ i. ok i && not (more i)) n ≡ how_many ok n
unfolding how_many
how_many_split ok more zero = refl
how_many_split ok more (suc n) = go (ok n) (more n) (how_many_split ok more n)
  where
    go : (a b : Bool) → how_many (λ i. ok i && more i) n + how_many (λ i. ok i && not (more i)) n ≡ how_many ok n
        → (how_many (λ i. ok i && more i) n + (if a && b then 1 else 0))
        + (how_many (λ i. ok i && not (more i)) n + (if a && not b then 1 else 0))
        ≡ how_many ok n + (if a then 1 else 0)
    go true true h = omega arith
    go true false h = omega arith
    go false b h = omega arith

not_less : (a m : ℕ) → not (ltb a m) ≡ true → m ≤ a
not_less a m h = ltb-false a m (not-true (ltb a m) h)

module _ (ok : ℕ → Bool) (rank : ℕ → ℕ) (n : ℕ) where
  -- how many are lower than t
  abbrev pub lower_than : ℕ → ℕ
  lower_than t = how_many (λ u. ok u && ltb (rank u) (rank t)) n

  -- those that pass another test, t among them, are more than those lower than t, where each of these passes it too
  one_more : (t : ℕ) (other : ℕ → Bool) → t < n → other t ≡ true
      → ((i : ℕ) → i < n → ok i ≡ true → rank i < rank t → other i ≡ true) → lower_than t < how_many other n
  one_more t other h own all =
      let low : ℕ → Bool = λ u. ok u && ltb (rank u) (rank t) in
      let with-t : ℕ → Bool = λ u. if u is t then true else low u in
      let changed = how_many_change low with-t t n h (λ i _ d. rw (ne_eqb i t d)) in
      let among = count_onto with-t other n n (λ i. i) (λ i l q. (l, go i l q)) (λ i k _ _ _ _ e. e) in
      omega (arith, among, rw (eq-eqb t t refl, not_lower) at changed)
    where
      none : (b : Bool) → (b && false) ≡ false
      none true = refl
      none false = refl

      not_lower : (ok t && ltb (rank t) (rank t)) ≡ false
      not_lower = rw (le-ltb (rank t) (rank t) (omega arith)) (none (ok t))

      go : (i : ℕ) → i < n → (if i is t then true else (ok i && ltb (rank i) (rank t))) ≡ true → other i ≡ true
      go i l q = elim (ℕ_discrete i t) [
        | yes e ↦ rw e own
        | no d ↦ let z = simp tests at (rw (ne_eqb i t d) at q) in all i l z.0 z.1
      ]

module _ (ok : ℕ → Bool) (rank : ℕ → ℕ) (n : ℕ)
    (apart : (i k : ℕ) → i < n → k < n → ok i ≡ true → ok k ≡ true → rank i ≡ rank k → i ≡ k) where
  -- a lower one has fewer lower ones
  pub lower_up : (t u : ℕ) → t < n → ok t ≡ true → rank t < rank u → lower_than ok rank n t < lower_than ok rank n u
  lower_up t u h q l = one_more ok rank n t (λ i. ok i && ltb (rank i) (rank u)) h (simp tests (q, l))
      (λ i _ p less. simp tests (p, omega arith))

  lower_apart : (t u : ℕ) → t < n → u < n → ok t ≡ true → ok u ≡ true → lower_than ok rank n t ≡ lower_than ok rank n u
      → t ≡ u
  lower_apart t u h g q w e = elim (dec_lt (rank t) (rank u)) [
    | yes l ↦ absurd (omega (arith, e, lower_up t u h q l))
    | no l ↦ elim (dec_lt (rank u) (rank t)) [
      | yes k ↦ absurd (omega (arith, e, lower_up u t g w k))
      | no k ↦ apart t u h g q w (omega arith)
    ]
  ]

  -- as many as m have fewer than m lower ones, or all if fewer pass
  pub lowest_many : (m : ℕ) → how_many (λ t. ok t && ltb (lower_than ok rank n t) m) n ≡ min m (how_many ok n)
  lowest_many m =
      let all = how_many ok n in
      let few : ℕ → Bool = λ t. ltb (lower_than ok rank n t) m in
      let most = count_into (λ t. ok t && few t) n m (lower_than ok rank n) (λ i h q. (simp tests at q).1)
      (λ i k h l q w e. lower_apart i k h l (simp tests at q).0 (simp tests at w).0 e) in
      let others = count_into (λ t. ok t && not (few t)) n (all - m) (λ t. lower_than ok rank n t - m)
      (λ i h q. let z = simp tests at q in omega (
        arith,
        not_less _ m z.1,
        one_more ok rank n i ok h z.0 (λ k _ p _. p),
      ))
      (λ i k h l q w e.
      let y = simp tests at q in
      let z = simp tests at w in
      lower_apart i k h l y.0 z.0 (omega (arith, e, not_less _ m y.1, not_less _ m z.1))) in
      omega (arith, most, others, how_many_split ok few n)
