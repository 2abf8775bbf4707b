-- The best passes, and none that passes is better. Assumes nothing.
use Prim.Native.Nat.{ℕ, zero, suc, ◌+◌, ◌≤◌, ◌<◌}
use mathlib.Core.Path.{◌≡◌, refl, sym, ap, subst, ◌∙◌}
use mathlib.Core.Bool.{Bool, true, false}
use mathlib.Core.Logic.{◌⊎◌, inl, inr, ⊎_elim}
use native.Mathlib.Omega.{arith}
use native.Mathlib.Nat.{not-suc-le-zero}
use native.Mathlib.Numerals.{add-one}
use native.Mathlib.Decide.{ℕ_discrete, dec_lt}
use borrow.Author.Tests.{eqb-true, eqb-false}
use Rattle.std.specs.Prelude.{if◌then◌else◌}
use Rattle.search.specs.Words.{◌is◌}
use Rattle.search.specs.Best.{better, best}
use Rattle.search.proofs.Tests.{never}

-- b is the best of those below n that pass, or `none`; `R m b` says that m is not better than b
pub record Best (ok : ℕ → Bool) (R : ℕ → ℕ → Type 0) (none n b : ℕ) : Type 0 where
  pub one : (b ≡ none) ⊎ ((b < n) × (ok b ≡ true))
  pub top : (m : ℕ) → m < n → ok m ≡ true → (b < n) × (ok b ≡ true) × R m b

module _
    (ok : ℕ → Bool) (over : ℕ → ℕ → Bool) (R : ℕ → ℕ → Type 0) (none : ℕ)
    (same : (a : ℕ) → R a a) (past : (a b c : ℕ) → R a b → R b c → R a c)
    (loses : (a b : ℕ) → over a b ≡ false → R a b) (wins : (a b : ℕ) → over a b ≡ true → R b a) where
  -- n passes and is the best so far
  new_best : (n : ℕ) → ok n ≡ true → ((m : ℕ) → m < n → ok m ≡ true → R m n) → Best ok R none (suc n) n
  new_best n o up = record {
    one = inr (omega arith, o);
    top = λ m h q. (
      omega arith,
      o,
      elim (ℕ_discrete m n) [ yes s ↦ subst (λ (x : ℕ). R x n) (sym s) (same n) | no d ↦ up m (omega arith) q ],
    );
  }

  -- n is not better than the best so far
  old_best : (n b : ℕ) → (b ≡ none) ⊎ ((b < n) × (ok b ≡ true)) → ((m : ℕ) → m < suc n → ok m ≡ true → (b < n) × (ok b ≡ true) × R m b) → Best ok R none (suc n) b
  old_best n b o up = record {
    one = ⊎_elim (λ z. inl z) (λ z. inr (omega arith, z.1)) o;
    top = λ m h q. let z = up m h q in (omega arith, z.1, z.2);
  }

  one_more : (n b : ℕ) → n < none → Best ok R none n b → (o e v : Bool) → ok n ≡ o → (b is none) ≡ e → over n b ≡ v
      → Best ok R none (suc n) (if o then (if e then n else if v then n else b) else b)
  one_more n b l r false e v po pe pv =
      old_best n b r.one (λ m h q. elim (ℕ_discrete m n) [ yes s ↦ never (ap ok s ∙ po) q | no d ↦ r.top m (omega arith) q ])
  one_more n b l r true true v po pe pv = new_best n po (λ m h q. absurd (omega (arith, (r.top m h q).0, eqb-true b none pe)))
  one_more n b l r true false true po pe pv = new_best n po (λ m h q. past m b n (r.top m h q).2 (wins n b pv))
  one_more n b l r true false false po pe pv =
      let z : (b < n) × (ok b ≡ true) = ⊎_elim (λ y. absurd (eqb-false b none pe y)) (λ y. y) r.one in
      old_best n b r.one (λ m h q. elim (ℕ_discrete m n) [
        | yes s ↦ (z.0, z.1, subst (λ (x : ℕ). R x b) (sym s) (loses n b pv))
        | no d ↦ r.top m (omega arith) q
      ])

  pub best_law : (n : ℕ) → n ≤ none → Best ok R none n (best ok over none n)
  unfolding best better
  best_law zero h = record { one = inl refl; top = λ m l q. absurd (not-suc-le-zero l) }
  best_law (suc n) h =
      one_more n (best ok over none n) h (best_law n (omega arith)) (ok n) (best ok over none n is none) (over n (best ok over none n)) refl refl refl

-- one turn of a loop that takes the candidates in order
pub best_turn : (ok : ℕ → Bool) (over : ℕ → ℕ → Bool) (none n : ℕ) → best ok over none (n + 1) ≡ better ok over none n (best ok over none n)
unfolding best
best_turn ok over none n = rw add-one

-- where no number from n on passes, the best of more numbers is the best of n
pub best_past : (ok : ℕ → Bool) (over : ℕ → ℕ → Bool) (none n m : ℕ) → n ≤ m → ((k : ℕ) → n ≤ k → k < m → ok k ≡ false)
    → best ok over none m ≡ best ok over none n
unfolding best better
best_past ok over none n zero h fails = let e : n ≡ 0 = omega arith in rw e
best_past ok over none n (suc m) h fails = elim (dec_lt m n) [
  | yes l ↦ let e : n ≡ suc m = omega arith in rw e
  | no l ↦ rw (fails m (omega arith) (omega arith)) (best_past ok over none n m (omega arith) (λ k a b. fails k a (omega arith)))
]
