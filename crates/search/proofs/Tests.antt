-- A test that computes against the statement that it tests, both ways, and the ruleset `tests`: `simp tests at h` turns
-- `h : test ≡ true` into statements, and `simp tests t` proves `test ≡ true` from them. Assumes nothing.
use Prim.Native.Nat.{ℕ, zero, suc, ◌<◌, ◌≤◌, min}
use native.Mathlib.Nat.{not-suc-le-zero, eq-or-lt_of_le, le_of_suc-le-suc}
use native.Mathlib.Omega.{arith}
use native.Mathlib.Decide.{ℕ_discrete, dec_lt}
use mathlib.Core.Path.{◌≡◌, refl, sym, ◌∙◌, ap}
use mathlib.Core.Logic.{◌⊎◌, ⊎_elim, inl, inr, ◌↔◌}
use mathlib.Core.Bool.{Bool, true, false, not, ◌&&◌, ◌||◌}
use lib.Dec.{eqb, ltb, leb}
use borrow.Author.Tests.{leb-false, lt-leb, not-false, eq-eqb, leb-true, le-leb, not-true, eqb-true, eqb-false, ltb-true, ltb-false, lt-ltb, le-ltb, ne_eqb}
use Rattle.search.specs.Words.{◌implies◌}
use Rattle.search.specs.Below.{all_below, any_below}

pub never {ℓ} : {A : Type ℓ} {b : Bool} → b ≡ false → b ≡ true → A
never e h = let z : ◌≡◌ {A = ℕ} 0 1 = cc in absurd (omega arith)

-- an index below suc n is n or below n
below_suc : {i n : ℕ} → i < suc n → (i ≡ n) ⊎ (i < n)
below_suc h = eq-or-lt_of_le (le_of_suc-le-suc h)

-- ---- tests joined
pub and_left : (a b : Bool) → (a && b) ≡ true → a ≡ true
and_left true b h = refl
and_left false b h = h

pub and_right : (a b : Bool) → (a && b) ≡ true → b ≡ true
and_right true b h = h
and_right false b h = never refl h

and_both : (a b : Bool) → a ≡ true → b ≡ true → (a && b) ≡ true
and_both true b g h = h
and_both false b g h = g

pub and_iff : (a b : Bool) → ((a && b) ≡ true) ↔ ((a ≡ true) × (b ≡ true))
and_iff a b = (λ h. (and_left a b h, and_right a b h), λ p. and_both a b p.0 p.1)

or_none : (a b : Bool) → (a || b) ≡ false → (a ≡ false) × (b ≡ false)
or_none true b h = never refl (sym h)
or_none false b h = (refl, h)

pub or_none_iff : (a b : Bool) → ((a || b) ≡ false) ↔ ((a ≡ false) × (b ≡ false))
or_none_iff a b = (or_none a b, λ p. rw (p.0, p.1))

pub implies_iff : (a b : Bool) → ((a implies b) ≡ true) ↔ (a ≡ true → b ≡ true)
implies_iff a b = (there a b, back a b)
  where
    there : (a b : Bool) → (a implies b) ≡ true → a ≡ true → b ≡ true
    there true b h e = h
    there false b h e = never refl e

    back : (a b : Bool) → (a ≡ true → b ≡ true) → (a implies b) ≡ true
    back true b f = f refl
    back false b f = refl

pub not_false_iff : (b : Bool) → (not b ≡ false) ↔ (b ≡ true)
not_false_iff b = (not-false b, λ e. rw e)

-- ---- numbers compared
pub eqb_iff : (a b : ℕ) → (eqb a b ≡ true) ↔ (a ≡ b)
eqb_iff a b = (eqb-true a b, eq-eqb a b)

pub eqb_false_iff : (a b : ℕ) → (eqb a b ≡ false) ↔ (a ≡ b → ⊥)
eqb_false_iff a b = (eqb-false a b, ne_eqb a b)

pub not_eqb_iff : (a b : ℕ) → (not (eqb a b) ≡ true) ↔ (a ≡ b → ⊥)
not_eqb_iff a b = (λ h. eqb-false a b (not-true (eqb a b) h), λ f. rw (ne_eqb a b f))

pub leb_iff : (a b : ℕ) → (leb a b ≡ true) ↔ (a ≤ b)
leb_iff a b = (leb-true a b, le-leb a b)

pub leb_false_iff : (a b : ℕ) → (leb a b ≡ false) ↔ (b < a)
leb_false_iff a b = (leb-false a b, lt-leb a b)

pub ltb_iff : (a b : ℕ) → (ltb a b ≡ true) ↔ (a < b)
ltb_iff a b = (ltb-true a b, lt-ltb a b)

pub ltb_false_iff : (a b : ℕ) → (ltb a b ≡ false) ↔ (b ≤ a)
ltb_false_iff a b = (ltb-false a b, le-ltb a b)

-- ---- every number below a bound, and some number below it
pub all_below_at : (n : ℕ) (ok : ℕ → Bool) → all_below n ok ≡ true → (i : ℕ) → i < n → ok i ≡ true
unfolding all_below
all_below_at zero ok h i l = absurd (not-suc-le-zero l)
all_below_at (suc n) ok h i l =
    ⊎_elim (λ e. rw e (and_right (all_below n ok) (ok n) h)) (λ m. all_below_at n ok (and_left (all_below n ok) (ok n) h) i m) (below_suc l)

pub all_below_of : (n : ℕ) (ok : ℕ → Bool) → ((i : ℕ) → i < n → ok i ≡ true) → all_below n ok ≡ true
unfolding all_below
all_below_of zero ok f = refl
all_below_of (suc n) ok f = and_both (all_below n ok) (ok n) (all_below_of n ok (λ i l. f i (omega arith))) (f n (omega arith))

pub all_below_iff : (n : ℕ) (ok : ℕ → Bool) → (all_below n ok ≡ true) ↔ ((i : ℕ) → i < n → ok i ≡ true)
all_below_iff n ok = (all_below_at n ok, all_below_of n ok)

any_of : (n : ℕ) (ok : ℕ → Bool) (i : ℕ) → i < n → ok i ≡ true → any_below n ok ≡ true
unfolding any_below
any_of zero ok i l e = absurd (not-suc-le-zero l)
any_of (suc n) ok i l e = go (any_below n ok) (ok n) (⊎_elim (λ q. inr (ap ok (sym q) ∙ e)) (λ m. inl (any_of n ok i m e)) (below_suc l))
  where
    go : (a b : Bool) → (a ≡ true) ⊎ (b ≡ true) → (a || b) ≡ true
    go true b x = refl
    go false b x = ⊎_elim (λ z. never refl z) (λ z. z) x

any_some : (n : ℕ) (ok : ℕ → Bool) → any_below n ok ≡ true → (i : ℕ) × (i < n) × (ok i ≡ true)
unfolding any_below
any_some zero ok h = never refl h
any_some (suc n) ok h = go (any_below n ok) refl h (any_some n ok)
  where
    go : (a : Bool) → any_below n ok ≡ a → (a || ok n) ≡ true → (any_below n ok ≡ true → (i : ℕ) × (i < n) × (ok i ≡ true)) → (i : ℕ) × (i < suc n) × (ok i ≡ true)
    go true e h r = let x = r e in (x.0, omega (arith, x.1), x.2)
    go false e h r = (n, omega arith, h)

pub any_below_iff : (n : ℕ) (ok : ℕ → Bool) → (any_below n ok ≡ true) ↔ ((i : ℕ) × (i < n) × (ok i ≡ true))
any_below_iff n ok = (any_some n ok, λ x. any_of n ok x.0 x.1 x.2)

any_none : (n : ℕ) (ok : ℕ → Bool) → ((i : ℕ) → i < n → ok i ≡ false) → any_below n ok ≡ false
unfolding any_below
any_none zero ok f = refl
any_none (suc n) ok f = rw (any_none n ok (λ i l. f i (omega arith)), f n (omega arith))

pub any_below_none_iff : (n : ℕ) (ok : ℕ → Bool) → (any_below n ok ≡ false) ↔ ((i : ℕ) → i < n → ok i ≡ false)
any_below_none_iff n ok = ((λ h i l. at (ok i) (λ e. never h (any_of n ok i l e))), any_none n ok)
  where
    at : (b : Bool) → (b ≡ true → ⊥) → b ≡ false
    at true f = absurd (f refl)
    at false f = refl

pub any_below_same : (n : ℕ) (ok ok' : ℕ → Bool) → ((i : ℕ) → i < n → ok i ≡ ok' i) → any_below n ok ≡ any_below n ok'
unfolding any_below
any_below_same zero ok ok' same = refl
any_below_same (suc n) ok ok' same = rw (any_below_same n ok ok' (λ i l. same i (omega arith)), same n (omega arith))

-- a test that answers the same from k on: k stands for all of those
steady_any : (ok : ℕ → Bool) (k : ℕ) → ((i : ℕ) → k ≤ i → ok i ≡ ok k) → (n : ℕ) → k < n → any_below n ok ≡ any_below (suc k) ok
unfolding any_below
steady_any ok k same zero h = absurd (not-suc-le-zero h)
steady_any ok k same (suc n) h = elim (ℕ_discrete n k) [
  | yes e ↦ rw e
  | no d ↦ rw (steady_any ok k same n (omega arith), same n (omega arith)) (again (any_below k ok) (ok k))
]
  where
    again : (a b : Bool) → ((a || b) || b) ≡ (a || b)
    again true b = refl
    again false true = refl
    again false false = refl

pub any_below_steady : (n : ℕ) (ok : ℕ → Bool) (k : ℕ) → ((i : ℕ) → k ≤ i → ok i ≡ ok k) → any_below (min n (suc k)) ok ≡ any_below n ok
any_below_steady n ok k same = elim (dec_lt k n) [
  | yes h ↦
      let e : min n (suc k) ≡ suc k = omega arith in
      rw e (sym (steady_any ok k same n h))
  | no d ↦
      let e : min n (suc k) ≡ n = omega arith in
      rw e
]

pub all_below_not : (n : ℕ) (ok : ℕ → Bool) → all_below n (λ i. not (ok i)) ≡ not (any_below n ok)
unfolding all_below any_below
all_below_not zero ok = refl
all_below_not (suc n) ok = rw (all_below_not n ok) (neither (any_below n ok) (ok n))
  where
    neither : (a b : Bool) → (not a && not b) ≡ not (a || b)
    neither true b = refl
    neither false b = refl

pub ruleset tests =
    (ltb_iff, ltb_false_iff, leb_iff, leb_false_iff, eqb_iff, eqb_false_iff, not_eqb_iff, and_iff, or_none_iff, implies_iff, not_false_iff, all_below_iff, any_below_iff, any_below_none_iff)
