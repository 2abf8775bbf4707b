-- Laws of texts put into a buffer. Assumes nothing.
use Prim.Native.Nat.{ℕ, zero, suc, ◌+◌, ◌-◌, ◌/◌, ◌≤◌, ◌<◌}
use mathlib.Core.Path.{◌≡◌, refl, sym, ap, ◌∙◌}
use mathlib.Core.List.{List, [], ◌++◌}
use native.Mathlib.Numerals.{add-one}
use native.Mathlib.Omega.{arith}
use lib.ListN.{length, length-append}
use borrow.Author.Tests.{lt-ltb, le-ltb, eq-eqb, ne_eqb}
use Rattle.numbers.specs.Limits.{nothing}
use Rattle.states.specs.Writing.{written}
use Rattle.states.proofs.Writing.{written_join}
use Rattle.search.specs.Texts.{codes, digit, digits, decimal, most_digits, each_text}
use Rattle.lines.specs.Buffers.{Put}
use Rattle.lines.specs.Texts.{task_text, place_text}

-- ---- texts
-- one text behind another
pub put_then : {a b c x y : List ℕ} {at m n : ℕ} → Put a at x m b → Put b m y n c → Put a at (x ++ y) n c
put_then {a} {b} {c} {x} {y} {at} {m} {n} p q = record {
  place = omega (arith, p.place, q.place, length-append x y);
  bytes = q.bytes ∙ rw (p.place, p.bytes) (sym (written_join a at x y));
}

pub put_none : (a : List ℕ) (at : ℕ) → Put a at [] at a
unfolding written
put_none a at = record { place = omega arith; bytes = refl }

-- one text more of each
pub put_more : {a b c : List ℕ} {at m n : ℕ} (text : ℕ → List ℕ) (k : ℕ) → Put a at (each_text text k) m b → Put b m (text k) n c → Put a at (each_text text (k + 1)) n c
unfolding each_text
put_more text k p q = rw (add-one k) (put_then p q)

-- ---- digits: none, the last alone, and the last behind the others
pub digits_none : (k n : ℕ) → k ≡ 0 → digits k n ≡ []
unfolding digits
digits_none k n none = rw none

pub digits_few : (k n : ℕ) → (k ≡ 0 → ⊥) → n < 10 → digits k n ≡ digit n
unfolding digits
digits_few zero n some few = absurd (some refl)
digits_few (suc k) n some few = rw (lt-ltb n 10 few)

pub digits_many : (k n : ℕ) → (k ≡ 0 → ⊥) → 10 ≤ n → digits k n ≡ digits (k - 1) (n / 10) ++ digit n
unfolding digits
digits_many zero n some many = absurd (some refl)
digits_many (suc k) n some many =
    let e : suc k - 1 ≡ k = omega arith in
    rw (e, le-ltb n 10 many)

pub digits_longer : (k n : ℕ) → (k ≡ 0 → ⊥) → 10 ≤ n → length (digits k n) ≡ length (digits (k - 1) (n / 10)) + 1
digits_longer k n some many = ap length (digits_many k n some many) ∙ length-append (digits (k - 1) (n / 10)) (digit n)

-- a number of one digit, and of two
pub decimal_one : (n : ℕ) → n < 10 → decimal n ≡ digit n
decimal_one n few = digits_few most_digits n (λ e. absurd (omega (arith, e))) few

pub decimal_two : (n : ℕ) → 10 ≤ n → n < 100 → decimal n ≡ digit (n / 10) ++ digit n
decimal_two n many few =
    digits_many most_digits n (λ e. absurd (omega (arith, e))) many ∙ ap (λ (l : List ℕ). l ++ digit n) (digits_few (most_digits - 1) (n / 10) (λ e. absurd (omega (arith, e))) (omega arith))

-- ---- tasks
pub task_none : {t : ℕ} → t ≡ nothing → task_text t ≡ codes "-"
unfolding task_text
task_none {t} none = rw (eq-eqb t nothing none)

pub task_some : {t : ℕ} → (t ≡ nothing → ⊥) → task_text t ≡ decimal t
unfolding task_text
task_some {t} some = rw (ne_eqb t nothing some)

pub place_long : (linked running : ℕ) → length (place_text linked running) ≡ length (task_text linked) + length (task_text running) + 2
place_long linked running = simp length-append (omega arith)
